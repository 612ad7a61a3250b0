-- What a caller's proof needs of queues: which entries wait after a push and after one is taken out.
-- All other lemmas of this crate are its own.
use Rattle.std.proofs.Common.{◌≡◌, ◌≢◌, ℕ, true, not, ◌==◌, List, [], ◌∷◌, ◌++◌, refl, inl, inr, arith}
use Rattle.dt_lists.specs.Lists.{AllIn}
use Rattle.dt_lists.proofs.Callers.{any_append_left, any_append_right, any_get, any_put, has_filter}
use Rattle.dt_queue.specs.Queues.{HasDistinctSlots, IsQueued, Waiting, taken_out}

-- what waited waits after a push
pub waits_longer : (ws : List Waiting) (w : Waiting) (slot : ℕ) → IsQueued ws slot → IsQueued (ws ++ w ∷ []) slot
waits_longer ws w slot h = any_append_left (λ (v : Waiting). v.slot ≡ slot) ws (w ∷ []) h

-- what was pushed waits
pub pushed_waits : (ws : List Waiting) (w : Waiting) → IsQueued (ws ++ w ∷ []) w.slot
pushed_waits ws w = any_append_right (λ (v : Waiting). v.slot ≡ w.slot) ws (w ∷ []) (inl refl)

-- what waited waits after another was taken out
pub waits_without : (ws : List Waiting) (gone slot : ℕ) → slot ≢ gone → IsQueued ws slot → IsQueued (taken_out ws gone) slot
waits_without ws gone slot ne h =
    let r = any_get (λ (v : Waiting). v.slot ≡ slot) ws h in
    any_put (λ (v : Waiting). v.slot ≡ slot) (taken_out ws gone) r.0 (has_filter (λ (v : Waiting). not (v.slot == gone)) ws r.0 r.1 (passes r.0 r.2)) r.2
  where
    passes : (v : Waiting) → v.slot ≡ slot → not (v.slot == gone) ≡ true
    passes v e = grind (arith, e, ne)

-- slots stay different
pub distinct_pushed : (ws : List Waiting) (w : Waiting) → HasDistinctSlots ws → ¬ (IsQueued ws w.slot) → HasDistinctSlots (ws ++ w ∷ [])
distinct_pushed [] w d fresh = (tt, tt)
distinct_pushed (v ∷ ws) w d fresh = (more ws d.0, distinct_pushed ws w d.1 (λ h. fresh (inr h)))
  where
    more : (xs : List Waiting) → AllIn (λ (x : Waiting). v.slot ≢ x.slot) xs → AllIn (λ (x : Waiting). v.slot ≢ x.slot) (xs ++ w ∷ [])
    more [] a = ((λ e. fresh (inl e)), tt)
    more (x ∷ xs) a = (a.0, more xs a.1)
