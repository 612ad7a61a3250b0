-- Vertices that leave together: the entries that stay are the uses of what is left, their slots and degrees are kept, and
-- what came to degree 0 follows something that left.
use Rattle.std.proofs.Common.{◌≡◌, ◌+◌, ◌<◌, ◌⊎◌, ◌↔◌, ◌∙◌, ℕ, Bool, true, false, ◌==◌, ◌&&◌, not, List, []}
use Rattle.std.proofs.Common.{◌∷◌, ◌++◌, length, map, filter, refl, sym, ap, subst, inl, inr, eq-eqb, eqb-true}
use Rattle.std.specs.List.{sum_by}
use Rattle.std.proofs.lemmas.Bool.{both_ways, cases_Bool, false_from_ne_true, not-true, not_from_false}
use Rattle.std.proofs.lemmas.List.{append_assoc}
use Rattle.dt_lists.specs.Lists.{AnyIn, AllIn, Has, EachThen, Distinct}
use Rattle.dt_lists.proofs.Callers.{all_get, all_put, any_map, any_of_test, any_put, either_any, either_nat, either_not, has_map, has_middle, has_of_filtered, test_of_any, chain_step, Spot, spot}
use Rattle.dt_access.specs.declared.TxnId.{TxnId}
use Rattle.dt_sched.specs.Views.{View, Edge, IsWellFormed}
use Rattle.dt_queue.specs.Queues.{Waiting, entries_clash, followers}
use Rattle.dt_waits.specs.LeftInGraph.{IsLeft, IsOut, IsFree}
use Rattle.dt_waits.specs.Waits.{id_at, AreUses, IsFollowed, degree, is_leaving, is_of, lowered, lowered_by, slots_of}
use Rattle.dt_waits.proofs.LeftTransactions.{out_before}
use Rattle.dt_waits.proofs.NeighboursOfTheRest.{KeepsLater}
use Rattle.dt_waits.proofs.Sums.{filter_both, filter_same}
use Rattle.dt_waits.proofs.Degrees.{degree_leaving}
use Rattle.dt_waits.proofs.ChainsOfWaits.{edge_of_clash}
use Rattle.dt_waits.proofs.Uses.{uses_left}
use Rattle.dt_waits.proofs.DegreeZero.{either_first, free_by_degree, place_in_list, zero_sum}

-- what holds of each two items by their places holds of each and each later one
pub each_of_splits : {A : Type 0} (R : A → A → Type 0) (before xs : List A) → ((front between rest : List A) (v w : A) → before ++ xs ≡ front ++ v ∷ (between ++ w ∷ rest) → R v w) → EachThen R xs
each_of_splits R before [] f = tt
each_of_splits R before (x ∷ xs) f = (
  all_put _ xs (λ w h. let s : Spot xs w = spot xs w h in f before s.front s.rest x w (ap (λ l. before ++ x ∷ l) s.is)),
  each_of_splits R (before ++ x ∷ []) xs (λ front between rest v w e. f front between rest v w (sym (append_assoc before (x ∷ []) xs) ∙ e)),
)

pub leaving_has : (leaving : List ℕ) (v : ℕ) → is_leaving leaving v ≡ true → Has leaving v
leaving_has leaving v e = any_map _ _ leaving (λ u s. eqb-true u v s) (any_of_test (λ u. u == v) leaving e)

pub has_leaving : (leaving : List ℕ) (v : ℕ) → Has leaving v → is_leaving leaving v ≡ true
has_leaving leaving v h = test_of_any (λ u. u == v) leaving (any_map _ _ leaving (λ u s. eq-eqb u v s) h)

-- a sum that isn't zero has a term that isn't
term_of_sum : {A : Type 0} (f : A → ℕ) (xs : List A) → ¬ (sum_by f xs ≡ 0) → AnyIn (λ x. ¬ (f x ≡ 0)) xs
term_of_sum f xs n = elim (either_any (λ x. ¬ (f x ≡ 0)) xs (λ x. either_not (f x ≡ 0) (either_nat (f x) 0))) [
  | inl a ↦ a
  | inr none ↦ absurd (n (zero_sum f xs (all_put _ xs (λ x h. elim (either_nat (f x) 0) [ inl z ↦ z | inr nz ↦ absurd (none (any_put _ xs x h nz)) ]))))
]

-- where the degree of a vertex is lowered, it is followed
pub followed_of_lowered : (waiting : List Waiting) (leaving : List ℕ) (v : ℕ) → ¬ (lowered_by waiting leaving v ≡ 0) → IsFollowed waiting leaving v
followed_of_lowered waiting leaving v n = any_map _ _ leaving (λ u m. any_map _ _ (slots_of waiting u) (λ slot p. of_slot slot u p) (term_of_sum (λ slot. lowered waiting slot u v) (slots_of waiting u) m))
    (term_of_sum (λ u. sum_by (λ slot. lowered waiting slot u v) (slots_of waiting u)) leaving n)
  where
    of_slot : (slot u : ℕ) → ¬ (lowered waiting slot u v ≡ 0) → AnyIn (λ w. w.vertex ≡ v) (followers waiting slot)
    of_slot slot u p = elim (either_first (filter (is_of v) (followers waiting slot))) [
      | inl z ↦ absurd (p (by (cases_Bool (u == v)) z))
      | inr r ↦ let k : Has (followers waiting slot) r.0 × (is_of v r.0 ≡ true) = has_of_filtered (is_of v) (followers waiting slot) r.0 r.1 in any_put (λ w. w.vertex ≡ v) (followers waiting slot) r.0 k.0 (eqb-true r.0.vertex v k.1)
    ]
      where
        by : ((u == v) ≡ true) ⊎ ((u == v) ≡ false) → length (filter (is_of v) (followers waiting slot)) ≡ 0 → lowered waiting slot u v ≡ 0
        by (inl e) z = rw e refl
        by (inr e) z = rw e z

module _ (view : View) (done later ids : List TxnId) (waiting : List Waiting) (leaving : List ℕ) (well : IsWellFormed view) (once : Distinct ids) (uses : AreUses view done ids waiting)
    (within : AllIn (λ u. u < length ids) leaving) (outs : (t : TxnId) → IsOut view later t ↔ IsOut view done t ⊎ Has (map (id_at ids) leaving) t) where
  -- the entries that stay
  abbrev pub stays : Waiting → Bool
  stays w = not (is_leaving leaving w.vertex)

  pub left_still : (t : TxnId) → IsLeft view later t ↔ IsLeft view done t × ¬ (Has (map (id_at ids) leaving) t)
  left_still t = (
    λ l. ((l.0, λ o. l.1 ((outs t).1 (inl o))), λ m. l.1 ((outs t).1 (inr m))),
    λ r. (r.0.0, λ o. elim ((outs t).0 o) [ inl p ↦ r.0.1 p | inr m ↦ r.1 m ]),
  )

  named : (v : ℕ) → v < length ids → Has leaving v ↔ Has (map (id_at ids) leaving) (id_at ids v)
  named v lt = (
    λ h. has_map (id_at ids) leaving v h,
    λ h. place_in_list ids leaving v once within lt h,
  )

  -- a vertex that isn't one of them is still left, if it was
  pub left_vertex : (v : ℕ) → v < length ids → IsLeft view later (id_at ids v) ↔ IsLeft view done (id_at ids v) × (is_leaving leaving v ≡ false)
  left_vertex v lt = (
    λ l. let r : IsLeft view done (id_at ids v) × ¬ (Has (map (id_at ids) leaving) (id_at ids v)) = (left_still (id_at ids v)).0 l in
        (r.0, false_from_ne_true (is_leaving leaving v) (λ e. r.1 ((named v lt).0 (leaving_has leaving v e)))),
    λ r. (left_still (id_at ids v)).1 (r.0, λ m. let e : is_leaving leaving v ≡ true = has_leaving leaving v ((named v lt).1 m) in both_ways _ r.1 e),
  )

  in_ids : (w : Waiting) → Has waiting w → w.vertex < length ids
  in_ids w h = all_get _ waiting uses.vertices w h

  stays_left : (w : Waiting) → Has waiting w → (stays w ≡ true) ↔ IsLeft view later (id_at ids w.vertex)
  stays_left w h = (
    λ e. (left_vertex w.vertex (in_ids w h)).1 (all_get _ waiting uses.of_left w h, not-true _ e),
    λ l. not_from_false _ ((left_vertex w.vertex (in_ids w h)).0 l).1,
  )

  pub uses_together : AreUses view later ids (filter stays waiting)
  uses_together = uses_left view done later ids waiting uses stays stays_left (λ t l. ((left_still t).0 l).0)

  -- what stands after an entry that stays and clashes with it stays
  keeps_later : KeepsLater stays waiting
  keeps_later = each_of_splits _ [] waiting (λ front between rest v w is c kept. by front between rest v w is c kept (cases_Bool (is_leaving leaving w.vertex)))
    where
      by : (front between rest : List Waiting) (v w : Waiting) → waiting ≡ front ++ v ∷ (between ++ w ∷ rest) → entries_clash v w ≡ true → stays v ≡ true
          → (is_leaving leaving w.vertex ≡ true) ⊎ (is_leaving leaving w.vertex ≡ false) → stays w ≡ true
      by front between rest v w is c kept (inr e) = not_from_false _ e
      by front between rest v w is c kept (inl e) = absurd (still.1 (out_before view later (id_at ids v.vertex) (id_at ids w.vertex) (chain_step edge) out))
        where
          has_v : Has waiting v
          has_v = subst (λ l. Has l v) (sym is) (has_middle front v (between ++ w ∷ rest))

          has_w : Has waiting w
          has_w = subst (λ l. Has l w) (sym (is ∙ sym (append_assoc front (v ∷ between) (w ∷ rest)))) (has_middle (front ++ v ∷ between) w rest)

          still : IsLeft view later (id_at ids v.vertex)
          still = (stays_left v has_v).0 kept

          out : IsOut view later (id_at ids w.vertex)
          out = (outs (id_at ids w.vertex)).1 (inr ((named w.vertex (in_ids w has_w)).0 (leaving_has leaving w.vertex e)))

          edge : Edge view (id_at ids v.vertex) (id_at ids w.vertex)
          edge = edge_of_clash view done ids waiting well uses front between rest v w is c (λ s. still.1 (subst (IsOut view later) (sym s) out))

  -- the degrees of what stays
  pub degrees_together : Distinct leaving → (v : ℕ) → is_leaving leaving v ≡ false → degree waiting v ≡ degree (filter stays waiting) v + lowered_by waiting leaving v
  degrees_together distinct v e = degree_leaving waiting uses.distinct v leaving distinct keeps_later e

  -- the slots of what stays
  pub slots_together : (v : ℕ) → is_leaving leaving v ≡ false → slots_of (filter stays waiting) v ≡ slots_of waiting v
  slots_together v e = ap (map (λ w. w.slot)) (filter_both (is_of v) stays waiting ∙ filter_same _ (is_of v) waiting (λ w h. by w (cases_Bool (w.vertex == v))))
    where
      by : (w : Waiting) → ((w.vertex == v) ≡ true) ⊎ ((w.vertex == v) ≡ false) → ((w.vertex == v) && not (is_leaving leaving w.vertex)) ≡ (w.vertex == v)
      by w (inl s) = rw s (not_from_false _ (ap (is_leaving leaving) (eqb-true w.vertex v s) ∙ e))
      by w (inr s) = rw s refl

  -- what is free now is of degree 0 among what stays
  pub free_together : (v : ℕ) → v < length ids → (degree (filter stays waiting) v ≡ 0) ↔ IsFree view later (id_at ids v)
  free_together v lt = free_by_degree view later ids (filter stays waiting) well uses_together once v lt
