-- What helpers have while items are lent one after another, from the last helper to the first.
use Rattle.std.proofs.Common.{◌≡◌, ◌≢◌, ◌∙◌, ◌<◌, ◌+◌, ◌-◌, ℕ, suc, zero, List, Option, Some, ap, arith, get_or, length, slice_get, sym}
use Rattle.std.proofs.Math.ListN.{set}
use Rattle.std.proofs.lemmas.List.{get_or-set_other, get_or-set_same, length-set}
use Rattle.std.proofs.lemmas.Option.{slice_get-get_or}

module _ {X : Type 0} (xs : List X) (i : ℕ) (x : X) where
  -- what was just put is there
  pub lent_now : i < length xs → slice_get (set xs i x) i ≡ Some x
  lent_now lt = slice_get-get_or (set xs i x) i x (omega (arith, length-set xs i x)) ∙ ap Some (get_or-set_same xs i x x lt)

  -- and the rest is as it was
  pub lent_still : (k : ℕ) → k < length xs → k ≢ i → slice_get (set xs i x) k ≡ slice_get xs k
  lent_still k lt other =
      slice_get-get_or (set xs i x) k x (omega (arith, length-set xs i x)) ∙ ap Some (get_or-set_other xs i k x x other) ∙ sym (slice_get-get_or xs k x lt)

-- where the helpers from `place` on have the items behind the first `count + 1`, and the helper before them gets the item at `count`,
-- the helpers from that one on have the items behind the first `count`
pub lent_before : {X : Type 0} (all : List X) (hs : List (Option X)) (place count : ℕ) (item d : X) → 0 < place → item ≡ get_or all count d
    → ((k : ℕ) → k + place < length hs → slice_get hs (k + place) ≡ Some (Some (get_or all (count + 1 + k) d)))
    → (k : ℕ) → k + (place - 1) < length hs → slice_get (set hs (place - 1) (Some item)) (k + (place - 1)) ≡ Some (Some (get_or all (count + k) d))
lent_before all hs place count item d some is rest zero lt =
    let here : count ≡ count + 0 = omega arith in
    let first : 0 + (place - 1) ≡ place - 1 = omega arith in
    ap (slice_get (set hs (place - 1) (Some item))) first ∙ lent_now hs (place - 1) (Some item) (omega (arith, lt, first)) ∙ ap (λ x. Some (Some x)) (is ∙ ap (λ n. get_or all n d) here)
lent_before all hs place count item d some is rest (suc k) lt =
    let there : suc k + (place - 1) ≡ k + place = omega (arith, some) in
    let behind : count + 1 + k ≡ count + suc k = omega arith in
    lent_still hs (place - 1) (Some item) (suc k + (place - 1)) lt (λ e. omega (arith, e)) ∙ ap (slice_get hs) there ∙ rest k (omega (arith, lt, there))
    ∙ ap (λ n. Some (Some (get_or all n d))) behind
