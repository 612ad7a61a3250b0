-- What is found by its id: among transactions, in a map, and among those that a region counted.
use Rattle.std.proofs.Common.{◌≡◌, ◌≢◌, ◌<◌, ◌+◌, ◌⊎◌, ℕ, zero, suc, true, false, cond, List, [], ◌∷◌, ◌++◌, map, Option, Some, None}
use Rattle.std.proofs.Common.{slice_get, refl, sym, ap, ap₂, ◌∙◌, inl, inr, is_some, if◌then◌else◌, arith}
use Rattle.std.proofs.lemmas.Bool.{false≢true}
use Rattle.std.proofs.lemmas.Option.{same_Some}
use Rattle.std.specs.Map.{lookup}
use Rattle.dt_lists.specs.Lists.{AllIn, Has}
use Rattle.dt_lists.proofs.Callers.{all_map}
use Rattle.dt_access.specs.Ids.{same_id}
use Rattle.dt_access.specs.declared.TxnId.{TxnId}
use Rattle.dt_txn.specs.declared.txn.Txn.{Txn}
use Rattle.dt_region.specs.Region.{find_txn}
use Rattle.dt_region.specs.ForeignInner.{AreKeyed}
use Rattle.dt_region.specs.Sound.{AreCounted}
use Rattle.dt_access.proofs.Callers.{id_of_test, test_of_id, test_of_other, same_id_turned}

-- a map that keeps each transaction under its own id finds the one of an id
pub find_keyed : (es : List (TxnId × Txn)) (id : TxnId) → AreKeyed es → lookup (same_id id) es ≡ find_txn (map (λ e. e.1) es) id
find_keyed [] id keyed = refl
find_keyed (e ∷ es) id keyed =
    ap₂ (λ b r. cond b (Some e.1) r) (ap (same_id id) keyed.0 ∙ same_id_turned id e.1.id) (find_keyed es id keyed.1)

-- keeping a transaction in such a map: where there is one of its id nothing changes, and else it comes last

pub hold_there : (es : List (TxnId × Txn)) (txn : Txn) → AreKeyed es → is_some (lookup (same_id txn.id) es) ≡ true →
    map (λ e. e.1) es ≡ (if is_some (find_txn (map (λ e. e.1) es) txn.id) then map (λ e. e.1) es else map (λ e. e.1) es ++ txn ∷ [])
hold_there es txn keyed there =
    ap (λ b. cond b (map (λ e. e.1) es) (map (λ e. e.1) es ++ txn ∷ [])) (sym there ∙ ap is_some (find_keyed es txn.id keyed))

-- an id under which nothing is found stands nowhere
pub none_there : {V : Type 0} (es : List (TxnId × V)) (id : TxnId) → is_some (lookup (same_id id) es) ≡ false → ¬ (Has (map (λ e. e.0) es) id)
none_there [] id none h = h
none_there (e ∷ es) id none h =
    elim (same_id id e.0) as (λ b. same_id id e.0 ≡ b → is_some (cond b (Some e.1) (lookup (same_id id) es)) ≡ false → ⊥) [
      | true ↦ λ t n. cc
      | false ↦ λ t n. elim h [
        | inl same ↦ false≢true (sym t ∙ test_of_id id e.0 (sym same))
        | inr later ↦ none_there es id n later
      ]
    ] refl none

pub hold_new : (es : List (TxnId × Txn)) (txn : Txn) → AreKeyed es → is_some (lookup (same_id txn.id) es) ≡ false →
    map (λ e. e.1) es ++ txn ∷ [] ≡ (if is_some (find_txn (map (λ e. e.1) es) txn.id) then map (λ e. e.1) es else map (λ e. e.1) es ++ txn ∷ [])
hold_new es txn keyed none =
    ap (λ b. cond b (map (λ e. e.1) es) (map (λ e. e.1) es ++ txn ∷ [])) (sym none ∙ ap is_some (find_keyed es txn.id keyed))

-- what is found has the id, and stands in the list
pub found : (txns : List Txn) (id : TxnId) (txn : Txn) → find_txn txns id ≡ Some txn → Has txns txn × (txn.id ≡ id)
found [] id txn e = cc
found (x ∷ txns) id txn e =
    elim (same_id x.id id) as (λ b. same_id x.id id ≡ b → cond b (Some x) (find_txn txns id) ≡ Some txn → Has (x ∷ txns) txn × (txn.id ≡ id)) [
      | true ↦ λ t h.
          let same : x ≡ txn = same_Some x txn h in
          (inl same, ap (λ y. y.id) (sym same) ∙ id_of_test x.id id t)
      | false ↦ λ t h.
          let r : Has txns txn × (txn.id ≡ id) = found txns id txn h in
          (inr r.0, r.1)
    ] refl e

-- one is found, or none
pub found_or_none : (txns : List Txn) (id : TxnId) → ((txn : Txn) × (find_txn txns id ≡ Some txn)) ⊎ (find_txn txns id ≡ None)
found_or_none txns id = by (find_txn txns id)
  where
    by : (o : Option Txn) → ((txn : Txn) × (o ≡ Some txn)) ⊎ (o ≡ None)
    by None = inr refl
    by (Some txn) = inl (txn, refl)

-- what has none of the id finds nothing
pub find_none : (txns : List Txn) (id : TxnId) → AllIn (λ txn. txn.id ≢ id) txns → find_txn txns id ≡ None
find_none [] id none = refl
find_none (x ∷ txns) id none = rw (test_of_other x.id id none.0) (find_none txns id none.1)

-- what is found in the first of two lists is found in both together, and else what is found in the second
pub find_left : (xs ys : List Txn) (id : TxnId) (txn : Txn) → find_txn xs id ≡ Some txn → find_txn (xs ++ ys) id ≡ Some txn
find_left [] ys id txn e = cc
find_left (x ∷ xs) ys id txn e =
    elim (same_id x.id id) as (λ b. cond b (Some x) (find_txn xs id) ≡ Some txn → cond b (Some x) (find_txn (xs ++ ys) id) ≡ Some txn) [
      | true ↦ λ h. h
      | false ↦ λ h. find_left xs ys id txn h
    ] e

pub find_right : (xs ys : List Txn) (id : TxnId) → find_txn xs id ≡ None → find_txn (xs ++ ys) id ≡ find_txn ys id
find_right [] ys id e = refl
find_right (x ∷ xs) ys id e =
    elim (same_id x.id id) as (λ b. cond b (Some x) (find_txn xs id) ≡ None → cond b (Some x) (find_txn (xs ++ ys) id) ≡ find_txn ys id) [
      | true ↦ λ h. cc
      | false ↦ λ h. find_right xs ys id h
    ] e

-- where nothing of the id is in the second list, what is found is found in the first
pub find_only : (xs ys : List Txn) (id : TxnId) → find_txn ys id ≡ None → find_txn (xs ++ ys) id ≡ find_txn xs id
find_only [] ys id e = e
find_only (x ∷ xs) ys id e = ap (cond (same_id x.id id) (Some x)) (find_only xs ys id e)

-- among what a region counted

pub counted_other : (region seq : ℕ) (txns : List Txn) (id : TxnId) → AreCounted region seq txns → id.region ≢ region → find_txn txns id ≡ None
counted_other region seq [] id counted other = refl
counted_other region seq (x ∷ txns) id counted other =
    rw (test_of_other x.id id (λ e. other (ap (λ i. i.region) (sym e ∙ counted.0)))) (counted_other region (seq + 1) txns id counted.1 other)

pub counted_below : (region seq : ℕ) (txns : List Txn) (id : TxnId) → AreCounted region seq txns → id.seq < seq → find_txn txns id ≡ None
counted_below region seq [] id counted lt = refl
counted_below region seq (x ∷ txns) id counted lt =
    rw (test_of_other x.id id (λ e. let s : id.seq ≡ seq = ap (λ i. i.seq) (sym e ∙ counted.0) in absurd (omega arith)))
    (counted_below region (seq + 1) txns id counted.1 (omega arith))

-- the one of a number stands at that place
pub counted_at : (region seq place : ℕ) (txns : List Txn) (id : TxnId) → AreCounted region seq txns → id.region ≡ region → id.seq ≡ seq + place → find_txn txns id ≡ slice_get txns place
counted_at region seq place [] id counted own at = refl
counted_at region seq zero (x ∷ txns) id counted own at =
    let same : x.id ≡ id = counted.0 ∙ (λ i. record { seq = sym first i; region = sym own i }) in
    rw (test_of_id x.id id same) refl
  where
    first : id.seq ≡ seq
    first = omega arith
counted_at region seq (suc place) (x ∷ txns) id counted own at =
    rw (test_of_other x.id id (λ e. let s : id.seq ≡ seq = ap (λ i. i.seq) (sym e ∙ counted.0) in absurd (omega arith)))
    (counted_at region (seq + 1) place txns id counted.1 own (omega arith))

-- what a region with this number holds of an id: of its own region what it submitted, and else what it got from others

pub apart : (number : ℕ) (foreign : List Txn) (id : TxnId) → AllIn (λ txn. txn.id.region ≢ number) foreign → id.region ≡ number → find_txn foreign id ≡ None
apart number foreign id others own = find_none foreign id (all_map _ _ foreign (λ txn other e. other (ap (λ i. i.region) e ∙ own)) others)

pub held_own : (number : ℕ) (submitted foreign : List Txn) (id : TxnId) (place : ℕ) → AreCounted number 1 submitted →
    AllIn (λ txn. txn.id.region ≢ number) foreign → id.region ≡ number → id.seq ≡ 1 + place → find_txn (submitted ++ foreign) id ≡ slice_get submitted place
held_own number submitted foreign id place counted others own at =
    find_only submitted foreign id (apart number foreign id others own) ∙ counted_at number 1 place submitted id counted own at

pub held_uncounted : (number : ℕ) (submitted foreign : List Txn) (id : TxnId) → AreCounted number 1 submitted → AllIn (λ txn. txn.id.region ≢ number) foreign
    → id.region ≡ number → id.seq < 1 → find_txn (submitted ++ foreign) id ≡ None
held_uncounted number submitted foreign id counted others own none =
    find_only submitted foreign id (apart number foreign id others own) ∙ counted_below number 1 submitted id counted none

pub held_foreign : (number : ℕ) (submitted foreign : List Txn) (id : TxnId) → AreCounted number 1 submitted → id.region ≢ number → find_txn (submitted ++ foreign) id ≡ find_txn foreign id
held_foreign number submitted foreign id counted other = find_right submitted foreign id (counted_other number 1 submitted id counted other)

-- what stands at the place of an id's number is what is held of it
pub held_numbered : (number : ℕ) (submitted foreign : List Txn) (id : TxnId) (answer : Option Txn) → AreCounted number 1 submitted → AllIn (λ txn. txn.id.region ≢ number) foreign → id.region ≡ number →
    (id.seq ≡ 0 → answer ≡ None) → ((place : ℕ) → id.seq ≡ place + 1 → answer ≡ slice_get submitted place) → answer ≡ find_txn (submitted ++ foreign) id
held_numbered number submitted foreign id answer counted others own none some = go id.seq refl
  where
    go : (n : ℕ) → id.seq ≡ n → answer ≡ find_txn (submitted ++ foreign) id
    go zero e = none e ∙ sym (held_uncounted number submitted foreign id counted others own (omega arith))
    go (suc place) e = some place (omega arith) ∙ sym (held_own number submitted foreign id place counted others own (omega arith))
