-- Ids in ascending order: what a sort gives, and lists that are compared.
use Rattle.std.proofs.Common.{◌≡◌, ◌∙◌, ◌↔◌, Bool, true, List, [], ◌∷◌, refl, sym, subst, IsTrue, IsPermutation, IsSorted}
use Rattle.std.specs.Cmp.Lexicographic.{pointwise}
use Rattle.std.proofs.lemmas.Bool.{and_parts}
use Rattle.dt_lists.specs.Lists.{Distinct}
use Rattle.dt_lists.proofs.Callers.{each_of_sorted, permuted_distinct, permuted_has}
use Rattle.dt_access.specs.Ids.{Before, same_id}
use Rattle.dt_access.specs.declared.TxnId.{TxnId}
use Rattle.dt_access.proofs.Callers.{before_or_above, before_transitive, by_parts, id_of_test, same_id_turned, test_of_id}
use Rattle.dt_plain.proofs.IdEquality.{ids_same}
use Rattle.dt_plain.specs.IdListsInner.{IsOrderOf}

pub order_of_sorted : (xs ys : List TxnId) → Distinct xs → IsPermutation xs ys → IsSorted by_parts ys → IsOrderOf xs ys
order_of_sorted xs ys d p s = record {
  ascending = each_of_sorted by_parts Before before_or_above before_transitive ys s (permuted_distinct same_id id_of_test test_of_id same_id_turned xs ys p d);
  members = permuted_has xs ys p;
}

-- lists that are equal item by item
pub pointwise_same : (xs ys : List TxnId) → pointwise same_id xs ys ≡ true → xs ≡ ys
pointwise_same [] [] e = refl
pointwise_same [] (y ∷ ys) e = cc
pointwise_same (x ∷ xs) [] e = cc
pointwise_same (x ∷ xs) (y ∷ ys) e =
    let t : (same_id x y ≡ true) × (pointwise same_id xs ys ≡ true) = and_parts (same_id x y) (pointwise same_id xs ys) e in
    let h : x ≡ y = ids_same x y _ refl t.0 in
    let r : xs ≡ ys = pointwise_same xs ys t.1 in
    cc

pointwise_self : (xs : List TxnId) → pointwise same_id xs xs ≡ true
pointwise_self [] = refl
pointwise_self (x ∷ xs) = rw (test_of_id x x refl, pointwise_self xs) refl

pub pointwise_tells : (xs ys : List TxnId) (t : Bool) → t ≡ pointwise same_id xs ys → IsTrue t ↔ (xs ≡ ys)
pointwise_tells xs ys t e =
    (λ h. pointwise_same xs ys (sym e ∙ h), λ s. e ∙ subst (λ zs. pointwise same_id xs zs ≡ true) s (pointwise_self xs))
