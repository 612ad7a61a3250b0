-- Ids of places, as a sort gives them.
use Rattle.std.proofs.Common.{◌≡◌, ◌↔◌, ℕ, List, get_or, map, sym, subst, IsPermutation, IsSorted}
use Rattle.dt_lists.specs.Lists.{Has, Distinct}
use Rattle.dt_lists.proofs.Callers.{any_image, any_of_image, each_of_sorted, permuted_distinct, permuted_has}
use Rattle.dt_access.specs.Ids.{Before, same_id}
use Rattle.dt_access.specs.declared.TxnId.{TxnId}
use Rattle.dt_access.proofs.Callers.{before_or_above, before_transitive, by_parts, id_of_test, same_id_turned, test_of_id}
use Rattle.dt_graph.specs.SmallStepsInner.{AreIdsAt}
use Rattle.dt_waits.specs.Waits.{id_at}

-- ids of places, sorted
pub ids_sorted : (ids : List TxnId) (list places : List ℕ) (xs ys : List TxnId) → xs ≡ map (λ p. id_at ids (get_or list p 0)) places → IsPermutation xs ys → IsSorted by_parts ys
    → AreIdsAt ids list places ys
ids_sorted ids list places xs ys e p s = record {
  ascending = λ d. each_of_sorted by_parts Before before_or_above before_transitive ys s (permuted_distinct same_id id_of_test test_of_id same_id_turned xs ys p (subst Distinct (sym e) d));
  members = λ t. (
    λ h. any_of_image (λ x. x ≡ t) (λ p. id_at ids (get_or list p 0)) places (subst (λ zs. Has zs t) e ((there t).0 h)),
    λ a. (there t).1 (subst (λ zs. Has zs t) (sym e) (any_image (λ x. x ≡ t) (λ p. id_at ids (get_or list p 0)) places a)),
  );
}
  where
    there : (t : TxnId) → Has ys t ↔ Has xs t
    there t = permuted_has xs ys p t
