-- What is in two lists, gathered from the one.
use Rattle.std.specs.Prelude.{Result, Ok, Err, IfOk}
use Rattle.std.proofs.Common.{◌≡◌, ℕ, ◌+◌, ◌<◌, List, [], ◌∷◌, ◌++◌, length, get_or, take, drop, refl, sym, subst, inl, inr}
use Rattle.std.proofs.lemmas.List.{take_more, take-append-drop}
use Rattle.dt_text.specs.declared.NoMemory.{NoMemory}
use Rattle.dt_lists.specs.Lists.{Has, Distinct}
use Rattle.dt_lists.proofs.Callers.{any_append, any_append_left, any_append_right, each_append_left, each_across, distinct_push}
use Rattle.dt_access.specs.declared.TxnId.{TxnId}
use Rattle.dt_plain.proofs.IdEquality.{no_id}
use Rattle.dt_plain.specs.IdListsInner.{AreShared, AreCommon, IsOrderOf}

-- one more id of the first list, that is in the second
shared_push : (left right ids : List TxnId) (x : TxnId) → ¬ (Has left x) → AreShared left right ids → Has right x → AreShared (left ++ x ∷ []) right (ids ++ x ∷ [])
shared_push left right ids x n s h =
    record {
      distinct = distinct_push ids x s.distinct (λ k. n ((s.members x).0 k).0);
      members =
          λ u. (
            λ k. elim (any_append _ ids (x ∷ []) k) [
              | inl a ↦ let m : Has left u × Has right u = (s.members u).0 a in (any_append_left _ left (x ∷ []) m.0, m.1)
              | inr b ↦ elim b [ inl e ↦ (any_append_right _ left (x ∷ []) (inl e), subst (Has right) e h) | inr z ↦ absurd z ]
            ],
            λ k. elim (any_append _ left (x ∷ []) k.0)
                [ inl a ↦ any_append_left _ ids (x ∷ []) ((s.members u).1 (a, k.1)) | inr b ↦ any_append_right _ ids (x ∷ []) b ],
          );
    }

-- one more, that isn't
shared_skip : (left right ids : List TxnId) (x : TxnId) → AreShared left right ids → ¬ (Has right x) → AreShared (left ++ x ∷ []) right ids
shared_skip left right ids x s n =
    record {
      distinct = s.distinct;
      members =
          λ u. (
            λ k. let m : Has left u × Has right u = (s.members u).0 k in (any_append_left _ left (x ∷ []) m.0, m.1),
            λ k. elim (any_append _ left (x ∷ []) k.0) [
              | inl a ↦ (s.members u).1 (a, k.1)
              | inr b ↦ elim b [ inl e ↦ absurd (n (subst (Has right) (sym e) k.1)) | inr z ↦ absurd z ]
            ],
          );
    }

-- in a list without repeats no item stands among those before it
new_at : (xs : List TxnId) (i : ℕ) → i < length xs → Distinct xs → ¬ (Has (take i xs) (get_or xs i no_id))
new_at xs i h d k =
    let e : take (i + 1) xs ≡ take i xs ++ get_or xs i no_id ∷ [] = take_more xs i no_id h in
    let whole : Distinct (take (i + 1) xs ++ drop (i + 1) xs) = rw take-append-drop d in
    let front : Distinct (take i xs ++ get_or xs i no_id ∷ []) = rw (← e) (each_append_left _ (take (i + 1) xs) (drop (i + 1) xs) whole) in
    each_across _ (take i xs) (get_or xs i no_id ∷ []) (get_or xs i no_id) (get_or xs i no_id) front k (inl refl) refl

pub shared_more : (left right ids : List TxnId) (i : ℕ) → i < length left → Distinct left → AreShared (take i left) right ids → Has right (get_or left i no_id)
    → AreShared (take (i + 1) left) right (ids ++ get_or left i no_id ∷ [])
shared_more left right ids i h d s k =
    rw (take_more left i no_id h) (shared_push (take i left) right ids (get_or left i no_id) (new_at left i h d) s k)

pub shared_past : (left right ids : List TxnId) (i : ℕ) → i < length left → AreShared (take i left) right ids → ¬ (Has right (get_or left i no_id)) → AreShared (take (i + 1) left) right ids
shared_past left right ids i h s n = rw (take_more left i no_id h) (shared_skip (take i left) right ids (get_or left i no_id) s n)

pub common_of_order : (left right ids : List TxnId) (r : Result (List TxnId) NoMemory) → AreShared left right ids → IfOk r (IsOrderOf ids) → IfOk r (AreCommon left right)
common_of_order left right ids (Ok ordered) s o =
    record {
      ascending = o.ascending;
      members = λ u. (λ h. (s.members u).0 ((o.members u).0 h), λ k. (o.members u).1 ((s.members u).1 k));
    }
common_of_order left right ids (Err e) s o = tt
