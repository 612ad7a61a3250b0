-- Asking homes leaves how many lists there are.
use Rattle.std.proofs.Common.{◌≡◌, ◌∙◌, ℕ, List, [], ◌∷◌, ◌++◌, length, get_or, set, refl}
use Rattle.std.proofs.lemmas.List.{length-set}
use Rattle.dt_access.specs.declared.TxnId.{TxnId}
use Rattle.dt_txn.specs.HomesAsked.{ask}

pub ask_length : (homes : List ℕ) (id : TxnId) (asked : List (List TxnId)) → length (ask homes id asked) ≡ length asked
ask_length [] id asked = refl
ask_length (h ∷ homes) id asked = ask_length homes id (set asked h (get_or asked h [] ++ id ∷ [])) ∙ length-set asked h (get_or asked h [] ++ id ∷ [])
