-- How a transaction's homes are asked to place it: one learns here that the id of a new submission goes to the end of
-- what its region asked of each of its homes, so that each home places that region's requests in order. Rule 1 uses it.
-- Read next: Replica.antt, for what a region keeps beside.
use Rattle.std.specs.Prelude.{ℕ, List, [], ◌∷◌, ◌++◌, get_or, set}
use Rattle.dt_access.specs.declared.TxnId.{TxnId}

-- the asked lists after each of these homes is asked to place an id
abbrev pub ask : List ℕ → TxnId → List (List TxnId) → List (List TxnId)
ask [] id asked = asked
ask (home ∷ homes) id asked = ask homes id (set asked home (get_or asked home [] ++ id ∷ []))
