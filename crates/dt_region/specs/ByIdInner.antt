-- Only proofs need this file, and the calls of private types: values by the ids of transactions. These calls see the list, in the
-- order in which the values came. No id stands twice, so that a value is found by its id: an index beside the list leads from
-- each id to the place of its entry (`place_of` of dt_index). A region keeps its outcomes so. Read next: `KeptInner`.
use Rattle.std.specs.Prelude.{◌≡◌, ℕ, suc, List, [], ◌∷◌, Option, Some, None, if◌then◌else◌}
use Rattle.std.specs.Option.{option_map}
use Rattle.dt_access.specs.Ids.{same_id}
use Rattle.dt_access.specs.declared.TxnId.{TxnId}
use Rattle.dt_index.specs.Index.{IdIndexView, place_of}

-- values that are kept, each with its id, and for how many more there is room
pub record ByIdView (V : Type 0) : Type 0 where
  pub entries : List (TxnId × V)
  pub spare : ℕ

-- the place of an id among these entries, if it stands there
abbrev pub entry_place : {V : Type 0} → List (TxnId × V) → TxnId → Option ℕ
entry_place [] id = None
entry_place (e ∷ entries) id = if same_id id e.0 then Some 0 else option_map suc (entry_place entries id)

-- the index leads from each id to the place of its entry, and from no other id
abbrev pub LeadsTo : {V : Type 0} → IdIndexView → List (TxnId × V) → Type 0
LeadsTo index entries = (id : TxnId) → place_of index id ≡ entry_place entries id
