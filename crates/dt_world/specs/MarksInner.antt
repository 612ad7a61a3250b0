-- Only proofs need this file, and the calls of private types: which ids are marked, when an index has the marks. An id that has a
-- place there is marked. Read next: `SessionReplayInner`.
use Rattle.std.specs.Prelude.{◌≡◌, List, Bool}
use Rattle.std.specs.Option.{is_some}
use Rattle.dt_access.specs.Ids.{is_among}
use Rattle.dt_access.specs.declared.TxnId.{TxnId}
use Rattle.dt_index.specs.Index.{IdIndexView, place_of}

-- whether an id is marked
abbrev pub is_marked : IdIndexView → TxnId → Bool
is_marked marks id = is_some (place_of marks id)

-- the ids that are marked are these
abbrev pub AreMarkedIds : IdIndexView → List TxnId → Type 0
AreMarkedIds marks ids = (id : TxnId) → is_marked marks id ≡ is_among ids id
