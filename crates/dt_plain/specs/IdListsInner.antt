-- Lists of ids that stand for sets: each id once, in any order or in ascending order, which is how a class is given. A
-- scheduler builds what reaches an id and what the id reaches as such lists; their common members are the id's class.
-- What reaches what stands in Views.antt of dt_sched. Read next: SurroundingsInner.antt, for what is read off these lists.
use Rattle.std.specs.Prelude.{◌≡◌, ◌⊎◌, ◌↔◌, List}
use Rattle.dt_lists.specs.Lists.{Has, IsFront, Distinct}
use Rattle.dt_access.specs.Ids.{AreAscending}
use Rattle.dt_access.specs.declared.TxnId.{TxnId}

-- the id was added at the back of the list, or was there already
pub record AddsOnce (old : List TxnId) (id : TxnId) (new : List TxnId) : Type 0 where
  pub front : IsFront old new
  pub distinct : Distinct new
  pub members : (u : TxnId) → Has new u ↔ (Has old u ⊎ (u ≡ id))

-- the ids are those that are in both lists, in ascending order
pub record AreCommon (left right ids : List TxnId) : Type 0 where
  pub ascending : AreAscending ids
  pub members : (u : TxnId) → Has ids u ↔ (Has left u × Has right u)

-- the ids are those that are in both lists, each once
pub record AreShared (left right ids : List TxnId) : Type 0 where
  pub distinct : Distinct ids
  pub members : (u : TxnId) → Has ids u ↔ (Has left u × Has right u)

-- the one list has the ids of the other, in ascending order
pub record IsOrderOf (ids ordered : List TxnId) : Type 0 where
  pub ascending : AreAscending ordered
  pub members : (u : TxnId) → Has ordered u ↔ Has ids u
