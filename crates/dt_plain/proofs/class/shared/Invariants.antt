use Rattle.std.proofs.Common.{take}
use Rattle.dt_plain.specs.IdListsInner.{AreShared}
use Rattle.dt_plain.proofs.class.shared.Given as goal

abbrev pub invariant-loop-id : goal.invariant-loop-id
invariant-loop-id l = AreShared (take l.id-index l.left) l.right l.ids.items
