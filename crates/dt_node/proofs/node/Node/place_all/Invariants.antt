use Rattle.std.specs.Vec.Iter.{into_iter_items}
use Rattle.dt_node.specs.TurnInner.{IsPlacing}
use Rattle.dt_node.proofs.node.Node.place_all.Given as goal

abbrev pub invariant-loop-txn : goal.invariant-loop-txn
invariant-loop-txn g l = IsPlacing l.fn.self l.source l.first l.fn.asked (into_iter_items l.txn-iterator) l.number l.self
