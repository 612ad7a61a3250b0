use Rattle.std.proofs.Common.{◌≡◌, ◌++◌, map, take}
use Rattle.std.specs.Vec.Iter.{into_iter_items}
use Rattle.dt_graph.proofs.RunOrder.{AreMembers}
use Rattle.dt_graph.proofs.graph.Graph.in_order.Given as goal

abbrev pub invariant-loop-id : goal.invariant-loop-id
invariant-loop-id l = AreMembers l.self (take l.id-index l.ids) l.members.items

abbrev pub invariant-loop-member : goal.invariant-loop-member
invariant-loop-member l = l.vertices ++ map (λ m. m.vertex) (into_iter_items l.member-iterator) ≡ map (λ m. m.vertex) (into_iter_items l.initial.member-iterator)
