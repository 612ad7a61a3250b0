use Rattle.std.proofs.Common.{◌≡◌, [], List, drop, flat_map, length, take}
use Rattle.dt_lists.specs.Lists.{Pairwise}
use Rattle.dt_node.specs.TurnInner.{IsTaking}
use Rattle.dt_node.proofs.node.Node.receive_all.Given as goal

abbrev pub invariant-loop-inlet : goal.invariant-loop-inlet
invariant-loop-inlet g l = record {
  taking : IsTaking l.fn.self (flat_map g.I.Inlet.waits l.fn.ins) (flat_map g.I.Inlet.waits (drop l.inlet-index l.ins)) l.self;
  emptied : flat_map g.I.Inlet.waits (take l.inlet-index l.ins) ≡ [];
  many : length l.ins ≡ length l.fn.ins;
  same : (first : List _) → Pairwise g.I.Inlet.same first l.fn.ins → Pairwise g.I.Inlet.same first l.ins;
  still : flat_map g.I.Inlet.waits l.fn.ins ≡ [] → l.self ≡ l.fn.self;
}
