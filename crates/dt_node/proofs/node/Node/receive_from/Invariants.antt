use Rattle.std.proofs.Common.{◌≡◌, [], length}
use Rattle.dt_node.specs.TurnInner.{IsTaking}
use Rattle.dt_node.proofs.node.Node.receive_from.Given as goal

abbrev pub invariant-loop-packet : goal.invariant-loop-packet
invariant-loop-packet g l = record {
  taking : IsTaking l.fn.self (g.I.Inlet.waits l.fn.inlet) (g.I.Inlet.waits l.inlet) l.self;
  same : (first : _) → g.I.Inlet.same first l.fn.inlet → g.I.Inlet.same first l.inlet;
  still : g.I.Inlet.waits l.fn.inlet ≡ [] → l.self ≡ l.fn.self;
}

abbrev pub decreases-loop-packet : goal.decreases-loop-packet
decreases-loop-packet g l = length (g.I.Inlet.waits l.inlet)
