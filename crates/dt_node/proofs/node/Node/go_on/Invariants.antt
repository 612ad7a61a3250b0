use Rattle.std.specs.Prelude.{IsTrue}
use Rattle.dt_txn.specs.Replica.{IsDrained}
use Rattle.dt_node.specs.MeasureInner.{left_for}
use Rattle.dt_node.proofs.PassesOfTurn.{HasPassed}
use Rattle.dt_node.proofs.node.Node.go_on.Given as goal

abbrev pub invariant-loop-rested : goal.invariant-loop-rested
invariant-loop-rested g l = record {
  passed : HasPassed l.procs l.fn.self l.self;
  -- after a pass nothing is left for another round
  drained : IsTrue l.rested → IsDrained l.self.site.region.state.logs l.self.site.region.state.here;
}

abbrev pub decreases-loop-rested : goal.decreases-loop-rested
decreases-loop-rested g l = left_for l.self.sessions
