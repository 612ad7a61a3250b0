use Rattle.std.proofs.Common.{◌≡◌, [], List}
use Rattle.dt_proc.specs.Tree.{ProcTree}
use Rattle.dt_node.specs.Turn.{MovesOn}
use Rattle.dt_node.specs.EagerStartInner.{IsPlacingOwn}
use Rattle.dt_node.specs.Steps.{own_left}
use Rattle.dt_node.specs.TurnInner.{KnowsTheSame}
use Rattle.dt_node.proofs.node.Node.place_own.Given as goal

abbrev pub invariant-loop : goal.invariant-loop
invariant-loop g l = record {
  moved : (procs : List ProcTree) → MovesOn procs [] l.fn.self l.self;
  knows : KnowsTheSame l.fn.self l.self;
  sessions : l.self.sessions ≡ l.fn.self.sessions;
  own : IsPlacingOwn l.fn.self l.self;
}

abbrev pub decreases-loop : goal.decreases-loop
decreases-loop g l = own_left l.self
