use Rattle.std.proofs.Common.{◌≡◌, ◌≤◌, ◌-◌, [], length}
use Rattle.dt_node.specs.EagerStartInner.{BeginsSoFar}
use Rattle.dt_node.specs.Turn.{MaySubmitAt, MovesOn}
use Rattle.dt_node.specs.StepsInner.{HaveStepped, IsSubmission}
use Rattle.dt_node.specs.TurnInner.{EndsSoFar, KnowsTheSame}
use Rattle.dt_node.proofs.node.Node.submit_all.Given as goal

abbrev pub invariant-sessions : goal.invariant-sessions
invariant-sessions g l = record {
  moved : MovesOn l.procs [] l.fn.self l.self;
  knows : KnowsTheSame l.fn.self l.self;
  seats : length l.self.sessions.seats ≡ length l.fn.self.sessions.seats;
  within : l.index ≤ length l.fn.self.sessions.seats;
  ends : EndsSoFar MaySubmitAt l.fn.self l.index l.some l.self;
  stepped : HaveStepped MaySubmitAt (IsSubmission l.procs) l.fn.self l.index l.self;
  begins : BeginsSoFar l.procs l.fn.self l.index l.self;
}

abbrev pub decreases-sessions : goal.decreases-sessions
decreases-sessions g l = length l.fn.self.sessions.seats - l.index
