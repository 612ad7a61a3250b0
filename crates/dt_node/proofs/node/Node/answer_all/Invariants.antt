use Rattle.std.proofs.Common.{◌≡◌, ◌≤◌, ◌-◌, [], List, length}
use Rattle.dt_proc.specs.Tree.{ProcTree}
use Rattle.dt_node.specs.Turn.{MayAnswerAt, MovesOn}
use Rattle.dt_node.specs.StepsInner.{HaveStepped, IsAnswering}
use Rattle.dt_node.specs.TurnInner.{EndsSoFar, KnowsTheSame}
use Rattle.dt_node.proofs.node.Node.answer_all.Given as goal

abbrev pub invariant-sessions : goal.invariant-sessions
invariant-sessions g l = record {
  moved : (procs : List ProcTree) → MovesOn procs [] l.fn.self l.self;
  knows : KnowsTheSame l.fn.self l.self;
  seats : length l.self.sessions.seats ≡ length l.fn.self.sessions.seats;
  within : l.index ≤ length l.fn.self.sessions.seats;
  ends : EndsSoFar MayAnswerAt l.fn.self l.index l.some l.self;
  stepped : HaveStepped MayAnswerAt IsAnswering l.fn.self l.index l.self;
}

abbrev pub decreases-sessions : goal.decreases-sessions
decreases-sessions g l = length l.fn.self.sessions.seats - l.index
