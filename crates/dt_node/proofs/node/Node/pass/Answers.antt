use Rattle.std.proofs.Common.{[]}
use Rattle.dt_node.specs.Turn.{MovesOn}
use Rattle.dt_node.proofs.EagerStart.{first_pass}
use Rattle.dt_node.proofs.CallAfterCall.{moves_more}
use Rattle.dt_node.proofs.PassesOfTurn.{own_stay, pass_steps, passes, rested_passes, rested_steps}
use Rattle.dt_node.proofs.TruePackets.{can_on}
use Rattle.dt_node.proofs.node.Node.pass.Given.{Over}
use Rattle.dt_node.proofs.node.Node.pass.Goals as goal
use Rattle.dt_node.proofs.node.Node.pass.Goals.{After-submit_all}

-- what the node has made once its sessions went on
went : (g : Over) (c : After-submit_all g) → MovesOn c.args.procs.now [] c.args.self.now c.submit_all.new.self
went g c = moves_more (c.answer_all.ensures.moved c.args.procs.now) c.submit_all.ensures.moved

pub returns-in_err-answered-clause-moved : goal.returns-in_err-answered-clause-moved
returns-in_err-answered-clause-moved g c = c.answer_all.ensures.moved c.args.procs.now

pub submit_all-requires : goal.submit_all-requires
submit_all-requires g c = record { can = can_on [] [] c.requires.can (c.answer_all.ensures.moved c.args.procs.now) }

pub returns-in_err-submitted-clause-moved : goal.returns-in_err-submitted-clause-moved
returns-in_err-submitted-clause-moved g c = went g (goal.at.returns-in_err-submitted-clause-moved g c).After-submit_all

pub round-requires-clause-can : goal.round-requires-clause-can
round-requires-clause-can g c = can_on [] [] c.requires.can (went g (goal.at.round-requires-clause-can g c).After-submit_all)

pub returns-in_err-round-clause-moved : goal.returns-in_err-round-clause-moved
returns-in_err-round-clause-moved g c = moves_more (went g (goal.at.returns-in_err-round-clause-moved g c).After-submit_all) c.round.ensures.moved

pub returns-then-not-went-clause-passed : goal.returns-then-not-went-clause-passed
returns-then-not-went-clause-passed g c =
    rested_passes c.args.procs.now c.args.self.now c.answer_all.new.self c.submit_all.new.self
    c.in_ok-answered.answered c.in_ok-submitted.submitted c.if-not-went.true c.in_ok-answered.ensures.ends c.in_ok-submitted.ensures.ends (c.requires.rested c.if-rested.true)

pub returns-then-not-went-clause-steps : goal.returns-then-not-went-clause-steps
returns-then-not-went-clause-steps g c =
    rested_steps c.args.procs.now c.args.self.now c.answer_all.new.self c.submit_all.new.self
    c.in_ok-answered.answered c.in_ok-submitted.submitted c.if-not-went.true c.in_ok-answered.ensures.ends c.in_ok-submitted.ensures.ends (c.requires.rested c.if-rested.true)
    c.in_ok-answered.ensures.all c.in_ok-submitted.ensures.all

pub returns-clause-moved : goal.returns-clause-moved
returns-clause-moved g c = moves_more (went g (goal.at.returns-clause-moved g c).After-submit_all) c.round.ensures.moved

pub returns-clause-passed : goal.returns-clause-passed
returns-clause-passed g c =
    passes c.args.self.now c.answer_all.new.self c.in_ok-answered.answered c.in_ok-submitted.submitted c.in_ok-answered.ensures.ends c.in_ok-submitted.ensures.ends c.round.ensures.moved
    c.round.ensures.sessions (own_stay c.submit_all.new.self c.round.new.self c.round.ensures.moved.gone.number c.round.ensures.asked c.round.ensures.taken) c.round.ensures.rests

pub returns-clause-begins : goal.returns-clause-begins
returns-clause-begins g c =
    first_pass c.in_ok-answered.answered c.in_ok-answered.ensures.ends c.in_ok-answered.ensures.all (c.answer_all.ensures.moved c.args.procs.now).gone c.submit_all.ensures.moved.gone
    c.round.ensures.moved.gone c.in_ok-submitted.ensures.begins

pub returns-clause-steps : goal.returns-clause-steps
returns-clause-steps g c =
    pass_steps c.in_ok-answered.answered c.in_ok-submitted.submitted c.in_ok-answered.ensures.ends c.in_ok-submitted.ensures.ends c.in_ok-answered.ensures.all c.in_ok-submitted.ensures.all
    (record { gone = c.round.ensures.moved.gone; continues = c.round.ensures.continues; sessions = c.round.ensures.sessions; drained = c.in_ok-round.ensures.drained })
