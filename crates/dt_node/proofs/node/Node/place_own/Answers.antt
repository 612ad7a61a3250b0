use Rattle.std.proofs.Common.{[], refl, ◌∙◌}
use Rattle.dt_node.proofs.CallAfterCall.{made_nothing, moves_more}
use Rattle.dt_node.proofs.SubmissionEvents.{placing_none, placing_on}
use Rattle.dt_node.proofs.PassesOfTurn.{knows_more}
use Rattle.dt_node.proofs.TruePackets.{take_on}
use Rattle.dt_node.proofs.node.Node.place_own.Goals as goal

pub loop-init : goal.loop-init
loop-init g c = record {
  moved = λ procs. made_nothing c.args.self.now;
  knows = record { took = refl; received = refl; turns = refl };
  sessions = refl;
  own = placing_none c.args.self.now;
}

pub place_next-requires : goal.place_next-requires
place_next-requires g c = record { can = take_on [] [] c.requires.can c.loop.invariant.moved }

pub returns-in_err-place_next-clause-moved : goal.returns-in_err-place_next-clause-moved
returns-in_err-place_next-clause-moved g c = λ procs. moves_more (c.loop.invariant.moved procs) (c.place_next.ensures.moved procs)

pub returns-in_err-place_next-clause-own : goal.returns-in_err-place_next-clause-own
returns-in_err-place_next-clause-own g c = placing_on c.loop.invariant.own c.place_next.ensures.own

pub loop-preserved : goal.loop-preserved
loop-preserved g c = record {
  moved = λ procs. moves_more (c.loop.invariant.moved procs) (c.place_next.ensures.moved procs);
  knows = knows_more c.loop.invariant.knows c.place_next.ensures.knows;
  sessions = c.place_next.ensures.sessions ∙ c.loop.invariant.sessions;
  own = placing_on c.loop.invariant.own c.place_next.ensures.own;
}

pub returns-clause-moved : goal.returns-clause-moved
returns-clause-moved g c = λ procs. moves_more (c.loop.invariant.moved procs) (c.place_next.ensures.moved procs)

pub returns-clause-own : goal.returns-clause-own
returns-clause-own g c = placing_on c.loop.invariant.own c.place_next.ensures.own
