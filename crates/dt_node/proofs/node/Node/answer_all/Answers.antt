use Rattle.std.proofs.Common.{◌≤◌, ◌<◌, [], length, refl, ◌∙◌, arith}
use Rattle.dt_node.specs.Turn.{MayAnswerAt}
use Rattle.dt_node.proofs.SessionSteps.{answered_all, answered_more, answered_none, ordered}
use Rattle.dt_node.proofs.SmallNumbers.{session_here, sessions_past}
use Rattle.dt_node.proofs.CallAfterCall.{made_nothing, moves_more}
use Rattle.dt_node.proofs.SessionsByPlace.{all_answered, ends_more, ends_none}
use Rattle.dt_node.proofs.PassesOfTurn.{knows_more}
use Rattle.dt_node.proofs.TruePackets.{take_on}
use Rattle.dt_node.proofs.node.Node.answer_all.Goals as goal

pub sessions-init : goal.sessions-init
sessions-init g c = record {
  moved = λ procs. made_nothing c.args.self.now;
  knows = record { took = refl; received = refl; turns = refl };
  seats = refl;
  within = omega arith;
  ends = ends_none MayAnswerAt c.args.self.now;
  stepped = answered_none c.args.self.now;
}

pub answer_one-requires : goal.answer_one-requires
answer_one-requires g c = record { can = take_on [] [] c.requires.can c.sessions.invariant.moved }

pub returns-in_err-some-clause-moved : goal.returns-in_err-some-clause-moved
returns-in_err-some-clause-moved g c = λ procs. moves_more (c.sessions.invariant.moved procs) (c.answer_one.ensures.moved procs)

pub returns-in_err-some-clause-knows : goal.returns-in_err-some-clause-knows
returns-in_err-some-clause-knows g c = knows_more c.sessions.invariant.knows c.answer_one.ensures.knows

pub returns-in_err-some-clause-seats : goal.returns-in_err-some-clause-seats
returns-in_err-some-clause-seats g c = c.answer_one.ensures.seats ∙ c.sessions.invariant.seats

pub overflow_add-index : goal.overflow_add-index
overflow_add-index g c =
    let at : c.sessions.index < length c.sessions.self.sessions.seats =
    session_here c.self.view_is c.sessions.index c.name.result c.is_some.result c.name.ensures.place c.is_some.ensures c.sessions-test.true in
    omega (arith, at, c.sessions.invariant.seats, c.requires.can.can.fits.few)

pub sessions-preserved : goal.sessions-preserved
sessions-preserved g c =
    let at : c.sessions.index < length c.sessions.self.sessions.seats =
    session_here c.self.view_is c.sessions.index c.name.result c.is_some.result c.name.ensures.place c.is_some.ensures c.sessions-test.true in
    record {
      moved = λ procs. moves_more (c.sessions.invariant.moved procs) (c.answer_one.ensures.moved procs);
      knows = knows_more c.sessions.invariant.knows c.answer_one.ensures.knows;
      seats = c.answer_one.ensures.seats ∙ c.sessions.invariant.seats;
      within = omega (arith, at, c.sessions.invariant.seats);
      ends = ends_more MayAnswerAt c.args.self.now c.sessions.self c.answer_one.new.self c.sessions.index c.sessions.some c.in_ok-some.field-0 c.sessions.invariant.ends c.in_ok-some.ensures.ends;
      stepped = answered_more c.sessions.index (ordered c.self.view_is c.name.ensures.ascending c.sessions.invariant.stepped) c.sessions.invariant.stepped
          c.answer_one.new.self c.in_ok-some.field-0 at c.in_ok-some.ensures.ends c.in_ok-some.ensures.one;
    }

pub sessions-smaller : goal.sessions-smaller
sessions-smaller g c =
    let at : c.sessions.index < length c.sessions.self.sessions.seats =
    session_here c.self.view_is c.sessions.index c.name.result c.is_some.result c.name.ensures.place c.is_some.ensures c.sessions-test.true in
    omega (arith, at, c.sessions.invariant.seats)

pub returns-clause-ends : goal.returns-clause-ends
returns-clause-ends g c =
    let past : length c.sessions.self.sessions.seats ≤ c.sessions.index =
    sessions_past c.self.view_is c.sessions.index c.name.result c.is_some.result c.name.ensures.place c.is_some.ensures c.sessions-test.false in
    all_answered c.args.self.now c.sessions.self c.sessions.index c.sessions.some (omega (arith, past, c.sessions.invariant.seats)) c.sessions.invariant.ends

pub returns-clause-all : goal.returns-clause-all
returns-clause-all g c =
    let past : length c.sessions.self.sessions.seats ≤ c.sessions.index =
    sessions_past c.self.view_is c.sessions.index c.name.result c.is_some.result c.name.ensures.place c.is_some.ensures c.sessions-test.false in
    answered_all c.sessions.index (ordered c.self.view_is c.name.ensures.ascending c.sessions.invariant.stepped) c.sessions.invariant.stepped (omega (arith, past, c.sessions.invariant.seats))
