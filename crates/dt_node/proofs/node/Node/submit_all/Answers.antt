use Rattle.std.proofs.Common.{◌≤◌, ◌<◌, [], length, refl, subst, ◌∙◌, arith}
use Rattle.dt_access.specs.Orders.{HasAscendingKeys}
use Rattle.dt_node.specs.NodeView.{NodeView}
use Rattle.dt_node.specs.Turn.{MaySubmitAt}
use Rattle.dt_node.proofs.EagerStart.{begun_all, begun_more, begun_none}
use Rattle.dt_node.proofs.SessionSteps.{submitted_all, submitted_more, submitted_none}
use Rattle.dt_node.proofs.SmallNumbers.{session_here, sessions_past}
use Rattle.dt_node.proofs.CallAfterCall.{made_nothing, moves_more}
use Rattle.dt_node.proofs.SessionsByPlace.{all_submitted, ends_more, ends_none}
use Rattle.dt_node.proofs.PassesOfTurn.{knows_more}
use Rattle.dt_node.proofs.TruePackets.{can_on}
use Rattle.dt_node.proofs.node.Node.submit_all.Goals as goal

pub sessions-init : goal.sessions-init
sessions-init g c = record {
  moved = made_nothing c.args.self.now;
  knows = record { took = refl; received = refl; turns = refl };
  seats = refl;
  within = omega arith;
  ends = ends_none MaySubmitAt c.args.self.now;
  stepped = submitted_none c.args.self.now;
  begins = begun_none c.args.self.now (subst (λ (n : NodeView). HasAscendingKeys n.sessions.seats) c.self.view_is c.name-first.ensures.ascending);
}

pub submit_one-requires : goal.submit_one-requires
submit_one-requires g c = record { can = can_on [] [] c.requires.can c.sessions.invariant.moved }

pub returns-in_err-some-clause-moved : goal.returns-in_err-some-clause-moved
returns-in_err-some-clause-moved g c = moves_more c.sessions.invariant.moved c.submit_one.ensures.moved

pub returns-in_err-some-clause-knows : goal.returns-in_err-some-clause-knows
returns-in_err-some-clause-knows g c = knows_more c.sessions.invariant.knows c.submit_one.ensures.knows

pub returns-in_err-some-clause-seats : goal.returns-in_err-some-clause-seats
returns-in_err-some-clause-seats g c = c.submit_one.ensures.seats ∙ c.sessions.invariant.seats

pub overflow_add-index : goal.overflow_add-index
overflow_add-index g c =
    let at : c.sessions.index < length c.sessions.self.sessions.seats =
    session_here c.self-in-sessions.view_is c.sessions.index c.name.result c.is_some.result c.name.ensures.place c.is_some.ensures c.sessions-test.true in
    omega (arith, at, c.sessions.invariant.seats, c.requires.can.fits.few)

pub sessions-preserved : goal.sessions-preserved
sessions-preserved g c =
    let at : c.sessions.index < length c.sessions.self.sessions.seats =
    session_here c.self-in-sessions.view_is c.sessions.index c.name.result c.is_some.result c.name.ensures.place c.is_some.ensures c.sessions-test.true in
    let ascending = subst (λ (n : NodeView). HasAscendingKeys n.sessions.seats) c.self.view_is c.name-first.ensures.ascending in
    record {
      moved = moves_more c.sessions.invariant.moved c.submit_one.ensures.moved;
      knows = knows_more c.sessions.invariant.knows c.submit_one.ensures.knows;
      seats = c.submit_one.ensures.seats ∙ c.sessions.invariant.seats;
      within = omega (arith, at, c.sessions.invariant.seats);
      ends = ends_more MaySubmitAt c.args.self.now c.sessions.self c.submit_one.new.self c.sessions.index c.sessions.some c.in_ok-some.field-0 c.sessions.invariant.ends c.in_ok-some.ensures.ends;
      stepped = submitted_more c.sessions.index ascending c.sessions.invariant.stepped c.submit_one.new.self
          c.in_ok-some.field-0 at c.in_ok-some.ensures.ends c.in_ok-some.ensures.one;
      begins = begun_more c.sessions.index c.in_ok-some.field-0 ascending
          c.sessions.invariant.moved.gone c.submit_one.ensures.moved.gone c.sessions.invariant.begins c.in_ok-some.ensures.ends c.in_ok-some.ensures.one;
    }

pub sessions-smaller : goal.sessions-smaller
sessions-smaller g c =
    let at : c.sessions.index < length c.sessions.self.sessions.seats =
    session_here c.self-in-sessions.view_is c.sessions.index c.name.result c.is_some.result c.name.ensures.place c.is_some.ensures c.sessions-test.true in
    omega (arith, at, c.sessions.invariant.seats)

pub returns-clause-ends : goal.returns-clause-ends
returns-clause-ends g c =
    let past : length c.sessions.self.sessions.seats ≤ c.sessions.index =
    sessions_past c.self-in-sessions.view_is c.sessions.index c.name.result c.is_some.result c.name.ensures.place c.is_some.ensures c.sessions-test.false in
    all_submitted c.args.self.now c.sessions.self c.sessions.index c.sessions.some (omega (arith, past, c.sessions.invariant.seats)) c.sessions.invariant.ends

pub returns-clause-begins : goal.returns-clause-begins
returns-clause-begins g c =
    let past : length c.sessions.self.sessions.seats ≤ c.sessions.index =
    sessions_past c.self-in-sessions.view_is c.sessions.index c.name.result c.is_some.result c.name.ensures.place c.is_some.ensures c.sessions-test.false in
    begun_all c.sessions.index past c.sessions.invariant.begins

pub returns-clause-all : goal.returns-clause-all
returns-clause-all g c =
    let past : length c.sessions.self.sessions.seats ≤ c.sessions.index =
    sessions_past c.self-in-sessions.view_is c.sessions.index c.name.result c.is_some.result c.name.ensures.place c.is_some.ensures c.sessions-test.false in
    submitted_all c.sessions.index (subst (λ (n : NodeView). HasAscendingKeys n.sessions.seats) c.self.view_is c.name-first.ensures.ascending) c.sessions.invariant.stepped (omega (arith, past, c.sessions.invariant.seats))
