use Rattle.std.proofs.Common.{◌<◌, [], length, refl, sym, subst}
use Rattle.dt_session.specs.Sessions.{StandsAt}
use Rattle.dt_site.specs.NextAttempt.{IsNextHere}
use Rattle.dt_node.specs.NodeView.{number_of}
use Rattle.dt_node.specs.Steps.{IsNextAt}
use Rattle.dt_node.proofs.CallAfterCall.{moves_more}
use Rattle.dt_node.proofs.SubmissionEvents.{has_submitted}
use Rattle.dt_node.proofs.OwnRequests.{own_within}
use Rattle.dt_node.proofs.PartsOfNode.{next_call, next_is, opened}
use Rattle.dt_node.proofs.SessionCalls.{submitted_on}
use Rattle.dt_node.proofs.TruePackets.{can_on}
use Rattle.dt_node.proofs.node.Node.submit_one.Goals as goal

pub next_attempt-requires : goal.next_attempt-requires
next_attempt-requires g c name stands = let can = rw (← c.self.view_is, ← c.self-inside.view_is) at c.requires.can in next_call can name

pub returns-in_default-clause-ends : goal.returns-in_default-clause-ends
returns-in_default-clause-ends g c =
    let is = rw (← c.self-inside.view_is) at c.self.view_is in
    rw (← c.self.view_is, ← c.self-inside.view_is)
    (refl, λ name stands. subst (IsNextHere (opened is).sessions (opened is).site.region.state name) c.in_default.is (c.in_ok-next.ensures.next name stands))

pub submit-requires-clause-place : goal.submit-requires-clause-place
submit-requires-clause-place g c =
    let is = rw (← c.self-inside.view_is) at c.self.view_is in
    rw (← c.self.view_is, ← c.self-inside.view_is) ((next_is (opened is) c.args.index c.in-Some.is c.in_ok-next.ensures.there c.in_ok-next.ensures.next).0)

pub submit-requires-clause-next : goal.submit-requires-clause-next
submit-requires-clause-next g c =
    let is = rw (← c.self-inside.view_is) at c.self.view_is in
    rw (← c.self.view_is, ← c.self-inside.view_is) ((next_is (opened is) c.args.index c.in-Some.is c.in_ok-next.ensures.there c.in_ok-next.ensures.next).1)

pub place_own-requires : goal.place_own-requires
place_own-requires g c = record { can = record { procs = c.args.procs.now; can = can_on [] [] c.requires.can c.submit.ensures.moved } }

pub returns-in_err-place_own-clause-moved : goal.returns-in_err-place_own-clause-moved
returns-in_err-place_own-clause-moved g c = moves_more c.submit.ensures.moved (c.place_own.ensures.moved c.args.procs.now)

pub returns-clause-moved : goal.returns-clause-moved
returns-clause-moved g c = moves_more c.submit.ensures.moved (c.place_own.ensures.moved c.args.procs.now)

pub returns-clause-ends : goal.returns-clause-ends
returns-clause-ends g c =
    submitted_on {b = c.submit.new.self} c.in_ok-submit.ensures.less c.in_ok-submit.ensures.some (c.place_own.ensures.moved c.args.procs.now) c.place_own.ensures.sessions c.in_ok-place_own.ensures.placed

pub returns-clause-one : goal.returns-clause-one
returns-clause-one g c =
    let is = rw (← c.self-inside.view_is) at c.self.view_is in
    let origin = c.in-Some.origin in
    let next : StandsAt c.args.self.now.sessions c.args.index origin.session × IsNextAt c.args.self.now origin.session origin c.in-Some.rank c.in-Some.body =
    rw (← c.self.view_is, ← c.self-inside.view_is) (next_is (opened is) c.args.index c.in-Some.is c.in_ok-next.ensures.there c.in_ok-next.ensures.next) in
    let sound = c.requires.can.fits.site.sound in
    let there : number_of c.args.self.now < length c.args.self.now.site.region.state.here.asked = subst (λ n. number_of c.args.self.now < n) (sym sound.asked) sound.number in (
      origin.session,
      next.0,
      has_submitted origin.session next.1 c.in_ok-submit.ensures.made c.submit.ensures.moved.gone c.place_own.ensures.own c.place_own.ensures.sessions c.in_ok-place_own.ensures.placed there
          (own_within c.requires.can.fits),
    )
