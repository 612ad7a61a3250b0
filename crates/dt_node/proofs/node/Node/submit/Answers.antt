use Rattle.std.proofs.Common.{refl, sym, ap, subst, arith}
use Rattle.dt_txn.specs.Transaction.{BodyFits}
use Rattle.dt_session.specs.Sessions.{StandsAt}
use Rattle.dt_node.proofs.PartsOfNode.{sub_less, sub_moves, sub_seats, waits_next}
use Rattle.dt_node.proofs.CallConditions.{few, has_stamp}
use Rattle.dt_node.proofs.Rule1Submit.{body_fits_here, place_fits, rank_fits}
use Rattle.dt_node.proofs.node.Node.submit.Goals as goal

pub submit-requires-clause-stamp : goal.submit-requires-clause-stamp
submit-requires-clause-stamp g c = rw (← c.self.view_is) at (has_stamp c.requires.can)

pub submit-requires-clause-fits : goal.submit-requires-clause-fits
submit-requires-clause-fits g c =
    rw (← c.self.view_is) at (subst (λ l. BodyFits l c.args.self.now.site.region.state.here.table.version c.args.self.now.site.region.state.regions c.args.body) (sym c.requires.can.procs_are)
    (body_fits_here c.requires.can.fits c.args.origin.session c.requires.next))

pub submit-requires-clause-rank : goal.submit-requires-clause-rank
submit-requires-clause-rank g c = rank_fits c.requires.can.fits c.args.origin.session c.requires.next

pub submit-requires-clause-place : goal.submit-requires-clause-place
submit-requires-clause-place g c = rw (← c.self.view_is) at (place_fits c.requires.can.fits c.args.origin.session c.requires.next (omega (arith, few c.requires.can)))

pub wait_at-requires : goal.wait_at-requires
wait_at-requires g c =
    let t = rw (← c.self.view_is) at c.requires.next in
    let e = c.self-inside.view_is in
    let place = subst (λ s. StandsAt s c.args.index c.args.origin.session) (sym (ap (λ x. x.sessions) e)) (rw (← c.self.view_is) at c.requires.place) in
    let last = c.last_outcome_at-last.ensures.outcome c.args.origin.session place in
    (c.args.origin.session, place, waits_next c.args.procs.now t c.in_ok-id.id c.submit.new.self c.in_ok-id.ensures.makes (ap (λ x. x.sessions) e) (ap (λ x. x.site) e) _ last)

pub returns-clause-moved : goal.returns-clause-moved
returns-clause-moved g c =
    let t = rw (← c.self.view_is) at c.requires.next in
    let e = c.self-inside.view_is in
    let place = subst (λ s. StandsAt s c.args.index c.args.origin.session) (sym (ap (λ x. x.sessions) e)) (rw (← c.self.view_is) at c.requires.place) in
    rw (← c.self.view_is)
    (sub_moves c.args.procs.now t c.in_ok-id.id c.submit.new.self c.in_ok-id.ensures.makes (ap (λ x. x.sessions) e) c.wait_at.new.self (c.wait_at.ensures c.args.origin.session place) c.in_ok-id.ensures.sound
    _ refl (ap (λ x. x.site) e) (ap (λ x. x.took.items) e) (ap (λ x. x.received.items) e) (ap (λ x. x.plan) e) (ap (λ x. x.turns) e))

pub returns-clause-seats : goal.returns-clause-seats
returns-clause-seats g c =
    let t = rw (← c.self.view_is) at c.requires.next in
    let e = c.self-inside.view_is in
    let place = subst (λ s. StandsAt s c.args.index c.args.origin.session) (sym (ap (λ x. x.sessions) e)) (rw (← c.self.view_is) at c.requires.place) in
    rw (← c.self.view_is) (sub_seats c.args.procs.now t c.in_ok-id.id c.submit.new.self c.in_ok-id.ensures.makes (ap (λ x. x.sessions) e) c.wait_at.new.self (c.wait_at.ensures c.args.origin.session place))

pub returns-clause-less : goal.returns-clause-less
returns-clause-less g c =
    let t = rw (← c.self.view_is) at c.requires.next in
    let e = c.self-inside.view_is in
    let place = subst (λ s. StandsAt s c.args.index c.args.origin.session) (sym (ap (λ x. x.sessions) e)) (rw (← c.self.view_is) at c.requires.place) in
    rw (← c.self.view_is) (sub_less c.args.procs.now t c.in_ok-id.id c.submit.new.self c.in_ok-id.ensures.makes (ap (λ x. x.sessions) e) c.wait_at.new.self (c.wait_at.ensures c.args.origin.session place))
