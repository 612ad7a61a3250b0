use Rattle.std.proofs.Common.{ap, sym, subst, ◌∙◌}
use Rattle.dt_events.specs.declared.Event.TheVariants.{Submit}
use Rattle.dt_txn.specs.declared.txn.Body.{Body}
use Rattle.dt_txn.specs.Transaction.{BodyFits}
use Rattle.dt_region.specs.Rules.{after_submit, with_event}
use Rattle.dt_test_round.proofs.OwnEvents.{submitted}
use Rattle.dt_test_round.proofs.twins.submit_copy.Goals as goal

pub submit-requires-clause-fits : goal.submit-requires-clause-fits
submit-requires-clause-fits g c = subst (BodyFits c.args.procs.now c.args.region.now.state.here.table.version c.args.region.now.state.regions) (sym c.in_ok-copy.ensures) c.requires.fits

pub returns-clause-fed : goal.returns-clause-fed
returns-clause-fed g c =
    submitted c.args.procs.now c.args.count c.args.region.now c.submit.new.self c.requires.fed _ _
    (subst (BodyFits c.args.procs.now c.args.region.now.state.here.table.version c.args.region.now.state.regions) (sym c.in_ok-copy.ensures) c.requires.fits)
    c.in_ok-submit.ensures.makes.1 c.in_ok-submit.ensures.sound

pub returns-clause-makes : goal.returns-clause-makes
returns-clause-makes g c =
    let r = c.args.region.now in
    c.in_ok-submit.ensures.makes.1 ∙ ap (λ (b : Body). with_event r (after_submit c.args.procs.now r.state 5 b) (Submit r.state.number c.args.session.now)) c.in_ok-copy.ensures
