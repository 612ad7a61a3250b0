use Rattle.std.proofs.Common.{true, sym, ap, ap₂, subst, ◌∙◌}
use Rattle.dt_lists.specs.Lists.{Has}
use Rattle.dt_sched.specs.Sched.{CanExecute}
use Rattle.dt_region.specs.Region.{sched_of}
use Rattle.dt_region.specs.Conditions.{CanMove, ComesTo, HasRun}
use Rattle.dt_region.specs.Rules.{after_finishing}
use Rattle.dt_region.proofs.Callers.{moves_left, stamp_left}
use Rattle.dt_lock.specs.Held.{Commits, HeldView, IsHeld, as_running, without_claim}
use Rattle.dt_lock.proofs.HeldSteps.{can_commit, committed, comes_now, found_running, has_run}
use Rattle.dt_lock.proofs.held.Held.commit.Given.{Over}
use Rattle.dt_lock.proofs.held.Held.commit.Goals as goal
use Rattle.dt_lock.proofs.held.Held.commit.Goals.{After-finish, After-take_off}

-- the claim is running
is_there : (g : Over) (c : After-take_off g) → Has c.self.inside.running.items (as_running c.args.finished.claim)
is_there g c = found_running _ _ _ _ c.args.finished.claim c.as_slice.ensures.value c.id-id.ensures c.seen.ensures (c.is_running.ensures.0 c.if-not-is_running.false)

-- the run comes to what is committed
comes_then : (g : Over) (c : After-finish g) → Has c.self.inside.running.items (as_running c.args.finished.claim) →
    ComesTo g.N.Named.procs c.self.inside.region.state c.id-id.result c.into_run-outcome.result.0 c.into_run-outcome.result.1
comes_then g c there =
    let comes = comes_now g.N.Named.procs g.N.Named.before _ c.self.invariant c.args.finished there c.into_run-outcome.ensures.claim c.into_run-outcome.ensures.finished in
    subst (λ i. ComesTo g.N.Named.procs c.self.inside.region.state i c.into_run-outcome.result.0 c.into_run-outcome.result.1) (sym c.id-id.ensures)
    (subst (λ r. ComesTo g.N.Named.procs c.self.inside.region.state c.args.finished.claim.txn.id r.0 r.1) (sym c.into_run-outcome.ensures.run) comes)

pub finish-requires-clause-stamp : goal.finish-requires-clause-stamp
finish-requires-clause-stamp g c = stamp_left g.N.Named.procs g.N.Named.before _ c.self.invariant.underway

pub finish-requires-clause-executable : goal.finish-requires-clause-executable
finish-requires-clause-executable g c =
    let there = is_there g (goal.at.finish-requires-clause-executable g c).After-take_off in
    subst (CanExecute (sched_of c.self.inside.region.state.logs c.self.inside.region.state.here)) (sym c.id-id.ensures) (can_commit g.N.Named.procs g.N.Named.before _ c.self.invariant (as_running c.args.finished.claim) there)

pub finish-requires-clause-place : goal.finish-requires-clause-place
finish-requires-clause-place g c =
    let there = is_there g (goal.at.finish-requires-clause-place g c).After-take_off in
    subst (CanMove c.self.inside.region.state) (sym c.id-id.ensures)
    (moves_left g.N.Named.procs g.N.Named.before _ c.self.invariant.underway c.args.finished.claim.txn.id (can_commit g.N.Named.procs g.N.Named.before _ c.self.invariant (as_running c.args.finished.claim) there))

pub finish-requires-clause-run : goal.finish-requires-clause-run
finish-requires-clause-run g c =
    let there = is_there g (goal.at.finish-requires-clause-run g c).After-take_off in
    let run = has_run g.N.Named.procs g.N.Named.before _ c.self.invariant c.args.finished there c.into_run-outcome.ensures.claim c.into_run-outcome.ensures.finished in
    subst (λ i. HasRun c.self.inside.region.state i c.into_run-outcome.result.0 c.into_run-outcome.result.1) (sym c.id-id.ensures)
    (subst (λ r. HasRun c.self.inside.region.state c.args.finished.claim.txn.id r.0 r.1) (sym c.into_run-outcome.ensures.run) run)

pub invariant_of-self : goal.invariant_of-self
invariant_of-self g c =
    let there = is_there g (goal.at.invariant_of-self g c).After-take_off in
    let so = comes_then g (goal.at.invariant_of-self g c).After-finish there in
    let later = c.finish.ensures.makes g.N.Named.procs so ∙ ap (after_finishing g.N.Named.procs c.self.inside.region) c.id-id.ensures in
    subst (λ l. IsHeld g.N.Named.procs g.N.Named.before (record { region = c.finish.new.self; running = l })) (sym (c.take_off.ensures ∙ ap (λ i. without_claim i c.self.inside.running.items) c.id-id.ensures))
    (committed g.N.Named.procs g.N.Named.before _ c.self.invariant (as_running c.args.finished.claim) there c.finish.new.self later)

pub returns : goal.returns
returns g c =
    let there = is_there g (goal.at.returns g c).After-take_off in
    let so = comes_then g (goal.at.returns g c).After-finish there in
    let later = c.finish.ensures.makes g.N.Named.procs so ∙ ap (after_finishing g.N.Named.procs c.self.inside.region) c.id-id.ensures in
    let fewer = c.take_off.ensures ∙ ap (λ i. without_claim i c.self.inside.running.items) c.id-id.ensures in
    subst (λ (h : HeldView). Commits g.N.Named.procs h c.args.finished true (record { region = c.finish.new.self; running = c.take_off.new.running.items })) c.self.view_is
    (there, ap₂ (λ r l. record { region = r; running = l }) later fewer)
