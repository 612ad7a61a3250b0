use Rattle.std.proofs.Common.{sym, subst}
use Rattle.dt_region.specs.Region.{RegionView}
use Rattle.dt_region.specs.Conditions.{ComesTo, HasRun}
use Rattle.dt_region.proofs.Rule6Execute.{can_shown, execute_held, execute_made}
use Rattle.dt_region.proofs.ViewOfRegion.{seen_as}
use Rattle.dt_region.proofs.region.Region.execute.Goals as goal

pub run-requires-clause-held : goal.run-requires-clause-held
run-requires-clause-held g c = execute_held c.args.procs.now _ _ _ _ _ _ (seen_as c.self.view_is c.self.invariant.well) c.requires.holds c.args.id (c.in_ok-executable.ensures.0 c.if-not-branch.false)

pub finish-requires-clause-run : goal.finish-requires-clause-run
finish-requires-clause-run g c =
    let roomy = c.in_ok-make_room_for.ensures.ok in
    subst (λ (x : RegionView). HasRun x.state c.args.id c.in_ok-outcome.outcome c.in_ok-outcome.effect) (sym roomy)
    (record { procs = c.args.procs.now; comes = record { holds = c.requires.holds; values = c.in_ok-outcome.ensures } })

pub returns-clause-makes : goal.returns-clause-makes
returns-clause-makes g c =
    let roomy = c.in_ok-make_room_for.ensures.ok in
    let comes : ComesTo c.args.procs.now c.make_room_for.new.self.state c.args.id c.in_ok-outcome.outcome c.in_ok-outcome.effect =
    subst (λ (x : RegionView). ComesTo c.args.procs.now x.state c.args.id c.in_ok-outcome.outcome c.in_ok-outcome.effect) (sym roomy) (record { holds = c.requires.holds; values = c.in_ok-outcome.ensures }) in
    execute_made c.args.procs.now c.args.self.now c.make_room_for.new.self c.finish.new.self c.args.id
    (can_shown (seen_as c.self.view_is c.self.invariant.well) c.args.id (c.in_ok-executable.ensures.0 c.if-not-branch.false)) roomy (c.finish.ensures.makes c.args.procs.now comes)
