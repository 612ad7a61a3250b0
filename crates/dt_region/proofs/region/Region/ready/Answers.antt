use Rattle.std.proofs.Common.{ap, subst, ◌∙◌}
use Rattle.std.specs.Prelude.{IfOk}
use Rattle.dt_sched.specs.Sched.{IsNextReady}
use Rattle.dt_region.specs.Region.{RegionView, sched_of}
use Rattle.dt_region.proofs.region.Region.ready.Goals as goal

pub returns : goal.returns
returns g c =
    let seen = c.self.invariant.well.1 ∙ ap (λ (r : RegionView). sched_of r.state.logs r.state.here) c.self.view_is in
    subst (λ s. IfOk c.next_ready.result (IsNextReady s c.args.busy.now)) seen c.next_ready.ensures
