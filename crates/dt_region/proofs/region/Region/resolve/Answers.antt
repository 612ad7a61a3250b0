use Rattle.std.proofs.Common.{rules}
use Rattle.dt_sched.specs.Sched.{CanResolve}
use Rattle.dt_region.proofs.Rule5Resolve.{resolve_keeps}
use Rattle.dt_region.proofs.ViewOfRegion.{seen_as}
use Rattle.dt_region.proofs.Stock.{stock_kept}
use Rattle.dt_region.proofs.region.Region.resolve.Goals as goal

pub invariant_of-self-2 : goal.invariant_of-self-2
invariant_of-self-2 g c =
    let can : CanResolve (g.S.Scheduler.seen c.self.inside.scheduler) c.args.ids.now = search rules in
    record {
      well = resolve_keeps _ _ _ _ _ _ (seen_as c.self.view_is c.self.invariant.well) c.args.ids.now can (g.S.Scheduler.seen c.resolve.new.self) c.in_ok-resolve.ensures.ok;
      stock = stock_kept c.self.invariant.stock c.in_ok-reserve.ensures.room c.keep.ensures.spare c.resolve.ensures.spare;
    }

pub returns-clause-sound : goal.returns-clause-sound
returns-clause-sound g c = (invariant_of-self-2 g c).well.0
