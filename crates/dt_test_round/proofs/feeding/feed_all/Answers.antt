use Rattle.std.proofs.Common.{◌≡◌, ◌+◌, sym, subst, arith}
use Rattle.dt_region.specs.Region.{RegionView}
use Rattle.dt_test_round.specs.FedRegion.{WasFed}
use Rattle.dt_test_round.proofs.feeding.feed_all.Goals as goal
use Rattle.dt_test_round.proofs.feeding.feed_all.Goals.{then-row-number+in_ok-place, else-row-number+in_ok-deliver}

pub loop-count-preserved : goal.loop-count-preserved
loop-count-preserved g c =
    let more : c.args.before + c.loop-count.count + 1 ≡ c.args.before + (c.loop-count.count + 1) = omega arith in
    subst (λ n. WasFed c.args.procs.now n c.if-row-number.region) more
    (elim c.if-row-number.branch [
      | then-row-number+in_ok-place w ↦ subst (λ (r : RegionView). WasFed c.args.procs.now (c.args.before + c.loop-count.count + 1) r) (sym w.region-is) w.in_ok-place.ensures
      | else-row-number+in_ok-deliver w ↦ subst (λ (r : RegionView). WasFed c.args.procs.now (c.args.before + c.loop-count.count + 1) r) (sym w.region-is) w.in_ok-deliver.ensures
    ])
