use Rattle.std.proofs.Common.{◌≡◌}
use Rattle.dt_region.specs.Region.{RegionView}
use Rattle.dt_region.specs.StepsInner.{steps_left}
use Rattle.dt_region.specs.Underway.{IsOnWay, IsUnderway}
use Rattle.dt_region.proofs.alone.finish.Given as goal

abbrev pub invariant-steps : goal.invariant-steps
invariant-steps g l = record {
  on_way : IsOnWay l.procs l.region;
  underway : (entry : RegionView) → IsUnderway l.procs entry l.fn.region → IsUnderway l.procs entry l.region;
  regions : l.regions ≡ l.region.state.regions;
}

abbrev pub decreases-steps : goal.decreases-steps
decreases-steps g l = steps_left l.region.state
