use Rattle.std.proofs.Common.{◌≡◌, ◌<◌, ◌⊎◌, ◌-◌, false}
use Rattle.dt_run.specs.HelpersInner.{nodes_of}
use Rattle.dt_run.specs.Phase.{KeepsEvents}
use Rattle.dt_run.specs.SeatsInner.{AreRunning}
use Rattle.dt_run.specs.Silence.{made_in, most_phases}
use Rattle.dt_run.proofs.to_end.make_phases.Given as goal

-- the nodes are sound and keep what they had, and no phase was made yet, or fewer than there can be
abbrev pub invariant-phases : goal.invariant-phases
invariant-phases g l = record {
  running : AreRunning l.setting.cluster l.setting.workload l.course.seats.items l.course.broken l.course.counts;
  sound : l.course.broken ≡ false;
  kept : KeepsEvents (nodes_of l.setting l.fn.course.seats.items l.fn.course.broken) (nodes_of l.setting l.course.seats.items l.course.broken);
  few : (made_in (nodes_of l.setting l.course.seats.items l.course.broken) ≡ made_in (nodes_of l.setting l.fn.course.seats.items l.fn.course.broken))
      ⊎ (made_in (nodes_of l.setting l.course.seats.items l.course.broken) < most_phases l.setting.cluster l.setting.workload);
}

-- how many more phases there can be
abbrev pub decreases-phases : goal.decreases-phases
decreases-phases g l = most_phases l.setting.cluster l.setting.workload - made_in (nodes_of l.setting l.course.seats.items l.course.broken)
