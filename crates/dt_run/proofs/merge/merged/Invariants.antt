use Rattle.std.proofs.Common.{map}
use Rattle.dt_run.specs.MergeInner.{IsMerging}
use Rattle.dt_run.proofs.MergeLoop.{left_in}
use Rattle.dt_run.proofs.merge.merged.Given as goal

abbrev pub invariant-loop-region : goal.invariant-loop-region
invariant-loop-region l = IsMerging (map (λ items. items.now) l.fn.kept.items) (map (λ items. items.now) l.left.items) l.events.items

abbrev pub decreases-loop-region : goal.decreases-loop-region
decreases-loop-region l = left_in (map (λ items. items.now) l.left.items)
