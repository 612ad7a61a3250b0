use Rattle.std.proofs.Common.{map}
use Rattle.dt_run.specs.MergeInner.{IsFoundIn}
use Rattle.dt_run.proofs.merge.least.Given as goal

abbrev pub invariant-loop-region : goal.invariant-loop-region
invariant-loop-region l = IsFoundIn (map (λ items. items.now) l.left) l.region l.found
