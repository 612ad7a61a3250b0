use Rattle.std.proofs.Common.{◌≡◌, [], replicate}
use Rattle.dt_region.proofs.opening.no_ids.Given as goal

abbrev pub invariant-loop-region : goal.invariant-loop-region
invariant-loop-region l = l.lists.items ≡ replicate l._region []
