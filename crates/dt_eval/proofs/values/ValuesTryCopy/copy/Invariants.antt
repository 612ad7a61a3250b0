use Rattle.std.proofs.Common.{◌≡◌, take}
use Rattle.dt_eval.proofs.values.ValuesTryCopy.copy.Given as goal

abbrev pub invariant-loop-value : goal.invariant-loop-value
invariant-loop-value l = l.copied ≡ take l.value-index l.self
