use Rattle.std.proofs.Common.{◌≡◌, replicate}
use Rattle.dt_table.specs.declared.opened.Kept.TheVariants.{AsOpened}
use Rattle.dt_table.proofs.opened.all_as_opened.Given as goal

abbrev pub invariant-loop-place : goal.invariant-loop-place
invariant-loop-place l = l.kept.items ≡ replicate l._place AsOpened
