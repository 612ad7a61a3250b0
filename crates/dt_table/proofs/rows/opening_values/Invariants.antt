use Rattle.std.proofs.Common.{◌≡◌, take}
use Rattle.dt_table.proofs.rows.opening_values.Given as goal

abbrev pub invariant-loop-key : goal.invariant-loop-key
invariant-loop-key l = l.opened.entries ≡ take l.key-index l.rows
