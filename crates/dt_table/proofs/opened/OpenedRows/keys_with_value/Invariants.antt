use Rattle.std.proofs.Common.{◌≡◌, take}
use Rattle.dt_table.specs.StoredUnitInner.{keys_with_value}
use Rattle.dt_table.proofs.opened.OpenedRows.keys_with_value.Given as goal

abbrev pub invariant-loop-place : goal.invariant-loop-place
invariant-loop-place l = l.keys.items ≡ keys_with_value (take l.place l.self)
