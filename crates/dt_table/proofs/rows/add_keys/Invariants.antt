use Rattle.std.proofs.Common.{◌≡◌, ◌++◌}
use Rattle.dt_table.specs.StoredUnitInner.{keys_with_value}
use Rattle.dt_table.proofs.rows.add_keys.Given as goal

abbrev pub invariant-loop-key : goal.invariant-loop-key
invariant-loop-key l = l.keys.items ++ keys_with_value l.key-iterator ≡ l.initial.keys.items ++ keys_with_value l.values.entries
