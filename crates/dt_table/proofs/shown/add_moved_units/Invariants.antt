use Rattle.std.proofs.Common.{◌≡◌, ◌++◌}
use Rattle.dt_lists.specs.Lists.{AllIn}
use Rattle.dt_text.specs.Texts.{IsKey}
use Rattle.dt_table.specs.StoredUnitInner.{by_bytes, moved_without_value}
use Rattle.dt_table.proofs.shown.add_moved_units.Given as goal

abbrev pub invariant-loop-unit : goal.invariant-loop-unit
invariant-loop-unit l = record {
  keys : AllIn (λ e. IsKey e.0) (by_bytes l.unit-iterator);
  left : l.keys.items ++ moved_without_value l.values.entries (by_bytes l.unit-iterator)
      ≡ l.initial.keys.items ++ moved_without_value l.values.entries (by_bytes l.units.entries);
}
