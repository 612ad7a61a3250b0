use Rattle.std.proofs.Common.{◌≡◌, take}
use Rattle.dt_table.specs.StoredUnitInner.{by_bytes}
use Rattle.dt_table.proofs.units.index_homes.Given as goal

abbrev pub invariant-loop-unit : goal.invariant-loop-unit
invariant-loop-unit l = by_bytes l.index.entries ≡ take l.unit-index l.homes
