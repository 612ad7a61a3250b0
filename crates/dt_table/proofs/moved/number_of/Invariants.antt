use Rattle.std.proofs.Common.{◌≡◌, ◌<◌, drop}
use Rattle.dt_table.specs.MovedPlacesInner.{unit_number, unit_number_from}
use Rattle.dt_table.proofs.moved.number_of.Given as goal

abbrev pub invariant-loop-byte : goal.invariant-loop-byte
invariant-loop-byte l = record {
  left : unit_number_from l.number (drop l.byte-index l.unit) ≡ unit_number l.unit;
  below : l.number < 16384;
}
