use Rattle.std.proofs.Common.{◌+◌, ◌<◌, ◌^◌, length}
use Rattle.dt_table.specs.StoredUnitInner.{by_bytes}
use Rattle.dt_table.proofs.NotedPlaces.{NotedBefore}
use Rattle.dt_table.proofs.units.note_stored.Given as goal

abbrev pub invariant-loop-place : goal.invariant-loop-place
invariant-loop-place l = record {
  few : l.place + length l.unit-iterator < 2 ^ 64;
  noted : NotedBefore l.moved (by_bytes l.unit-iterator) (by_bytes l.units.entries);
}
