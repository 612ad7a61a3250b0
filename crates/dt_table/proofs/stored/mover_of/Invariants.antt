use Rattle.std.proofs.Common.{◌≡◌, ◌+◌, ◌-◌, ◌<◌, length, slice_get, Some}
use Rattle.dt_table.specs.StoredMovesInner.{history}
use Rattle.dt_table.proofs.stored.mover_of.Given as goal

abbrev pub invariant-loop-later : goal.invariant-loop-later
invariant-loop-later l = record {
  within : l.place < length l.moves;
  left : length (history l.moves (Some l.place)) + l._later ≡ l.number + l.unit.counter;
  same : slice_get (history l.moves (Some l.place)) (l.number - 1) ≡ slice_get (history l.moves l.unit.last) (l.number - 1);
}
