use Rattle.std.proofs.Common.{◌≡◌, ◌+◌, ◌≤◌, length}
use Rattle.std.specs.Vec.Iter.{into_iter_items}
use Rattle.std.specs.Option.{option_to_list}
use Rattle.dt_table.specs.Table.{all_written}
use Rattle.dt_table.proofs.table.Table.apply.Given as goal

abbrev pub invariant-loop-key : goal.invariant-loop-key
invariant-loop-key l = record {
  left : all_written (into_iter_items l.key-iterator) l.self.state ≡ all_written l.fn.effect.writes l.fn.self.state;
  room : length (into_iter_items l.key-iterator) + length (option_to_list l.fn.effect.moved) ≤ l.self.spare;
  used : l.fn.self.spare + length (into_iter_items l.key-iterator) ≤ l.self.spare + length l.fn.effect.writes;
}
