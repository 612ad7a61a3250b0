use Rattle.std.proofs.Common.{◌≡◌, ◌++◌, map}
use Rattle.std.specs.Vec.Iter.{into_iter_items}
use Rattle.dt_table.specs.Table.{shown_at}
use Rattle.dt_table.proofs.table.Table.shown.Given as goal

abbrev pub invariant-loop-key : goal.invariant-loop-key
invariant-loop-key l = l.list ++ map (shown_at l.self.state) (into_iter_items l.key-iterator) ≡ map (shown_at l.self.state) (into_iter_items l.initial.key-iterator)
