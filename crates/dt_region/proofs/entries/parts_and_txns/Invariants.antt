use Rattle.std.proofs.Common.{◌≡◌, ◌++◌, map}
use Rattle.std.specs.Vec.Iter.{into_iter_items}
use Rattle.dt_region.proofs.entries.parts_and_txns.Given as goal

abbrev pub invariant-loop-entry : goal.invariant-loop-entry
invariant-loop-entry l = record {
  parts : l.parts.items ++ map (λ e. e.part) (into_iter_items l.entry-iterator) ≡ map (λ e. e.part) l.fn.entries.items;
  txns : l.txns.items ++ map (λ e. e.txn) (into_iter_items l.entry-iterator) ≡ map (λ e. e.txn) l.fn.entries.items;
}
