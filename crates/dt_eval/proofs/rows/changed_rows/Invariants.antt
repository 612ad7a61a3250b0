use Rattle.std.proofs.Common.{◌≡◌, ◌++◌, length}
use Rattle.std.specs.Iterator.Adapters.{zip_first, zip_second}
use Rattle.std.specs.Slice.Iter.{iter_rest}
use Rattle.std.specs.Vec.Iter.{into_iter_items, into_iter_len}
use Rattle.dt_eval.specs.Meaning.{writes_of}
use Rattle.dt_eval.specs.RowsInner.{rows_in}
use Rattle.dt_eval.proofs.rows.changed_rows.Given as goal

-- what was written so far and what is left are all writes, and as many rows are left as tests
abbrev pub invariant-loop-changed : goal.invariant-loop-changed
invariant-loop-changed l = record {
  left : l.writes.items ++ writes_of (rows_in (into_iter_items (zip_second l.changed-iterator)) (iter_rest (zip_first l.changed-iterator))) ≡ writes_of (rows_in l.fn.items.items l.fn.changed);
  long : length (into_iter_items (zip_second l.changed-iterator)) ≡ length (iter_rest (zip_first l.changed-iterator));
  counted : into_iter_len (zip_second l.changed-iterator) ≡ length (into_iter_items (zip_second l.changed-iterator));
}
