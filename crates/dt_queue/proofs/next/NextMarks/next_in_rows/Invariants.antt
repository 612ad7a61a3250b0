use Rattle.std.proofs.Common.{◌≡◌, [], length}
use Rattle.dt_queue.specs.ListedInner.{listed_left}
use Rattle.dt_queue.specs.NextInner.{reads_left, rows_left}
use Rattle.dt_queue.proofs.next.NextMarks.next_in_rows.Given as goal

abbrev pub invariant-loop-row : goal.invariant-loop-row
invariant-loop-row l = record {
  none : reads_left l.self ≡ [];
  same : rows_left l.self ≡ rows_left l.initial.self;
  table : l.self.table.now ≡ l.initial.self.table.now;
  last : l.self.last ≡ l.initial.self.last;
}

abbrev pub decreases-loop-row : goal.decreases-loop-row
decreases-loop-row l = length (listed_left l.self.rows)
