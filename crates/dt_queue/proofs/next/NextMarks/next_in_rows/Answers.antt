use Rattle.std.proofs.Common.{◌≡◌, ◌++◌, [], None, Some, ap, arith, false, get_or, is_some, length, refl, rules, subst, sym, true, ◌∙◌}
use Rattle.dt_queue.specs.TableInner.{lanes_read, lanes_written}
use Rattle.dt_queue.specs.LanesInner.{AreApart, IsFirstBetween}
use Rattle.dt_queue.specs.ListedInner.{listed_left}
use Rattle.dt_queue.specs.NextInner.{next_of_rows, rows_left}
use Rattle.dt_queue.specs.declared.next.NextMarks.{NextMarks}
use Rattle.dt_queue.proofs.FollowerMarks.{between_first, between_none, found_none, found_some, row_entered, rows_out}
use Rattle.dt_queue.proofs.next.NextMarks.next_in_rows.Goals as goal

pub returns-in-Some-clause-taken : goal.returns-in-Some-clause-taken
returns-in-Some-clause-taken c =
    let s = c.args.self.now in
    let reads = get_or (lanes_read s.table.now) s.row [] in
    let first : IsFirstBetween s.after s.limit reads (Some c.in-Some.read) = rw c.in-Some.is at c.first_between.ensures in
    ap (λ l. l ++ next_of_rows (lanes_read s.table.now) (lanes_written s.table.now) s.low s.high (listed_left s.rows)) (between_first s.after s.limit reads c.in-Some.read (c.requires.reads_numbered s.row) first)

pub loop-row-init : goal.loop-row-init
loop-row-init c =
    let s = c.args.self.now in
    let reads = get_or (lanes_read s.table.now) s.row [] in
    let first : IsFirstBetween s.after s.limit reads None = rw c.in_default.is at c.first_between.ensures in
    record { none = between_none s.after s.limit reads first; same = refl; table = refl; last = refl }

pub enter-next-requires-clause-apart : goal.enter-next-requires-clause-apart
enter-next-requires-clause-apart c = subst (λ t. AreApart (lanes_read t) (lanes_written t)) (sym c.loop-row.invariant.table) c.requires

pub enter-next-requires-clause-none : goal.enter-next-requires-clause-none
enter-next-requires-clause-none c = c.loop-row.invariant.none

pub returns-then-is_some-clause-taken : goal.returns-then-is_some-clause-taken
returns-then-is_some-clause-taken c =
    let s = c.loop-row.self in let n = c.enter-next.new.self in
    let there : is_some c.enter-next.result ≡ true = search rules in
    found_some (rows_left c.args.self.now) (rows_left n) c.enter-next.result there (sym c.loop-row.invariant.same
    ∙ row_entered s n c.in-Some-next.row c.next.new.self c.enter-next.result c.loop-row.invariant.none c.in-Some-next.ensures c.enter-next.ensures.same c.enter-next.ensures.taken)

pub returns-then-is_some-clause-table : goal.returns-then-is_some-clause-table
returns-then-is_some-clause-table c = ap (λ (z : NextMarks). z.table.now) c.enter-next.ensures.same ∙ c.loop-row.invariant.table

pub returns-then-is_some-clause-last : goal.returns-then-is_some-clause-last
returns-then-is_some-clause-last c = ap (λ (z : NextMarks). z.last) c.enter-next.ensures.same ∙ c.loop-row.invariant.last

pub loop-row-smaller : goal.loop-row-smaller
loop-row-smaller c =
    let rest = ap (λ (z : NextMarks). length (listed_left z.rows)) c.enter-next.ensures.same in
    omega (arith, rest, ap length c.in-Some-next.ensures)

pub loop-row-preserved : goal.loop-row-preserved
loop-row-preserved c =
    let s = c.loop-row.self in let n = c.enter-next.new.self in
    let there : is_some c.enter-next.result ≡ false = search rules in
    let r = found_none (rows_left s) (rows_left n) c.enter-next.result there
    (row_entered s n c.in-Some-next.row c.next.new.self c.enter-next.result c.loop-row.invariant.none c.in-Some-next.ensures c.enter-next.ensures.same c.enter-next.ensures.taken) in
    record {
      none = c.enter-next.ensures.none r.0;
      same = sym r.1 ∙ c.loop-row.invariant.same;
      table = ap (λ (z : NextMarks). z.table.now) c.enter-next.ensures.same ∙ c.loop-row.invariant.table;
      last = ap (λ (z : NextMarks). z.last) c.enter-next.ensures.same ∙ c.loop-row.invariant.last;
    }

pub returns-clause-taken : goal.returns-clause-taken
returns-clause-taken c =
    let s = c.loop-row.self in
    let out : rows_left s ≡ [] = rows_out s c.loop-row.invariant.none c.in_default-next.ensures.0 in
    (sym c.loop-row.invariant.same ∙ out, rows_out (record s { rows = c.next.new.self }) c.loop-row.invariant.none c.in_default-next.ensures.1)

pub returns-clause-table : goal.returns-clause-table
returns-clause-table c = c.loop-row.invariant.table

pub returns-clause-last : goal.returns-clause-last
returns-clause-last c = c.loop-row.invariant.last
