use Rattle.std.proofs.Common.{◌++◌, [], None, Some, ap, get_or, option_to_list, ◌∙◌}
use Rattle.std.proofs.lemmas.List.{append-nil}
use Rattle.dt_queue.specs.TableInner.{lanes_read, lanes_written}
use Rattle.dt_queue.specs.LanesInner.{IsFirstBetween, number_or}
use Rattle.dt_queue.proofs.NearMarks.{row_of}
use Rattle.dt_queue.proofs.FollowerMarks.{row_begins, row_is_write}
use Rattle.dt_queue.proofs.next.NextMarks.enter.Goals as goal

pub returns-in_default-clause-taken : goal.returns-in_default-clause-taken
returns-in_default-clause-taken c =
    let s = c.args.self.now in
    let reads = get_or (lanes_read s.table.now) c.args.row [] in
    let w = c.first_between-write.result in
    let read : IsFirstBetween s.low (number_or w s.high) reads None = rw (c.in_default.is, c.number_or-limit.ensures) at c.first_between.ensures in
    ap (λ l. option_to_list w ++ l) c.requires.none ∙ append-nil (option_to_list w)
    ∙ row_is_write reads (get_or (lanes_written s.table.now) c.args.row []) s.low s.high w (row_of (lanes_read s.table.now) (lanes_written s.table.now) c.requires.apart c.args.row) c.first_between-write.ensures read

pub returns-clause-taken : goal.returns-clause-taken
returns-clause-taken c =
    let s = c.args.self.now in
    let reads = get_or (lanes_read s.table.now) c.args.row [] in
    let w = c.first_between-write.result in
    let read : IsFirstBetween s.low (number_or w s.high) reads (Some c.in-Some.read) = rw (c.in-Some.is, c.number_or-limit.ensures) at c.first_between.ensures in
    rw c.number_or-limit.ensures
    (row_begins reads (get_or (lanes_written s.table.now) c.args.row [])
    s.low s.high w c.in-Some.read (row_of (lanes_read s.table.now) (lanes_written s.table.now) c.requires.apart c.args.row) c.first_between-write.ensures read)
