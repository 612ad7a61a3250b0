use Rattle.std.proofs.Common.{◌≡◌, [], get_or, length, arith}
use Rattle.dt_queue.specs.TableInner.{lanes_read, lanes_written}
use Rattle.dt_queue.proofs.NearMarks.{added_reads, added_write, row_of}
use Rattle.dt_queue.proofs.nearest.add_row.Goals as goal

pub returns-in_ok-add : goal.returns-in_ok-add
returns-in_ok-add c =
    let reads = lanes_read c.args.table.now in
    let writes = lanes_written c.args.table.now in
    let same : length c.add_reads.new.marks.items ≡ length c.args.marks.now.items = omega (arith, c.if-len-had.true, c.len.ensures, c.len-had.ensures) in
    added_write _ _ _ (get_or reads c.args.row []) (get_or writes c.args.row []) c.args.low c.args.high c.number_or.result c.last_write-write.result
    (row_of reads writes c.requires c.args.row) c.last_write-write.ensures c.number_or.ensures
    c.in_ok-add_reads.ensures same c.in_ok-add.ensures

pub returns-else-len-had : goal.returns-else-len-had
returns-else-len-had c =
    let reads = lanes_read c.args.table.now in
    let writes = lanes_written c.args.table.now in
    let other : ¬ (length c.add_reads.new.marks.items ≡ length c.args.marks.now.items) = λ e. c.if-len-had.false (omega (arith, e, c.len.ensures, c.len-had.ensures)) in
    added_reads _ _ (get_or reads c.args.row []) (get_or writes c.args.row []) c.args.low c.args.high c.number_or.result c.last_write-write.result
    (row_of reads writes c.requires c.args.row) c.last_write-write.ensures c.number_or.ensures
    c.in_ok-add_reads.ensures other
