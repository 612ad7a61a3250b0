use Rattle.std.proofs.Common.{◌++◌, [], ap, get_or, ◌∙◌}
use Rattle.std.specs.List.{filter}
use Rattle.std.specs.Option.{option_or}
use Rattle.dt_queue.specs.LanesInner.{is_between, number_or}
use Rattle.dt_queue.specs.NextInner.{next_of_rows, or_else_one}
use Rattle.dt_queue.specs.TableInner.{lanes_read, lanes_written}
use Rattle.dt_queue.proofs.FollowerMarks.{left_of_write}
use Rattle.dt_queue.proofs.next.NextMarks.of_write.Goals as goal

pub returns-clause-marks : goal.returns-clause-marks
returns-clause-marks c =
    let reads = lanes_read c.args.table.now in
    let writes = lanes_written c.args.table.now in
    let w = c.first_between-write.result in
    rw (c.or.ensures, c.number_or.ensures)
    (ap (λ rows. or_else_one (filter (is_between c.args.low (number_or w c.args.high)) (get_or reads c.args.row []) ++ next_of_rows reads writes c.args.low c.args.high rows) (option_or w c.args.other)) c.none.ensures
    ∙ left_of_write (get_or reads c.args.row []) (get_or writes c.args.row []) c.args.low c.args.high w c.args.other c.requires c.first_between-write.ensures)
