use Rattle.std.proofs.Common.{◌++◌, [], ap, get_or, ◌∙◌}
use Rattle.std.specs.List.{filter}
use Rattle.std.specs.Option.{option_or}
use Rattle.dt_queue.specs.LanesInner.{is_between}
use Rattle.dt_queue.specs.NextInner.{next_of_rows, or_else_one}
use Rattle.dt_queue.specs.TableInner.{lanes_read, lanes_written}
use Rattle.dt_queue.proofs.FollowerMarks.{left_of_read}
use Rattle.dt_queue.proofs.next.NextMarks.of_read.Goals as goal

pub returns-clause-marks : goal.returns-clause-marks
returns-clause-marks c =
    let reads = lanes_read c.args.table.now in
    let writes = lanes_written c.args.table.now in
    rw c.or.ensures
    (ap (λ rows. or_else_one (filter (is_between 0 0) (get_or reads c.args.row []) ++ next_of_rows reads writes c.args.low c.args.high rows) (option_or c.first_between.result c.args.other)) c.none.ensures
    ∙ left_of_read (get_or reads c.args.row []) (get_or writes c.args.row []) c.args.low c.args.high c.first_between.result c.args.other c.requires c.first_between.ensures)
