use Rattle.std.proofs.Common.{[], get_or}
use Rattle.dt_queue.specs.TableInner.{lanes_read, lanes_written}
use Rattle.dt_queue.specs.ListedInner.{listed_left}
use Rattle.dt_queue.specs.NextInner.{next_of_rows}
use Rattle.dt_queue.proofs.FollowerMarks.{left_of_rows}
use Rattle.dt_queue.proofs.next.NextMarks.of_rows.Goals as goal

pub returns-clause-marks : goal.returns-clause-marks
returns-clause-marks c =
    left_of_rows (get_or (lanes_read c.args.table.now) 0 []) (next_of_rows (lanes_read c.args.table.now) (lanes_written c.args.table.now) c.args.low c.args.high (listed_left c.args.rows)) c.args.other
