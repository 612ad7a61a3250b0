use Rattle.std.proofs.Common.{[], ◌++◌, get_or, sym, subst, ap, ◌∙◌}
use Rattle.dt_queue.specs.TableInner.{lanes_read, lanes_written}
use Rattle.dt_queue.specs.LanesInner.{AreMarks, IsNearInRow}
use Rattle.dt_queue.proofs.nearest.near_row.Goals as goal

pub returns : goal.returns
returns c =
    let r = c.in_ok-add_row.ensures in
    subst (AreMarks (IsNearInRow (get_or (lanes_read c.args.table.now) c.args.row []) (get_or (lanes_written c.args.table.now) c.args.row []) c.args.low c.args.high)) (sym (r.1 ∙ ap (λ l. l ++ r.0) c.new-marks.ensures.items)) r.2
