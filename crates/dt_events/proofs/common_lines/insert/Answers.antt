use Rattle.dt_events.proofs.CommonLines.{insert_line}
use Rattle.dt_events.proofs.common_lines.insert.Goals as goal

pub returns : goal.returns
returns c =
    insert_line c.args.line.now c.in_ok-after_insert.field-0.now c.in_ok-region.home.now c.in_ok-region.region c.in_ok-home.home c.in_ok-after_insert.ensures c.in_ok-region.ensures c.in_ok-home.ensures
