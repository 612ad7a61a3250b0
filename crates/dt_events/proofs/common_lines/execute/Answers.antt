use Rattle.dt_events.proofs.CommonLines.{execute_line}
use Rattle.dt_events.proofs.common_lines.execute.Goals as goal

pub returns : goal.returns
returns c =
    execute_line c.args.line.now c.in_ok-after_execute.field-0.now c.in_ok-region.id.now c.in_ok-region.region c.in_ok-id.id c.in_ok-after_execute.ensures c.in_ok-region.ensures c.in_ok-id.ensures
