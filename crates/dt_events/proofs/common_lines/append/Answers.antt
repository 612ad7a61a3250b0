use Rattle.dt_events.proofs.CommonLines.{append_line}
use Rattle.dt_events.proofs.common_lines.append.Goals as goal

pub returns : goal.returns
returns c =
    append_line c.args.line.now c.in_ok-after_append.field-0.now c.in_ok-home.arguments.now c.in_ok-source.number.now c.in_ok-home.home c.in_ok-source.source c.in_ok-number.number
    c.in_ok-after_append.ensures c.in_ok-home.ensures c.in_ok-source.ensures c.in_ok-number.ensures
