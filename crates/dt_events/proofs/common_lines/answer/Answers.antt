use Rattle.dt_events.proofs.CommonLines.{answer_line}
use Rattle.dt_events.proofs.common_lines.answer.Goals as goal

pub returns : goal.returns
returns c =
    let read = rw c.in-Some-2.is at c.in_ok-session.ensures in
    answer_line c.args.line.now c.in-Some.arguments.now c.in-Some-region_first.session.now c.in-Some-region_first.region c.in-Some-2.session c.in-Some.ensures c.in-Some-region_first.ensures read
