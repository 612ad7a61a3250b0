use Rattle.dt_text.proofs.ReadingAt.{text_ends, text_goes_on}
use Rattle.dt_text.proofs.word.ended_text.Goals as goal

pub returns-then-not-may_end : goal.returns-then-not-may_end
returns-then-not-may_end c =
    let goes_on = c.if-not-may_end.ensures in
    text_goes_on c.args.line.now c.args.text.items c.args.end goes_on.0 goes_on.1

pub returns : goal.returns
returns c = rw (c.in_ok-spelled.ensures, c.in_ok-text.ensures, c.as_slice.ensures) (text_ends c.args.line.now c.args.text.items c.args.end c.requires.inside c.if-not-may_end.ensures)
