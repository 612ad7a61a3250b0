use Rattle.std.proofs.Common.{◌≡◌, ◌+◌, ◌==◌, ◌||◌, true, false, get_or, arith}
use Rattle.dt_text.proofs.ReadingAt.{cut_item, escaped_item, bad_escape}
use Rattle.dt_text.proofs.word.read_escape.Goals as goal

pub returns-then-at-line : goal.returns-then-at-line
returns-then-at-line c = cut_item c.args.line.now c.args.at c.requires.inside c.requires.escape c.if-at-line.true

pub returns-then-is_escaped : goal.returns-then-is_escaped
returns-then-is_escaped c =
    let byte = get_or c.args.line.now (c.args.at + 1) 0 in
    let which : (byte == 34 || byte == 92) ≡ true = cc in
    escaped_item c.args.line.now c.args.at (omega arith) c.requires.escape which

pub returns-else-is_escaped : goal.returns-else-is_escaped
returns-else-is_escaped c =
    let byte = get_or c.args.line.now (c.args.at + 1) 0 in
    let which : (byte == 34 || byte == 92) ≡ false = cc in
    bad_escape c.args.line.now c.args.at (omega arith) c.requires.escape which
