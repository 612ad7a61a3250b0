use Rattle.std.proofs.Common.{◌≡◌, true, false, get_or}
use Rattle.dt_text.specs.Texts.{is_text_byte}
use Rattle.dt_text.proofs.ReadingAt.{plain_item, bad_item}
use Rattle.dt_text.proofs.word.read_item.Goals as goal

pub returns-then-is_text_byte : goal.returns-then-is_text_byte
returns-then-is_text_byte c =
    let allowed : is_text_byte (get_or c.args.line.now c.args.at 0) ≡ true = cc in
    plain_item c.args.line.now c.args.at c.requires.inside c.requires.no_quote c.if-byte-eq92.false allowed

pub returns-else-is_text_byte : goal.returns-else-is_text_byte
returns-else-is_text_byte c =
    let bad : is_text_byte (get_or c.args.line.now c.args.at 0) ≡ false = cc in
    bad_item c.args.line.now c.args.at c.requires.inside c.requires.no_quote c.if-byte-eq92.false bad
