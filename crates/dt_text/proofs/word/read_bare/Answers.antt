use Rattle.std.proofs.Common.{◌≡◌, true, false, get_or}
use Rattle.dt_text.specs.Words.{is_visible}
use Rattle.dt_text.proofs.ReadingAt.{bare_word, no_word}
use Rattle.dt_text.proofs.word.read_bare.Goals as goal

pub returns-then-not-is_visible : goal.returns-then-not-is_visible
returns-then-not-is_visible c =
    let bad : is_visible (get_or c.args.line.now c.args.at 0) ≡ false = cc in
    no_word c.args.line.now c.args.at c.requires.inside c.requires.no_space bad

pub returns : goal.returns
returns c =
    let visible : is_visible (get_or c.args.line.now c.args.at 0) ≡ true = cc in
    let end = c.bare_end-end.ensures in
    bare_word c.args.line.now c.args.at c.bare_end-end.result c.requires.inside c.requires.no_quote visible end.after end.inside end.ends
