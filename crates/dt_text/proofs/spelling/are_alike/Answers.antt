use Rattle.std.proofs.Common.{rules}
use Rattle.dt_text.proofs.SameWords.{same_words}
use Rattle.dt_text.proofs.spelling.are_alike.Goals as goal

pub returns-then-middle_word : goal.returns-then-middle_word
returns-then-middle_word c = λ same. same_words c.args.left.now c.args.right.now c.told-left c.told-right c.fits-left c.fits-right
    (Prim.search rules) (Prim.search rules) (Prim.search rules)
