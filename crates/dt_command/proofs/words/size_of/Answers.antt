use Rattle.std.proofs.Common.{arith, ap, length, sym, ◌∙◌}
use Rattle.std.proofs.lemmas.Fmt.{decimal_injective}
use Rattle.dt_command.proofs.WordForms.{five_digits}
use Rattle.dt_command.proofs.words.size_of.Goals as goal
use Rattle.dt_command.proofs.words.size_of.Goals.{then-number-lt1-via-then-number-lt1, then-number-lt1-via-else-number-lt1+then-number-gt20000}

pub returns-then-word-gt5 : goal.returns-then-word-gt5
returns-then-word-gt5 c = λ (n, some, few, is). omega (arith, c.if-word-gt5.true, ap length is, five_digits n few)

pub returns-then-number-lt1 : goal.returns-then-number-lt1
returns-then-number-lt1 c = λ (n, some, few, is).
    let same = decimal_injective c.in_ok-number.number n (omega (arith, c.in_ok-number.ensures.0)) (omega (arith, few)) (sym c.in_ok-number.ensures.1 ∙ is) in
    elim c.then-number-lt1.branch [
      | then-number-lt1-via-then-number-lt1 w ↦ omega (arith, same, some, w.if-number-lt1)
      | then-number-lt1-via-else-number-lt1+then-number-gt20000 w ↦ omega (arith, same, few, w.if-number-gt20000)
    ]
