use Rattle.std.proofs.Common.{◌≡◌, ℕ, ◌+◌, ◌<◌, List, ◌++◌, ◌∷◌, [], ap, sym, ◌∙◌, append_assoc, append-nil}
use Rattle.std.specs.Fmt.{decimal}
use Rattle.std.proofs.lemmas.Fmt.{decimal_digit}
use Rattle.dt_text.specs.Words.{spaced}
use Rattle.dt_events.proofs.printed.put_number.Goals as goal

-- a number below 10 is its one digit
one_digit : (before text after : List ℕ) (n : ℕ) → n < 10 → text ≡ before ++ 32 ∷ [] → after ≡ text ++ (48 + n) ∷ [] → after ≡ before ++ spaced (decimal n ∷ [])
one_digit before text after n small space digit =
    digit ∙ ap (λ t. t ++ (48 + n) ∷ []) space ∙ append_assoc before (32 ∷ []) ((48 + n) ∷ []) ∙ ap (λ t. before ++ 32 ∷ t) (sym (decimal_digit n small) ∙ sym (append-nil (decimal n)))

pub returns-then-number-lt10-clause-added : goal.returns-then-number-lt10-clause-added
returns-then-number-lt10-clause-added c =
    one_digit c.args.out.now.items c.push.new.self.items c.push-then-number-lt10.new.self.items c.args.number c.if-number-lt10.true c.in_ok-push.ensures.items c.in_ok-push-2.ensures.items
