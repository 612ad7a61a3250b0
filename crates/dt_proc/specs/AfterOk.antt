-- One step after another, where each may fail: the first error is the result. So procedures are checked, and so they run.
-- Read next: SecondPass, how they are checked; then Statements of dt_eval, how they run.
use Rattle.std.specs.Prelude.{Result, Ok, Err}

-- goes on with what a step gave; an error stays an error
abbrev pub after_ok : {A B E : Type 0} → Result A E → (A → Result B E) → Result B E
after_ok (Ok a) next = next a
after_ok (Err e) next = Err e
