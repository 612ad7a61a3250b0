-- What a row may have, be it in a file, as an argument of a call, or in a report. Read next: Printed.antt, for how values are
-- printed.
use Rattle.std.specs.Prelude.{FitsSigned}
use Rattle.std.specs.Int.{w64}
use Rattle.dt_text.specs.Texts.{IsStr}
use Rattle.dt_text.specs.declared.value.Value.{Value}
use Rattle.dt_text.specs.declared.value.Value.TheVariants.{Int, Text}

-- a value that can be: a number of 64 bits with a sign, or a text
abbrev pub IsRowValue : Value → Type 0
IsRowValue (Int number) = FitsSigned w64 number
IsRowValue (Text text) = IsStr text
