-- The word so far is the quote and the items of the bytes so far.
use Rattle.std.proofs.Common.{◌≡◌, ◌∷◌, take}
use Rattle.dt_text.specs.Printed.{text_items}
use Rattle.dt_text.proofs.printed.put_text.Given as goal

abbrev pub invariant-loop-byte : goal.invariant-loop-byte
invariant-loop-byte l = l.word.items ≡ 34 ∷ text_items (take l.byte-index l.byte-items)
