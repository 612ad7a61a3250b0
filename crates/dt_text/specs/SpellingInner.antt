-- Scaffolding: how the bytes of a key, a name or a text are kept. A few lie in the spelling itself, with their number; more lie
-- elsewhere, in common with its copies. Read next: Texts.antt, for what the bytes may be.
use Rattle.std.specs.Prelude.{ℕ, ◌≤◌, List, take}
use Rattle.dt_text.specs.declared.spelling.Form.{Form}
use Rattle.dt_text.specs.declared.spelling.Form.TheVariants.{Short, Long}

-- the bytes that are kept so
abbrev pub bytes_of : Form → List ℕ
bytes_of (Short count bytes) = take count bytes
bytes_of (Long bytes) = bytes.items

-- what lies in the spelling itself is not more than fits there
abbrev pub FitsForm : Form → Type 0
FitsForm (Short count bytes) = count ≤ 14
FitsForm (Long bytes) = Unit {0}
