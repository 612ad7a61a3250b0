-- Sinks, which take bytes.
--
-- A sink may show the bytes that it holds, and counts its faults. It is given a text piece after piece, and where it
-- fails, it has taken some first bytes of the text and no others: so a report that was cut short is told apart from every
-- other. A sink in memory is defined whole here, for tests; a stream of the system shows nothing of what it holds, and is
-- described by what its writer took. Read next: src/sinks.rt, the calls; or `Answers` of the command, for what is written
-- in the end.
use Rattle.std.specs.Prelude.{◌≡◌, ℕ, ◌≤◌, List, ◌++◌, take, Option, None, Some, Result, OnOk, OnErr}
use Rattle.dt_outside.specs.Faults.{Rose}

-- what is seen of a sink: the bytes that it holds, where it shows them, and how many faults there were
pub record SinkView : Type 0 where
  pub held : Option (List ℕ)
  pub faults : ℕ

-- what is held once the piece stands behind it; what is not named stays so
abbrev pub held_with : Option (List ℕ) → List ℕ → Option (List ℕ)
held_with None piece = None
held_with (Some bytes) piece = Some (bytes ++ piece)

-- the piece was added behind what was held
abbrev pub Adds : Option (List ℕ) → Option (List ℕ) → List ℕ → Type 0
Adds old new piece = new ≡ held_with old piece

-- some first bytes of the piece were added, and no others
abbrev pub AddsPrefix : Option (List ℕ) → Option (List ℕ) → List ℕ → Type 0
AddsPrefix old new piece = (n : ℕ) × Adds old new (take n piece)

-- how the writing of a text ends: all of it was added; or the sink failed, which was counted, and some first bytes of the
-- text were added, and no others
pub record Writes {E : Type 0} (old new : SinkView) (text : List ℕ) (result : Result (Unit {0}) E) : Type 0 where
  pub added : OnOk result (Adds old.held new.held text)
  pub prefix : OnErr result (AddsPrefix old.held new.held text)
  pub failed : OnErr result (Rose old.faults new.faults)
  pub later : old.faults ≤ new.faults

-- a sink in memory: what it holds, how many bytes it can hold, and how many faults there were
pub record MemorySinkView : Type 0 where
  pub content : List ℕ
  pub room : ℕ
  pub faults : ℕ

-- a stream of the system: what its writer has taken, where the writer shows it, and how many faults there were
pub record StdSinkView : Type 0 where
  pub taken : Option (List ℕ)
  pub faults : ℕ
