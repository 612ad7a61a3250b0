-- Scaffolding: how the cells are numbered anew where no number is left. One cell after the other, in the order of their
-- numbers, gets the least number that is not given again yet; so their order stays. Read next: `KeptInner`, for what cells are.
use Rattle.std.specs.Prelude.{◌≡◌, ℕ, ◌<◌, ◌≤◌, ◌⊎◌, ◌+◌, ◌^◌, ◌==◌, false, if◌then◌else◌, Option, None, Some}
use Rattle.slab.specs.Slab.{Slab, Updates, get}
use Rattle.dt_queue.specs.RowsInner.{links}
use Rattle.dt_queue.specs.KeptInner.{AreQueuesKept, waiting_of}
use Rattle.dt_queue.specs.declared.cell.Cell.{Cell}
use Rattle.dt_queue.specs.declared.mark.Mark.{Mark}
use Rattle.dt_queue.specs.declared.kept.Kept.{Kept}

-- a number, or another one in place of an old one
abbrev pub anew : ℕ → ℕ → ℕ → ℕ
anew number new n = if n == number then new else n

-- the mark with its number, or with another one in place of an old one
abbrev pub renumbered : ℕ → ℕ → Mark → Mark
renumbered number new m = record m { number = anew number new m.number }

-- a number does not lie from a new one on and below an old one
abbrev pub IsBeside : ℕ → ℕ → ℕ → Type 0
IsBeside number new n = (n < new) ⊎ (number ≤ n)

-- the number of a mark does not lie there
abbrev pub IsGap : ℕ → ℕ → Mark → Type 0
IsGap number new m = IsBeside number new m.number

-- of the cells with numbers from a number on, the answer is the slot of the one with the least; or there is none
abbrev pub IsFirstFrom : Slab Cell → ℕ → Option ℕ → Type 0
IsFirstFrom cells number None = (s : ℕ) (c : Cell) → get cells s ≡ Some c → c.number < number
IsFirstFrom cells number (Some slot) = (c : Cell) × (get cells slot ≡ Some c) × (number ≤ c.number)
    × ((s : ℕ) (d : Cell) → get cells s ≡ Some d → IsBeside c.number number d.number)

-- a cell has got a number, and all else of the cells is as before
pub record Renumbers (old new : Slab Cell) (slot number : ℕ) : Type 0 where
  pub cell : Cell
  pub there : get old slot ≡ Some cell
  pub updates : Updates old new slot (Some (record cell { number = number }))

-- the same entries are kept, in the same rows
pub record ShowsSame (old new : Kept) : Type 0 where
  pub kept : AreQueuesKept new
  pub rows : (links new.rows) ≡ (links old.rows)
  pub shown : waiting_of new ≡ waiting_of old

-- each number from 1 on and below a number is that of a cell
abbrev pub AreGiven : Slab Cell → ℕ → Type 0
AreGiven cells number = (n : ℕ) → 0 < n → n < number → (s : ℕ) × (c : Cell) × (get cells s ≡ Some c) × (c.number ≡ n)

-- the cells are being numbered anew: the same entries are kept, each number below the next one is given, and the numbers of listings
-- tell nothing
pub record IsNumbering (old now : Kept) (number : ℕ) : Type 0 where
  pub same : ShowsSame old now
  pub positive : 0 < number
  pub given : AreGiven now.cells number
  pub free : now.listed.exact ≡ false

-- of the cells at slots below a slot, a limit is the least number from a number on, and the slot that was found has it
pub record IsFirstBelow (cells : Slab Cell) (number slot limit : ℕ) (found : Option ℕ) : Type 0 where
  pub least : (s : ℕ) (c : Cell) → s < slot → get cells s ≡ Some c → IsBeside limit number c.number
  pub none : found ≡ None → 2 ^ 64 ≤ limit + 1
  pub some : (s : ℕ) → found ≡ Some s → (c : Cell) × (get cells s ≡ Some c) × (number ≤ c.number) × (c.number ≡ limit)

-- the number of the cell at a slot, where it lies from one number on and below another
abbrev pub IsNumberAt : Slab Cell → ℕ → ℕ → ℕ → Option ℕ → Type 0
IsNumberAt cells slot low high None = (c : Cell) → get cells slot ≡ Some c → IsBeside high low c.number
IsNumberAt cells slot low high (Some n) = (c : Cell) × (get cells slot ≡ Some c) × (c.number ≡ n) × (low ≤ n) × (n < high)
