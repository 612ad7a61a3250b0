-- Scaffolding: how the queues are kept. Each entry has a cell at its slot, with its row, its mode and the number of its push;
-- and it has a mark in the lane of its mode, that of its row, or for the mode Whole that of its granule. `waiting_of` is the
-- list of entries that is kept so, and `AreQueuesKept` what all queues keep. Read next: `LanesInner`, then `RowsInner`, `ListedInner` and
-- `WholesInner`.
use Rattle.std.specs.Prelude.{◌≡◌, ℕ, ◌<◌, ◌≤◌, ◌↔◌, ◌⊎◌, ◌^◌, nat_lt, true, List, [], ◌∷◌, map, get_or, length, if◌then◌else◌, None, Some}
use Rattle.slab.specs.Slab.{Slab, Updates, get, entries}
use Rattle.dt_lists.specs.Lists.{AnyIn, Has}
use Rattle.dt_access.specs.Clash.{Bytes, is_whole, may_change}
use Rattle.dt_access.specs.declared.access.Mode.{Mode}
use Rattle.dt_access.specs.declared.access.Mode.TheVariants.{Read, Write, Whole}
use Rattle.dt_queue.specs.Queues.{Waiting}
use Rattle.dt_queue.specs.LanesInner.{HasRisingNumbers, IsFirstIn, IsLastIn, IsNearInRow, IsNextInRow}
use Rattle.dt_queue.specs.TableInner.{lanes_read, lanes_written}
use Rattle.dt_queue.specs.RowsInner.{AreRowsLinked, RowLinks, granule_at, links, name_at}
use Rattle.dt_queue.specs.ListedInner.{AreLogged, IsListedBy, IsListedRow, last_listing, listings_at, rows_between}
use Rattle.dt_queue.specs.declared.cell.Cell.{Cell}
use Rattle.dt_queue.specs.declared.mark.Mark.{Mark}
use Rattle.dt_queue.specs.declared.kept.Kept.{Kept}

-- a cell with its slot, put into a list of such where the numbers ascend
abbrev pub put_cell : ℕ × Cell → List (ℕ × Cell) → List (ℕ × Cell)
put_cell p [] = p ∷ []
put_cell p (q ∷ qs) = if nat_lt p.1.number q.1.number then p ∷ q ∷ qs else q ∷ put_cell p qs

-- cells with their slots in the order of their numbers
abbrev pub in_order : List (ℕ × Cell) → List (ℕ × Cell)
in_order [] = []
in_order (p ∷ ps) = put_cell p (in_order ps)

-- the entry that a cell at a slot keeps
abbrev pub entry : List (ℕ × Bytes) → ℕ × Cell → Waiting
entry names p = record { slot = p.0; home = (name_at names p.1.row).0; key = (name_at names p.1.row).1; mode = p.1.mode; vertex = p.1.vertex }

-- the entries that are kept, in the order of their pushes
abbrev pub waiting_of : Kept → List Waiting
waiting_of k = map (entry (links k.rows).names) (in_order (entries k.cells))

-- the mark of a cell at a slot
abbrev pub mark_of : ℕ → Cell → Mark
mark_of slot c = record { number = c.number; slot = slot; vertex = c.vertex }

-- the lane of a mode at a place
abbrev pub lane : Kept → Mode → ℕ → List Mark
lane k Read place = get_or (lanes_read k.rows.table.items) place []
lane k Write place = get_or (lanes_written k.rows.table.items) place []
lane k Whole place = get_or k.wholes place []

-- the place where a row has its lane of a mode
abbrev pub place_at : RowLinks → Mode → ℕ → ℕ
place_at r Read row = row
place_at r Write row = row
place_at r Whole row = granule_at r row

-- the cell has its mark in the lane of this mode and place
abbrev pub IsInLane : RowLinks → Mode → ℕ → Cell → Type 0
IsInLane r mode place c = (c.mode ≡ mode) × (place_at r mode c.row ≡ place)

-- a lane has the marks of just those cells that have P, in the order of their numbers
pub record IsLane (cells : Slab Cell) (P : Cell → Type 0) (marks : List Mark) : Type 0 where
  pub numbered : HasRisingNumbers marks
  pub members : (m : Mark) → Has marks m ↔ ((c : Cell) × (get cells m.slot ≡ Some c) × P c × (m ≡ mark_of m.slot c))

-- the number is that of an entry that waits to take the granule whole, or 0
abbrev pub IsTakenWhole : Kept → ℕ → ℕ → Type 0
IsTakenWhole k g low = (low ≡ 0) ⊎ ((m : Mark) × Has (lane k Whole g) m × (m.number ≡ low))

-- and this where numbers tell something of listings; else it is 0
abbrev pub IsLow : Kept → ℕ → ℕ → Type 0
IsLow k g low = (low ≡ 0) ⊎ (k.listed.exact ≡ true) × ((m : Mark) × Has (lane k Whole g) m × (m.number ≡ low))

-- the number is that of the last listing of a row, or of something that waits to read or write it
abbrev pub IsTop : Kept → ℕ → ℕ → Type 0
IsTop k row top = (top ≡ last_listing k.listed row) ⊎ ((m : Mark) × (Has (lane k Read row) m ⊎ Has (lane k Write row) m) × (m.number ≡ top))

-- listed rows are known, and listed of their granules; listings are no later than the next push; and for each mark of a row, and each
-- that waits to take the granule whole and came before it, a listing of the row lies between the two, the older ones of which came
-- before both
pub record AreRowsListed (k : Kept) : Type 0 where
  pub logged : AreLogged k.listed
  pub own : (g row : ℕ) → IsListedRow (listings_at k.listed g) row → (row < length (links k.rows).names) × (granule_at (links k.rows) row ≡ g)
  pub latest : k.listed.exact ≡ true → (row : ℕ) → last_listing k.listed row ≤ k.next_number
  pub covered : (row low top : ℕ) → IsLow k (granule_at (links k.rows) row) low → IsTop k row top → low < top → IsListedBy k.listed (granule_at (links k.rows) row) row low top

-- and so it is for the mark of the next push, if it reads or writes this row
abbrev pub IsEntered : Kept → ℕ → Type 0
IsEntered k row = (low : ℕ) → IsLow k (granule_at (links k.rows) row) low → low < k.next_number → IsListedBy k.listed (granule_at (links k.rows) row) row low k.next_number

-- what all queues keep: a cell has a number that was given, no other has it, and its row is known; its mark is in its lane; and the
-- rows in use are listed
pub record AreQueuesKept (k : Kept) : Type 0 where
  pub linked : AreRowsLinked (links k.rows)
  pub first : 0 < k.next_number
  pub last : k.next_number < 2 ^ 64
  pub counted : (slot : ℕ) (c : Cell) → get k.cells slot ≡ Some c → (0 < c.number) × (c.number < k.next_number)
  pub alone : (s t : ℕ) (c d : Cell) → get k.cells s ≡ Some c → get k.cells t ≡ Some d → c.number ≡ d.number → s ≡ t
  pub known : (slot : ℕ) (c : Cell) → get k.cells slot ≡ Some c → c.row < length (links k.rows).names
  pub lanes : (mode : Mode) (place : ℕ) → IsLane k.cells (IsInLane (links k.rows) mode place) (lane k mode place)
  pub listed : AreRowsListed k

-- the cell is one of those that are kept
abbrev pub IsKeptCell : Kept → Cell → Type 0
IsKeptCell k x = (slot : ℕ) × (get k.cells slot ≡ Some x)

-- one lane has become another, and all other lanes and all else are as before
pub record ChangesLaneOf (old : Kept) (mode : Mode) (place : ℕ) (marks : List Mark) (new : Kept) : Type 0 where
  pub changed : lane new mode place ≡ marks
  pub others : (m : Mode) (p : ℕ) → ¬ ((m ≡ mode) × (p ≡ place)) → lane new m p ≡ lane old m p
  pub rows : (links new.rows) ≡ (links old.rows)
  pub listed : new.listed ≡ old.listed
  pub cells : new.cells ≡ old.cells
  pub number : new.next_number ≡ old.next_number

-- all lanes have the marks that they had, and all else is as before
pub record KeepsLanes (old new : Kept) : Type 0 where
  pub lanes : (m : Mode) (p : ℕ) → lane new m p ≡ lane old m p
  pub rows : (links new.rows) ≡ (links old.rows)
  pub listed : new.listed ≡ old.listed
  pub cells : new.cells ≡ old.cells
  pub number : new.next_number ≡ old.next_number

-- a cell was put at a slot where there was none, for this row and mode and with the next number
pub record AddsCell (old new : Kept) (slot : ℕ) (row_name : ℕ × Bytes) (mode : Mode) (vertex : ℕ) : Type 0 where
  pub cell : Cell
  pub vacant : get old.cells slot ≡ None
  pub updates : Updates old.cells new.cells slot (Some cell)
  pub number : cell.number ≡ old.next_number
  pub name : name_at (links new.rows).names cell.row ≡ row_name
  pub mode_is : cell.mode ≡ mode
  pub vertex_is : cell.vertex ≡ vertex

-- of the marks of reads and writes that lie between two numbers, it is one of the nearest to a cell after them that clash with it
abbrev pub IsNearOf : Mode → Kept → ℕ → ℕ → ℕ → Mark → Type 0
IsNearOf Read k row low high m = IsLastIn (lane k Write row) low high m
IsNearOf Write k row low high m = IsNearInRow (lane k Read row) (lane k Write row) low high m
IsNearOf Whole k row low high m = AnyIn (λ r. IsNearInRow (lane k Read r) (lane k Write r) low high m) (rows_between k.listed (granule_at (links k.rows) row) low high)

-- and this for the cell's own mode, row and number
abbrev pub IsNearInMode : Kept → Cell → ℕ → Mark → Type 0
IsNearInMode k x low m = IsNearOf x.mode k x.row low x.number m

-- of the marks of reads and writes that lie between two numbers, it is one of the nearest to a cell before them that clash with it
abbrev pub IsNextOfMode : Mode → Kept → ℕ → ℕ → ℕ → Mark → Type 0
IsNextOfMode Read k row low high m = IsFirstIn (lane k Write row) low high m
IsNextOfMode Write k row low high m = IsNextInRow (lane k Read row) (lane k Write row) low high m
IsNextOfMode Whole k row low high m = AnyIn (λ r. IsNextInRow (lane k Read r) (lane k Write r) low high m) (rows_between k.listed (granule_at (links k.rows) row) low high)

-- and this for the cell's own mode, row and number
abbrev pub IsNextInMode : Kept → Cell → ℕ → Mark → Type 0
IsNextInMode k x high m = IsNextOfMode x.mode k x.row x.number high m

-- at most one of the marks of reads and writes is near to a cell: it reads its row, or it writes it, and nothing waits to read it
abbrev pub HasOneNear : Kept → Cell → Type 0
HasOneNear k x = (x.mode ≡ Read) ⊎ (x.mode ≡ Write) × (lane k Read x.row ≡ [])

-- two cells clash: they are of one row, which one of them does more than read, or of one granule, which one takes as a whole
abbrev pub CellsClash : RowLinks → Cell → Cell → Type 0
CellsClash r c d = ((c.row ≡ d.row) × ((may_change c.mode ≡ true) ⊎ (may_change d.mode ≡ true)))
    ⊎ ((granule_at r c.row ≡ granule_at r d.row) × ((is_whole c.mode ≡ true) ⊎ (is_whole d.mode ≡ true)))

-- it is the mark of one of the nearest cells before a cell that clash with it
abbrev pub IsNearMark : Kept → Cell → Mark → Type 0
IsNearMark k x m = (c : Cell) × (get k.cells m.slot ≡ Some c) × (m ≡ mark_of m.slot c) × (c.number < x.number) × CellsClash (links k.rows) c x
    × ((t : ℕ) (d : Cell) → get k.cells t ≡ Some d → c.number < d.number → d.number < x.number → CellsClash (links k.rows) c d → ¬ (CellsClash (links k.rows) d x))

-- it is the mark of one of the nearest cells after a cell that clash with it
abbrev pub IsNextMark : Kept → Cell → Mark → Type 0
IsNextMark k x m = (c : Cell) × (get k.cells m.slot ≡ Some c) × (m ≡ mark_of m.slot c) × (x.number < c.number) × CellsClash (links k.rows) x c
    × ((t : ℕ) (d : Cell) → get k.cells t ≡ Some d → x.number < d.number → d.number < c.number → CellsClash (links k.rows) x d → ¬ (CellsClash (links k.rows) d c))
