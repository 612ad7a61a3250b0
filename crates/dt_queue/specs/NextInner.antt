-- The marks of the followers of an entry, as they are found: row by row, and those of a row in the order of their numbers. Of a row
-- these are the reads before the first write, or, where there are none, that write. Where no row has any, what takes the granule
-- whole next is the follower. Lanes, in which all these are found, stand in LanesInner.antt. Read next: `KeptInner`.
use Rattle.std.specs.Prelude.{◌≡◌, ℕ, ◌↔◌, List, [], ◌∷◌, ◌++◌, Option, get_or, option_to_list, slice_get}
use Rattle.std.specs.List.{filter, flat_map}
use Rattle.dt_lists.specs.Lists.{EachThen, Has}
use Rattle.dt_queue.specs.LanesInner.{is_between, number_or}
use Rattle.dt_queue.specs.ListedInner.{listed_left}
use Rattle.dt_queue.specs.TableInner.{lanes_read, lanes_written}
use Rattle.dt_queue.specs.declared.follower.Follower.{Follower}
use Rattle.dt_queue.specs.declared.mark.Mark.{Mark}
use Rattle.dt_queue.specs.declared.next.NextMarks.{NextMarks}

-- the first of the marks between two numbers, if there is one
abbrev pub first_in : ℕ → ℕ → List Mark → Option Mark
first_in low high marks = slice_get (filter (is_between low high) marks) 0

-- the marks, or, where there are none, the other one, if there is one
abbrev pub or_else_one : List Mark → Option Mark → List Mark
or_else_one [] one = option_to_list one
or_else_one (m ∷ marks) one = m ∷ marks

-- the marks of a row between two numbers that are next to an entry before them that writes the row
abbrev pub next_of_row : List Mark → List Mark → ℕ → ℕ → List Mark
next_of_row reads writes low high = or_else_one (filter (is_between low (number_or (first_in low high writes) high)) reads) (first_in low high writes)

-- those of several rows
abbrev pub next_of_rows : List (List Mark) → List (List Mark) → ℕ → ℕ → List ℕ → List Mark
next_of_rows reads writes low high rows = flat_map (λ row. next_of_row (get_or reads row []) (get_or writes row []) low high) rows

-- the reads that are left of the row that the search is in
abbrev pub reads_left : NextMarks → List Mark
reads_left n = filter (is_between n.after n.limit) (get_or (lanes_read n.table.now) n.row [])

-- what is left of the rows
abbrev pub rows_left : NextMarks → List Mark
rows_left n = reads_left n ++ next_of_rows (lanes_read n.table.now) (lanes_written n.table.now) n.low n.high (listed_left n.rows)

-- what is left in all
abbrev pub marks_left : NextMarks → List Mark
marks_left n = or_else_one (rows_left n) n.last

-- just those marks that have P, and no number twice
pub record AreEachOnce (P : Mark → Type 0) (marks : List Mark) : Type 0 where
  pub apart : EachThen (λ m k. ¬ (m.number ≡ k.number)) marks
  pub members : (m : Mark) → Has marks m ↔ P m

-- a mark as a follower: its slot and its vertex
abbrev pub follower_of_mark : Mark → Follower
follower_of_mark m = record { slot = m.slot; vertex = m.vertex }
