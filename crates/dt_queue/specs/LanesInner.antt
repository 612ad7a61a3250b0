-- Lanes: the entries that use one row in one way, each as a mark with the number of its push. Their numbers ascend, so a lane
-- is searched by halving, and what lies between two entries of other lanes is found by their numbers. Most lanes have one mark at
-- most, so the first lies in the lane itself (`marks_of`). Read next: `FurtherInner`, for where the others lie.
use Rattle.std.specs.Prelude.{◌≡◌, ℕ, ◌<◌, ◌≤◌, ◌⊎◌, ◌↔◌, Bool, ◌&&◌, ◌==◌, nat_lt, if◌then◌else◌, List, [], ◌∷◌, ◌++◌, get_or, length, take, drop, Option, Some, None}
use Rattle.dt_lists.specs.Lists.{AllIn, EachThen, Has}
use Rattle.dt_queue.specs.declared.mark.Mark.{Mark}

-- the numbers of the marks ascend
abbrev pub HasRisingNumbers : List Mark → Type 0
HasRisingNumbers marks = EachThen (λ m k. m.number < k.number) marks

-- the marks of a lane: the first, whose number is 0 where there is none, and those after it
abbrev pub marks_of : Mark → List Mark → List Mark
marks_of first tail = if first.number == 0 then [] else first ∷ tail

-- the numbers of the marks of a lane ascend, and where there is no first one, there is none after it
abbrev pub IsOneLane : Mark → List Mark → Type 0
IsOneLane first tail = HasRisingNumbers (marks_of first tail) × (first.number ≡ 0 → tail ≡ [])

-- the place is where the search for a number ends: marks before it have lesser numbers, and those from it on have not
pub record EndsBelow (number : ℕ) (marks : List Mark) (place : ℕ) : Type 0 where
  pub within : place ≤ length marks
  pub lesser : AllIn (λ m. m.number < number) (take place marks)
  pub others : AllIn (λ m. number ≤ m.number) (drop place marks)

-- whether the number of a mark lies between two numbers
abbrev pub is_between : ℕ → ℕ → Mark → Bool
is_between low high m = nat_lt low m.number && nat_lt m.number high

-- the number of a mark lies between two numbers
abbrev pub IsBetween : ℕ → ℕ → Mark → Type 0
IsBetween low high m = (low < m.number) × (m.number < high)

-- the answer is the last of the marks between two numbers, or there is none between them
abbrev pub IsLastBetween : ℕ → ℕ → List Mark → Option Mark → Type 0
IsLastBetween low high marks None = (m : Mark) → Has marks m → ¬ (IsBetween low high m)
IsLastBetween low high marks (Some m) =
    Has marks m × IsBetween low high m × ((k : Mark) → Has marks k → IsBetween low high k → k.number ≤ m.number)

-- the answer is the first of the marks between two numbers, or there is none between them
abbrev pub IsFirstBetween : ℕ → ℕ → List Mark → Option Mark → Type 0
IsFirstBetween low high marks None = (m : Mark) → Has marks m → ¬ (IsBetween low high m)
IsFirstBetween low high marks (Some m) =
    Has marks m × IsBetween low high m × ((k : Mark) → Has marks k → IsBetween low high k → m.number ≤ k.number)

-- each lane has the marks that it had
abbrev pub SameLanes : List (List Mark) → List (List Mark) → Type 0
SameLanes old new = (place : ℕ) → get_or new place [] ≡ get_or old place []

-- one lane has become another, and each other lane has the marks that it had
pub record ChangesLane (old : List (List Mark)) (place : ℕ) (lane : List Mark) (new : List (List Mark)) : Type 0 where
  pub changed : get_or new place [] ≡ lane
  pub others : (other : ℕ) → ¬ (other ≡ place) → get_or new other [] ≡ get_or old other []

-- none of the marks lies between the two numbers
abbrev pub NoneBetween : ℕ → ℕ → List Mark → Type 0
NoneBetween low high marks = (m : Mark) → Has marks m → ¬ (IsBetween low high m)

-- of the marks of a lane that lie between two numbers, it is the last
abbrev pub IsLastIn : List Mark → ℕ → ℕ → Mark → Type 0
IsLastIn marks low high m = Has marks m × IsBetween low high m × NoneBetween m.number high marks

-- of the marks of a lane that lie between two numbers, it is the first
abbrev pub IsFirstIn : List Mark → ℕ → ℕ → Mark → Type 0
IsFirstIn marks low high m = Has marks m × IsBetween low high m × NoneBetween low m.number marks

-- of the marks of a row that lie between two numbers, it is one of the nearest to an entry after them that writes the row:
-- it reads the row, and none after it writes it; or it writes it, and none after it uses it
abbrev pub IsNearInRow : List Mark → List Mark → ℕ → ℕ → Mark → Type 0
IsNearInRow reads writes low high m = IsBetween low high m
    × ((Has reads m × NoneBetween m.number high writes) ⊎ (Has writes m × NoneBetween m.number high writes × NoneBetween m.number high reads))

-- of the marks of a row that lie between two numbers, it is one of the nearest to an entry before them that writes the row:
-- it reads the row, and none before it writes it; or it writes it, and none before it uses it
abbrev pub IsNextInRow : List Mark → List Mark → ℕ → ℕ → Mark → Type 0
IsNextInRow reads writes low high m = IsBetween low high m
    × ((Has reads m × NoneBetween low m.number writes) ⊎ (Has writes m × NoneBetween low m.number writes × NoneBetween low m.number reads))

-- the numbers in each lane ascend, and no number stands twice in the lanes of rows that are read and written
pub record AreApart (reads writes : List (List Mark)) : Type 0 where
  pub reads_numbered : (row : ℕ) → HasRisingNumbers (get_or reads row [])
  pub writes_numbered : (row : ℕ) → HasRisingNumbers (get_or writes row [])
  pub of_reads : (r s : ℕ) (m k : Mark) → Has (get_or reads r []) m → Has (get_or reads s []) k → m.number ≡ k.number → r ≡ s
  pub of_writes : (r s : ℕ) (m k : Mark) → Has (get_or writes r []) m → Has (get_or writes s []) k → m.number ≡ k.number → r ≡ s
  pub of_both : (r s : ℕ) (m k : Mark) → Has (get_or reads r []) m → Has (get_or writes s []) k → ¬ (m.number ≡ k.number)

-- the list has just the marks that have P, in the order of their numbers
pub record AreMarks (P : Mark → Type 0) (marks : List Mark) : Type 0 where
  pub numbered : HasRisingNumbers marks
  pub members : (m : Mark) → Has marks m ↔ P m

-- marks were added at the back: just those that have P, in the order of their numbers
abbrev pub AddsMarks : (Mark → Type 0) → List Mark → List Mark → Type 0
AddsMarks P old new = (added : List Mark) × (new ≡ old ++ added) × AreMarks P added

-- the number of a mark, or another number where there is no mark
abbrev pub number_or : Option Mark → ℕ → ℕ
number_or None other = other
number_or (Some m) other = m.number
