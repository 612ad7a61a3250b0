-- Listed rows: which rows of a granule came to be used between two pushes. So what takes the granule whole looks at the rows that were
-- used after the last one before it that does, and not at all rows that the granule ever had.
--
-- Of each granule there is a log of listings, in the order of their pushes. A listing says that a row was listed at the push of a
-- number, and how far the older listings of the row go: their numbers are not greater than its `before`. So between two pushes a row
-- may have several listings, but one alone whose `before` is not greater than the number of the first: that is how each row is found
-- once, with no memory for those that were found. Of each row the number of its last listing is kept.
--
-- A push into a row lists it, if it was not listed since the last entry that waits to take the granule whole. Hence for each mark of
-- a row and each such entry before it a listing lies between the two whose `before` is not after that entry; and likewise for the
-- number 0. This stays so when an entry is taken out. When the log is tidied, a listing goes if nothing waits in its row; or if it
-- is not the oldest of its row and came before all entries that wait to take the granule whole, since then only 0 lies before it.
--
-- When no number is left and all entries are numbered anew, listings keep theirs. From then on these tell nothing (`exact`), and all
-- rows are given whose oldest listing is there. Read next: `KeptInner`, for the entries.
use Rattle.std.specs.Prelude.{◌≡◌, ◌≢◌, ◌≤◌, ◌<◌, ◌⊎◌, ℕ, Bool, true, false, not, ◌==◌, ◌&&◌, ◌||◌, nat_lt, if◌then◌else◌, List, [], ◌∷◌, ◌++◌, get_or, length, map}
use Rattle.std.specs.List.{filter}
use Rattle.dt_lists.specs.Lists.{AllIn, AnyIn, EachThen}
use Rattle.dt_queue.specs.declared.mark.Mark.{Mark}
use Rattle.dt_queue.specs.declared.listing.Listing.{Listing}
use Rattle.dt_queue.specs.declared.listing.ListedBetween.{ListedBetween}
use Rattle.dt_queue.specs.declared.listed.ListedRows.{ListedRows}

-- the log of a granule
abbrev pub listings_at : ListedRows → ℕ → List Listing
listings_at l g = get_or (map (λ x. x.listings.items) l.logs.items) g []

-- the number of the last listing of a row, or 0
abbrev pub last_listing : ListedRows → ℕ → ℕ
last_listing l row = get_or l.last.items row 0

-- the row has one of these listings
abbrev pub IsListedRow : List Listing → ℕ → Type 0
IsListedRow log row = AnyIn (λ a. a.row ≡ row) log

-- the number, where numbers tell something, and else 0
abbrev pub since : ListedRows → ℕ → ℕ
since l number = if l.exact then number else 0

-- what is true of all logs: numbers do not fall, where they tell something; a listing knows the older ones of its row, and none has a
-- greater number than the last that is kept of its row
pub record AreLogged (l : ListedRows) : Type 0 where
  pub rising : l.exact ≡ true → (g : ℕ) → EachThen (λ a b. a.number ≤ b.number) (listings_at l g)
  pub chained : (g : ℕ) → EachThen (λ a b. a.row ≡ b.row → a.number ≤ b.before) (listings_at l g)
  pub each : (g : ℕ) → AllIn (λ a. (a.before < a.number) × (a.number ≤ last_listing l a.row)) (listings_at l g)

-- ---- what is found

-- whether the number of a listing is greater than a number
abbrev pub is_later : ℕ → Listing → Bool
is_later low a = nat_lt low a.number

-- whether it lies between two numbers
abbrev pub is_numbered : ℕ → ℕ → Listing → Bool
is_numbered low high a = nat_lt low a.number && nat_lt a.number high

-- whether the older listings of the row have no greater numbers than a number
abbrev pub is_oldest : ℕ → Listing → Bool
is_oldest low a = not (nat_lt low a.before)

-- the rows of those listings for which this holds
abbrev pub rows_of_oldest : ℕ → List Listing → List ℕ
rows_of_oldest low log = map (λ a. a.row) (filter (is_oldest low) log)

-- the rows that are listed between two pushes, or, where numbers tell nothing, all that are listed
abbrev pub rows_between : ListedRows → ℕ → ℕ → ℕ → List ℕ
rows_between l g low high = rows_of_oldest (since l low) (if l.exact then filter (is_numbered low high) (listings_at l g) else listings_at l g)

-- the rows that are still to be given
abbrev pub listed_left : ListedBetween → List ℕ
listed_left b = rows_of_oldest b.low b.listings.now

-- a listing of a row lies after a number up to which the older ones of the row go, and, where numbers tell something, not after another
abbrev pub IsListedBy : ListedRows → ℕ → ℕ → ℕ → ℕ → Type 0
IsListedBy l g row low top = AnyIn (λ a. (a.row ≡ row) × (a.before ≤ low) × (low < a.number) × (l.exact ≡ true → a.number ≤ top)) (listings_at l g)

-- ---- what changes

-- all is listed as before
pub record SameListings (old new : ListedRows) : Type 0 where
  pub logs : (g : ℕ) → listings_at new g ≡ listings_at old g
  pub last : (row : ℕ) → last_listing new row ≡ last_listing old row
  pub exact : new.exact ≡ old.exact

-- a listing was put behind the log of a granule
pub record AppendsListing (granule : ℕ) (a : Listing) (old new : ListedRows) : Type 0 where
  pub log : listings_at new granule ≡ listings_at old granule ++ a ∷ []
  pub others : (g : ℕ) → g ≢ granule → listings_at new g ≡ listings_at old g
  pub last : last_listing new a.row ≡ a.number
  pub rest : (row : ℕ) → row ≢ a.row → last_listing new row ≡ last_listing old row
  pub exact : new.exact ≡ old.exact

-- a row was listed at the push of a number, if it was not listed since another
abbrev pub ListsRow : ℕ → ℕ → ℕ → ℕ → ListedRows → ListedRows → Type 0
ListsRow granule row number whole old new = (since old whole < last_listing old row) × SameListings old new
    ⊎ (last_listing old row ≤ since old whole) × AppendsListing granule (record { row = row; number = number; before = last_listing old row }) old new

-- whether something waits to read or write a row
abbrev pub is_used : List (List Mark) → List (List Mark) → ℕ → Bool
is_used reads writes row = not (length (get_or reads row []) == 0) || not (length (get_or writes row []) == 0)

-- whether a listing stays in a log that is tidied, where a number is that of the first entry that waits to take the granule whole
abbrev pub stays : ℕ → List (List Mark) → List (List Mark) → Listing → Bool
stays first reads writes a = is_used reads writes a.row && (a.before == 0 || nat_lt first a.number)

-- of the rows that have P those in which nothing waits have no last listing any more; all others have theirs
pub record Forgets (reads writes : List (List Mark)) (P : ℕ → Type 0) (old new : List ℕ) : Type 0 where
  pub used : (row : ℕ) → is_used reads writes row ≡ true → get_or new row 0 ≡ get_or old row 0
  pub gone : (row : ℕ) → is_used reads writes row ≡ false → P row → get_or new row 0 ≡ 0
  pub others : (row : ℕ) → ¬ (P row) → get_or new row 0 ≡ get_or old row 0

-- the log of a granule was tidied
pub record Tidies (granule first : ℕ) (reads writes : List (List Mark)) (old new : ListedRows) : Type 0 where
  pub log : listings_at new granule ≡ filter (stays first reads writes) (listings_at old granule)
  pub others : (g : ℕ) → g ≢ granule → listings_at new g ≡ listings_at old g
  pub last : Forgets reads writes (IsListedRow (listings_at old granule)) old.last.items new.last.items
  pub exact : new.exact ≡ old.exact
