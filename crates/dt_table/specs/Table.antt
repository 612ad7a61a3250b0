-- The table of a region: two maps. One gives each key a value or none; the other gives each unit of keys its moves, each
-- with its target and its mover. In version 1 of a cluster each key is a unit of its own; in version 2 all keys of one
-- granule are one unit, so that one move takes them along. One learns here what a transaction reads of a key (`value_of`,
-- `home_of`, `counter_of`, `next_mover`), what an effect changes (`apply`), and what a report shows (`shown`). A key that
-- was cleared stays in its map, and a unit keeps its moves, since they say where it is mastered. Read next `Execution` of
-- dt_txn, which runs a transaction on a table.
use Rattle.std.specs.Prelude.{◌+◌, ◌<◌, ◌^◌, ◌%◌, ℕ, Bool, List, [], ◌∷◌, ◌++◌, length, map, slice_index, slice_get}
use Rattle.std.specs.Prelude.{Option, Some, None, unwrap_or, option_map, option_to_list, is_some, ◌&&◌, ◌||◌, nat_lt}
use Rattle.std.specs.Ordering.{nat_cmp}
use Rattle.std.specs.Cmp.Lexicographic.{slice_cmp}
use Rattle.std.specs.Map.{lookup}
use Rattle.std.specs.FinMap.{FinMap, get, insert, from_entries, empty, keys, retain_keys}
use Rattle.dt_access.specs.Clash.{Bytes, same_key}
use Rattle.dt_access.specs.Granules.{IsUnit, unit_of}
use Rattle.dt_access.specs.declared.TxnId.{TxnId}
use Rattle.dt_text.specs.declared.Value.{Value}
use Rattle.dt_table.specs.declared.effect.Effect.{Effect}
use Rattle.dt_table.specs.declared.shown.Shown.{Shown}

-- one move of a unit: its new home, and the transaction that moved it
pub record Moved : Type 0 where
  pub target : ℕ
  pub by : TxnId

-- a table: the version and the number of regions of its cluster, the homes that are listed for units, the values of the
-- keys that were ever given or cleared, and the moves of the units that were ever moved, oldest first
pub record Table : Type 0 where
  pub version : ℕ
  pub regions : ℕ
  pub homes : List (Bytes × ℕ)
  pub values : FinMap (slice_cmp nat_cmp) (Option Value)
  pub moves : FinMap (slice_cmp nat_cmp) (List Moved)

-- what contracts see of a `Table`: the table, and how many writes and moves it has room for
pub record TableView : Type 0 where
  pub state : Table
  pub spare : ℕ

-- the value of a key, or none
abbrev pub value_of : Table → Bytes → Option Value
value_of t key = unwrap_or (get t.values key) None

-- the moves of a key are those of its unit, oldest first
abbrev pub moves_of : Table → Bytes → List Moved
moves_of t key = unwrap_or (get t.moves (unit_of t.version key)) []

-- how often the unit of a key was moved
abbrev pub counter_of : Table → Bytes → ℕ
counter_of t key = length (moves_of t key)

-- the home of a unit that was never moved: the one that is listed for it, else its first byte modulo the number of regions
abbrev pub opening_home : ℕ → List (Bytes × ℕ) → Bytes → ℕ
opening_home regions homes unit = unwrap_or (lookup (same_key unit) homes) (slice_index unit 0 % regions)

-- where a list of moves leads from a home: the target of the last one
abbrev pub home_after : ℕ → List Moved → ℕ
home_after home [] = home
home_after home (m ∷ moves) = home_after m.target moves

-- the home of a key: the target of the last move of its unit, else the opening home of its unit
abbrev pub home_of : Table → Bytes → ℕ
home_of t key = home_after (opening_home t.regions t.homes (unit_of t.version key)) (moves_of t key)

-- who made the move of a key's unit that follows its first `counter` moves, if there is one
abbrev pub next_mover : Table → Bytes → ℕ → Option TxnId
next_mover t key counter = option_map (λ m. m.by) (slice_get (moves_of t key) counter)

-- the table after a key got a value or none
abbrev pub written : Table → Bytes → Option Value → Table
written t key value = record t { values = insert t.values key value }

-- the table after these keys got their values or none
abbrev pub all_written : List (Bytes × Option Value) → Table → Table
all_written [] t = t
all_written (w ∷ writes) t = all_written writes (written t w.0 w.1)

-- the table after the unit of a key was moved
abbrev pub moved : Table → Bytes → ℕ → TxnId → Table
moved t key target by = record t { moves = insert t.moves (unit_of t.version key) (moves_of t key ++ record { target = target; by = by } ∷ []) }

-- the table after a move, if there is one
abbrev pub maybe_moved : Option (Bytes × ℕ × TxnId) → Table → Table
maybe_moved None t = t
maybe_moved (Some m) t = moved t m.0 m.1 m.2

-- the table after an effect
abbrev pub apply : Effect → Table → Table
apply effect t = maybe_moved effect.moved (all_written effect.writes t)

-- a table before any transaction: the rows that are listed have their values, and no unit was moved
abbrev pub opening : ℕ → ℕ → List (Bytes × ℕ) → List (Bytes × Value) → Table
opening version regions homes rows = record {
  version = version;
  regions = regions;
  homes = homes;
  values = from_entries (map (λ r. (r.0, Some r.1)) rows);
  moves = empty;
}

-- what contracts see of an `Opening`: the homes that are listed for units, and the rows that have a value
pub record OpeningView : Type 0 where
  pub homes : List (Bytes × ℕ)
  pub rows : List (Bytes × Value)

-- whether a report shows a key: it has a value, or it is a unit that was moved
abbrev pub is_shown : Table → Bytes → Bool
is_shown t key = is_some (value_of t key) || (same_key (unit_of t.version key) key && nat_lt 0 (counter_of t key))

-- a key, as a report shows it
abbrev pub shown_at : Table → Bytes → Shown
shown_at t key = record { key = key; value = value_of t key; home = home_of t key; moves = counter_of t key }

-- the set of these keys, as a map that gives each of them nothing
abbrev pub set_of_keys : List Bytes → FinMap (slice_cmp nat_cmp) (Unit {0})
set_of_keys names = from_entries (map (λ key. (key, tt)) names)

-- what a report shows of a table: of all that stands in one of its maps the keys that are shown, in ascending order
abbrev pub shown : Table → List Shown
shown t = map (shown_at t) (keys (retain_keys (set_of_keys (keys t.values ++ keys t.moves)) (is_shown t)))

-- how many places of room an effect takes at most: one for each write, and one for a move
abbrev pub places_for : Effect → ℕ
places_for effect = length effect.writes + length (option_to_list effect.moved)

-- what an effect moves, if it moves something, is a unit of this version
abbrev pub MovesUnit : ℕ → Option (Bytes × ℕ × TxnId) → Type 0
MovesUnit version None = Unit {0}
MovesUnit version (Some m) = IsUnit version m.0

-- a place is left for the move of an effect, if it has one: the moves of a unit are counted in 32 bits
abbrev pub HasPlaceFor : Option (Bytes × ℕ × TxnId) → Table → Type 0
HasPlaceFor None t = Unit {0}
HasPlaceFor (Some m) t = counter_of t m.0 + 1 < 2 ^ 32
