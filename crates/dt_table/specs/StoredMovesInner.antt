-- Scaffolding: how the code keeps moves. Those of all units stand in one list, each with the place of the move of the
-- same unit that it follows; so a unit's moves are read backwards from its last one. `table_view` is the table that is
-- kept so, and `IsSoundTable` what every table keeps. Only the private functions of a table cite this; read Table.antt
-- for what callers see.
use Rattle.std.specs.Prelude.{◌≡◌, ◌+◌, ◌-◌, ◌<◌, ◌^◌, ℕ, zero, suc, slice_get, option_map, List, [], ◌∷◌, ◌++◌, map, length, get_or, min, Option, Some, None, vec_len, vec_capacity}
use Rattle.std.specs.Ordering.{nat_cmp}
use Rattle.std.specs.Cmp.Lexicographic.{slice_cmp}
use Rattle.std.specs.FinMap.{FinMap, from_entries}
use Rattle.indexmap.specs.IndexMap.{spare}
use Rattle.dt_lists.specs.Lists.{AllIn}
use Rattle.dt_access.specs.Granules.{IsUnit}
use Rattle.dt_access.specs.Clash.{Bytes}
use Rattle.dt_access.specs.declared.TxnId.{TxnId}
use Rattle.dt_text.specs.Texts.{IsKey}
use Rattle.dt_table.specs.Table.{Moved, TableView, opening_home, home_after}
use Rattle.dt_table.specs.MovedPlacesInner.{AreNoted}
use Rattle.dt_table.specs.StoredUnitInner.{by_bytes}
use Rattle.dt_table.specs.declared.stored.StoredMove.{StoredMove}
use Rattle.dt_table.specs.declared.stored.StoredUnit.{StoredUnit}
use Rattle.dt_table.specs.declared.table.Table.TheInside.{Inside}

-- the move that is kept so
abbrev pub moved_of : StoredMove → Moved
moved_of m = record { target = m.target; by = m.by }

-- the history that ends at a place, where these are the histories that end at each place: none where no place is named
abbrev pub history_at : List (List Moved) → Option ℕ → List Moved
history_at known None = []
history_at known (Some place) = get_or known place []

-- the histories that end at each place: that of the move which it follows, and then the move itself
abbrev pub histories_after : List (List Moved) → List StoredMove → List (List Moved)
histories_after known [] = known
histories_after known (m ∷ moves) = histories_after (known ++ (history_at known m.before ++ moved_of m ∷ []) ∷ []) moves

-- the moves of the unit whose last move stands at this place, oldest first
abbrev pub history : List StoredMove → Option ℕ → List Moved
history moves last = history_at (histories_after [] moves) last

-- who made the move `number` of these, counted from 1, if there is one
abbrev pub mover_in : List Moved → ℕ → Option TxnId
mover_in moves zero = None
mover_in moves (suc earlier) = option_map (λ m. m.by) (slice_get moves earlier)

-- no place, or one below the bound
abbrev pub IsBelow : ℕ → Option ℕ → Type 0
IsBelow bound None = Unit {0}
IsBelow bound (Some place) = place < bound

-- each move follows an earlier one, or none; the first of them stands at this place
abbrev pub AreLinked : ℕ → List StoredMove → Type 0
AreLinked place [] = Unit {0}
AreLinked place (m ∷ moves) = IsBelow place m.before × AreLinked (place + 1) moves

-- a stored unit is a key and a unit of this version, has the home and the counter that its moves give it, and its counter
-- has 32 bits
pub record FitsMoves (version : ℕ) (regions : ℕ) (homes : List (Bytes × ℕ)) (moves : List StoredMove) (e : Bytes × StoredUnit) : Type 0 where
  pub key : IsKey e.0
  pub unit : IsUnit version e.0
  pub few : e.1.counter < 2 ^ 32
  pub last : IsBelow (length moves) e.1.last
  pub counter : e.1.counter ≡ length (history moves e.1.last)
  pub home : e.1.home ≡ home_after (opening_home regions homes e.0) (history moves e.1.last)

-- the moves of each unit, by the places of their last moves
abbrev pub histories_of : List StoredMove → List (Bytes × StoredUnit) → FinMap (slice_cmp nat_cmp) (List Moved)
histories_of moves units = from_entries (map (λ e. (e.0, history moves e.1.last)) units)

-- the table that is kept so, and how many writes and moves fit before memory is needed
abbrev pub table_view : Inside → TableView
table_view a = record {
  state = record {
    version = a.version;
    regions = a.regions;
    homes = a.homes;
    values = from_entries a.values.entries;
    moves = histories_of a.moves.items (by_bytes a.units.entries);
  };
  spare = min a.values.spare (min (spare a.units) (vec_capacity a.moves - vec_len a.moves));
}

-- what every table keeps: there is a region, the moves are linked, and each unit fits them and is noted
pub record IsSoundTable (a : Inside) : Type 0 where
  pub regions : 0 < a.regions
  pub linked : AreLinked 0 a.moves.items
  pub units : AllIn (FitsMoves a.version a.regions a.homes a.moves.items) (by_bytes a.units.entries)
  pub noted : AreNoted a.noted (by_bytes a.units.entries)
