-- What a table shows of each key, by the values and the units that it keeps.
use Rattle.std.proofs.Common.{◌^◌, ◌≡◌, ℕ, zero, suc, ◌+◌, ◌<◌, ◌≤◌, ◌↔◌, slice_get, is_some, IsSome, List, [], ◌∷◌, ◌++◌, map, length}
use Rattle.std.proofs.Common.{refl, sym, ap, ◌∙◌, subst, arith, Option, Some, None, unwrap_or}
use Rattle.std.specs.Option.{option_map}
use Rattle.std.specs.Cmp.Lexicographic.{bytes_decides}
use Rattle.std.specs.Map.{lookup}
use Rattle.std.specs.FinMap.{from_entries, insert}
use Rattle.std.proofs.lemmas.List.{length_push}
use Rattle.indexmap.specs.IndexMap.{insert_entry}
use Rattle.dt_lists.specs.Lists.{AllIn}
use Rattle.dt_access.specs.Clash.{Bytes, same_key}
use Rattle.dt_access.specs.Granules.{IsUnit, unit_of}
use Rattle.dt_text.specs.Texts.{IsKey}
use Rattle.dt_access.specs.declared.TxnId.{TxnId}
use Rattle.dt_table.specs.Table.{Moved, Table, value_of, moves_of, home_of, counter_of, opening_home, home_after, next_mover, moved}
use Rattle.dt_table.specs.StoredUnitInner.{by_bytes, fresh_unit, stored_of}
use Rattle.dt_table.specs.StoredMovesInner.{mover_in, history, moved_of, histories_of, IsBelow, AreLinked, FitsMoves, IsSoundTable, table_view}
use Rattle.dt_table.specs.declared.stored.StoredMove.{StoredMove}
use Rattle.dt_table.specs.declared.stored.StoredUnit.{StoredUnit}
use Rattle.dt_table.specs.declared.table.Table.TheInside.{Inside}
use Rattle.dt_table.proofs.Entries.{get-from_map, insert-from_map, AllIn-insert_entry, AllIn-lookup}
use Rattle.dt_table.proofs.SortedEntries.{get-lookup}
use Rattle.dt_table.proofs.TableLaws.{home_after-append}
use Rattle.dt_table.proofs.MoveHistories.{history-push_other, history-push_new, AreLinked-push, IsBelow-more, mover_in-next, IsSome-mover_in}

-- ---- values

-- the value of a key is the one that stands in the map
pub value_of-view : (a : Inside) (key : Bytes) → value_of (table_view a).state key ≡ unwrap_or (lookup (same_key key) a.values.entries) None
value_of-view a key = ap (λ o. unwrap_or o None) (get-lookup a.values.entries key)

-- ---- units

module _ (a : Inside) where
  abbrev pub units : List (Bytes × StoredUnit)
  units = by_bytes a.units.entries

  abbrev pub moves : List StoredMove
  moves = a.moves.items

  abbrev pub state : Table
  state = (table_view a).state

  -- the stored unit of a key
  abbrev pub unit_in : Bytes → Option StoredUnit
  unit_in key = lookup (same_key (unit_of a.version key)) units

  -- a look-up by the bytes of the key's unit finds it
  pub unit_found : (key unit : Bytes) (found : Option StoredUnit) → unit ≡ unit_of a.version key → found ≡ lookup (same_key unit) units → unit_in key ≡ found
  unit_found key unit found same is = ap (λ u. lookup (same_key u) units) (sym same) ∙ sym is

  -- it has the moves of the key
  moves_of-view : (key : Bytes) (found : Option StoredUnit) → unit_in key ≡ found → moves_of state key ≡ unwrap_or (option_map (λ s. history moves s.last) found) []
  moves_of-view key found is =
      ap (λ o. unwrap_or o []) (get-from_map (λ (s : StoredUnit). history moves s.last) units (unit_of a.version key)
      ∙ ap (option_map (λ (s : StoredUnit). history moves s.last)) is)

  pub moves_of-found : (key : Bytes) (stored : StoredUnit) → unit_in key ≡ Some stored → moves_of state key ≡ history moves stored.last
  moves_of-found key stored found = moves_of-view key (Some stored) found

  -- a key whose unit is not stored was never moved
  pub moves_of-absent : (key : Bytes) → unit_in key ≡ None → moves_of state key ≡ []
  moves_of-absent key absent = moves_of-view key None absent

  -- a unit that is not stored has the moves of a fresh one
  pub moves_of-stored : (key : Bytes) (home : ℕ) → moves_of state key ≡ history moves (stored_of units (unit_of a.version key) home).last
  moves_of-stored key home = moves_of-view key (unit_in key) refl ∙ by (unit_in key)
    where
      by : (o : Option StoredUnit) → unwrap_or (option_map (λ s. history moves s.last) o) [] ≡ history moves (unwrap_or o (fresh_unit home)).last
      by None = refl
      by (Some stored) = refl

  module _ (sound : IsSoundTable a) where
    -- a unit that a look-up finds fits its moves
    pub FitsMoves-found : (unit : Bytes) (stored : StoredUnit) → lookup (same_key unit) units ≡ Some stored → FitsMoves a.version a.regions a.homes moves (unit, stored)
    FitsMoves-found unit stored found =
        AllIn-lookup same_key (FitsMoves a.version a.regions a.homes moves) (λ x y. (bytes_decides x y).0) units unit stored sound.units found

    -- so it has the home and the counter of its keys
    pub home_of-found : (key : Bytes) (stored : StoredUnit) → unit_in key ≡ Some stored → stored.home ≡ home_of state key
    home_of-found key stored found =
        let unit = unit_of a.version key in
        (FitsMoves-found unit stored found).home ∙ ap (home_after (opening_home a.regions a.homes unit)) (sym (moves_of-found key stored found))

    pub counter_of-found : (key : Bytes) (stored : StoredUnit) → unit_in key ≡ Some stored → stored.counter ≡ counter_of state key
    counter_of-found key stored found = (FitsMoves-found (unit_of a.version key) stored found).counter ∙ ap length (sym (moves_of-found key stored found))

    -- a key has fewer moves than there are numbers for them
    pub counter_of-few : (key : Bytes) → counter_of state key < 2 ^ 32
    counter_of-few key = by (unit_in key) refl
      where
        by : (o : Option StoredUnit) → unit_in key ≡ o → counter_of state key < 2 ^ 32
        by None absent = omega (arith, ap length (moves_of-absent key absent))
        by (Some stored) found = omega (arith, counter_of-found key stored found, (FitsMoves-found (unit_of a.version key) stored found).few)

    -- a stored unit, or a fresh one, has a place and a counter that fit its moves
    pub stored_of-fits : (unit : Bytes) (home : ℕ) → let stored = stored_of units unit home in IsBelow (length moves) stored.last × (stored.counter ≡ length (history moves stored.last))
    stored_of-fits unit home = by (lookup (same_key unit) units) refl
      where
        by : (o : Option StoredUnit) → lookup (same_key unit) units ≡ o
            → let stored = unwrap_or o (fresh_unit home) in IsBelow (length moves) stored.last × (stored.counter ≡ length (history moves stored.last))
        by None absent = (tt, refl)
        by (Some stored) found = let fits = FitsMoves-found unit stored found in (fits.last, fits.counter)

-- ---- a move

module _ (version regions : ℕ) (homes : List (Bytes × ℕ)) (moves : List StoredMove) (m : StoredMove) where
  -- a pushed move leaves the histories of the units
  histories-pushed : (units : List (Bytes × StoredUnit)) → AllIn (FitsMoves version regions homes moves) units
      → map {B = Bytes × List Moved} (λ e. (e.0, history (moves ++ m ∷ []) e.1.last)) units ≡ map (λ e. (e.0, history moves e.1.last)) units
  histories-pushed [] all = refl
  histories-pushed (e ∷ units) all =
      let same = history-push_other moves m e.1.last (all.0).last in
      let rest = histories-pushed units all.1 in
      λ i. (e.0, same i) ∷ rest i

  -- and each unit fits its moves as before
  units-pushed : (units : List (Bytes × StoredUnit)) → AllIn (FitsMoves version regions homes moves) units → AllIn (FitsMoves version regions homes (moves ++ m ∷ [])) units
  units-pushed [] all = tt
  units-pushed (e ∷ units) all =
      let fits = all.0 in
      let same = sym (history-push_other moves m e.1.last fits.last) in (
        record {
          key = fits.key;
          unit = fits.unit;
          few = fits.few;
          last = IsBelow-more moves m e.1.last fits.last;
          counter = fits.counter ∙ ap length same;
          home = fits.home ∙ ap (home_after (opening_home regions homes e.0)) same;
        },
        units-pushed units all.1,
      )

-- the move of a unit, as it is pushed to the list of all moves
abbrev pub pushed_move : Inside → Bytes → ℕ → TxnId → StoredMove
pushed_move a unit target by = record { target = target; by = by; before = (stored_of (by_bytes a.units.entries) unit target).last }

-- the stored unit after it, where that move stands at this place
abbrev pub moved_unit : Inside → Bytes → ℕ → ℕ → StoredUnit
moved_unit a unit target place = record { home = target; counter = (stored_of (by_bytes a.units.entries) unit target).counter + 1; last = Some place }

module _ (a : Inside) (unit : Bytes) (target : ℕ) (by : TxnId) (sound : IsSoundTable a) (is_unit : IsUnit a.version unit) where
  abbrev before : StoredUnit
  before = stored_of (by_bytes a.units.entries) unit target

  abbrev longer : List StoredMove
  longer = a.moves.items ++ pushed_move a unit target by ∷ []

  fits : IsBelow (length a.moves.items) before.last × (before.counter ≡ length (history a.moves.items before.last))
  fits = stored_of-fits a sound unit target

  -- the moves of the unit are those of the stored one
  moves_of-unit : moves_of (table_view a).state unit ≡ history a.moves.items before.last
  moves_of-unit = moves_of-stored a unit target ∙ ap (λ u. history a.moves.items (stored_of (by_bytes a.units.entries) u target).last) is_unit

  -- which counts them
  pub counter-stored : before.counter ≡ counter_of (table_view a).state unit
  counter-stored = fits.1 ∙ ap length (sym moves_of-unit)

  -- each move still follows an earlier one, or none
  pub linked-moved : AreLinked 0 longer
  linked-moved =
      let all : 0 + length a.moves.items ≡ length a.moves.items = omega arith in
      AreLinked-push 0 a.moves.items (pushed_move a unit target by) sound.linked (subst (λ n. IsBelow n before.last) (sym all) fits.0)

  module _ (place : ℕ) (at : place ≡ length a.moves.items) where
    grown : history longer (Some place) ≡ history a.moves.items before.last ++ record { target = target; by = by } ∷ []
    grown = ap (λ (n : ℕ). history longer (Some n)) at ∙ history-push_new a.moves.items (pushed_move a unit target by)

    -- the unit has one move more
    pub histories-moved : histories_of longer (insert_entry same_key (by_bytes a.units.entries) unit (moved_unit a unit target place)) ≡ (moved (table_view a).state unit target by).moves
    histories-moved =
        insert-from_map (λ (s : StoredUnit). history longer s.last) (by_bytes a.units.entries) unit (moved_unit a unit target place)
        ∙ (λ i. insert (from_entries (histories-pushed a.version a.regions a.homes a.moves.items (pushed_move a unit target by) (by_bytes a.units.entries) sound.units i)) (sym is_unit i)
        ((grown ∙ ap (λ l. l ++ record { target = target; by = by } ∷ []) (sym moves_of-unit)) i))

    -- each unit fits its moves
    pub units-moved : IsKey unit → counter_of (table_view a).state unit + 1 < 2 ^ 32
        → AllIn (FitsMoves a.version a.regions a.homes longer) (insert_entry same_key (by_bytes a.units.entries) unit (moved_unit a unit target place))
    units-moved key few =
        let homes = a.homes in
        let m = pushed_move a unit target by in
        let earlier = history a.moves.items before.last in
        AllIn-insert_entry same_key (FitsMoves a.version a.regions homes longer) (λ x y. (bytes_decides x y).0) (by_bytes a.units.entries) unit (moved_unit a unit target place)
        (units-pushed a.version a.regions homes a.moves.items m (by_bytes a.units.entries) sound.units)
        (record {
          key = key;
          unit = is_unit;
          few = omega (arith, counter-stored);
          last = omega (arith, at, length_push a.moves.items m);
          counter = omega (arith, fits.1, ap length grown, length_push earlier (moved_of m));
          home = sym (ap (home_after (opening_home a.regions homes unit)) grown ∙ home_after-append (opening_home a.regions homes unit) earlier (moved_of m));
        })

-- ---- who made a move

pub mover_in-none : (number : ℕ) → mover_in [] number ≡ None
mover_in-none zero = refl
mover_in-none (suc earlier) = refl

-- the mover that the moves of the key give is the one that the table gives
pub next_mover-mover_in : (t : Table) (key : Bytes) (moves : List Moved) (number : ℕ) (mover : Option TxnId) → moves_of t key ≡ moves → mover ≡ mover_in moves number
    → (before : ℕ) → number ≡ before + 1 → mover ≡ next_mover t key before
next_mover-mover_in t key moves number mover is answer before e =
    answer ∙ mover_in-next moves number before e ∙ ap (λ (l : List Moved). option_map (λ (m : Moved). m.by) (slice_get l before)) (sym is)

pub IsSome-mover : (t : Table) (key : Bytes) (moves : List Moved) (number : ℕ) (mover : Option TxnId) → moves_of t key ≡ moves → mover ≡ mover_in moves number
    → IsSome mover ↔ ((0 < number) × (number ≤ counter_of t key))
IsSome-mover t key moves number mover is answer =
    let known = IsSome-mover_in moves number in
    let counter = ap length is in (
      λ some. let h = known.0 (ap is_some (sym answer) ∙ some) in (h.0, omega (arith, h.1, counter)),
      λ h. ap is_some answer ∙ known.1 (h.0, omega (arith, h.1, counter)),
    )
