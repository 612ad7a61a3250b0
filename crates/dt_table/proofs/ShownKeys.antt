-- The keys that a report shows, in the order of the report, by what a table keeps.
use Rattle.std.proofs.Common.{◌≡◌, Bool, true, false, not, cond, ◌&&◌, ◌||◌, nat_lt, if◌then◌else◌, is_some, List, [], ◌∷◌, ◌++◌, map, flat_map, length, IsPermutation}
use Rattle.std.proofs.Common.{refl, sym, ap, ap₂, ◌∙◌, subst, Option, Some, None, unwrap_or}
use Rattle.std.specs.Ordering.{is_lt, eq_by_cmp}
use Rattle.std.specs.Cmp.Lexicographic.{nat_list_cmp_total, texts_ties, bytes_decides}
use Rattle.std.specs.List.{IsDistinct, AllByRecursion, list_any}
use Rattle.std.specs.List.Sorted.{IsSortedBy}
use Rattle.std.specs.Map.{lookup, keys_of}
use Rattle.std.specs.FinMap.{FinMap, get, keys, retain_keys, contains_key-keys, get-retain_keys, same_map}
use Rattle.std.specs.Option.{option_map}
use Rattle.std.proofs.Math.Bool.{and-false, or-true}
use Rattle.std.proofs.lemmas.List.Folds.{list_any-append}
use Rattle.std.proofs.lemmas.List.Sorted.{IsPermutation-map}
use Rattle.dt_lists.specs.Lists.{AllIn}
use Rattle.dt_lists.proofs.Callers.{all_map}
use Rattle.dt_access.specs.Clash.{Bytes, same_key}
use Rattle.dt_access.specs.Granules.{unit_of}
use Rattle.dt_text.specs.declared.Value.{Value}
use Rattle.dt_table.specs.Table.{Moved, Table, counter_of, is_shown, set_of_keys}
use Rattle.dt_table.specs.StoredUnitInner.{by_bytes, has_value, keys_with_value, moved_without_value}
use Rattle.dt_table.specs.StoredMovesInner.{history, table_view, IsSoundTable}
use Rattle.dt_table.specs.declared.stored.StoredUnit.{StoredUnit}
use Rattle.dt_table.specs.declared.table.Table.TheInside.{Inside}
use Rattle.dt_table.proofs.Entries.{get-from_map}
use Rattle.dt_table.proofs.SortedEntries.{order, exact, get-lookup, in_order-sorted, IsSortedBy-map}
use Rattle.dt_table.proofs.StoredUnits.{value_of-view, unit_in, FitsMoves-found, counter_of-found, moves_of-absent}
use Rattle.dt_access.proofs.Callers.{same_key_self}

-- ---- lists of keys

none_of : (q : Bytes) (ks : List Bytes) → AllIn (λ y. same_key q y ≡ false) ks → list_any (same_key q) ks ≡ false
none_of q [] all = refl
none_of q (k ∷ ks) all = ap (λ b. b || list_any (same_key q) ks) all.0 ∙ none_of q ks all.1

all_differ : (q : Bytes) (ks : List Bytes) → list_any (same_key q) ks ≡ false → AllIn (λ y. same_key q y ≡ false) ks
all_differ q [] e = tt
all_differ q (k ∷ ks) e =
    elim (same_key q k) as (λ b. (b || list_any (same_key q) ks) ≡ false → (b ≡ false) × AllIn (λ y. same_key q y ≡ false) ks) [
      | true ↦ λ no. cc
      | false ↦ λ rest. (refl, all_differ q ks rest)
    ] e

-- each key of a list is one of it
pub each_of_them : (ks : List Bytes) → AllIn (λ k. list_any (same_key k) ks ≡ true) ks
each_of_them [] = tt
each_of_them (k ∷ ks) = (
  ap (λ b. b || list_any (same_key k) ks) (same_key_self k),
  all_map _ _ ks (λ q h. ap (λ b. same_key q k || b) h ∙ or-true (same_key q k)) (each_of_them ks),
)

-- two lists without a common key, each without the same key twice, have none twice together
pub distinct_append : (xs ys : List Bytes) → IsDistinct same_key xs → IsDistinct same_key ys → AllIn (λ x. list_any (same_key x) ys ≡ false) xs → IsDistinct same_key (xs ++ ys)
unfolding IsDistinct
distinct_append [] ys dx dy apart = dy
distinct_append (x ∷ xs) ys dx dy apart = (both xs dx.0, distinct_append xs ys dx.1 dy apart.1)
  where
    both : (zs : List Bytes) → AllByRecursion (λ y. same_key x y ≡ false) zs → AllByRecursion (λ y. same_key x y ≡ false) (zs ++ ys)
    both [] h = all_differ x ys apart.0
    both (z ∷ zs) h = (h.0, both zs h.1)

module _ {V : Type 0} (keep : Bytes → V → Bool) where
  -- the keys of the entries that pass a test
  abbrev pub kept : List (Bytes × V) → List Bytes
  kept es = flat_map (λ e. if keep e.0 e.1 then e.0 ∷ [] else []) es

  kept_all : (P : Bytes → Type 0) (es : List (Bytes × V)) → AllByRecursion P (keys_of es) → AllByRecursion P (kept es)
  kept_all P [] h = tt
  kept_all P (e ∷ es) h = elim (keep e.0 e.1) as (λ b. AllByRecursion P ((if b then e.0 ∷ [] else []) ++ kept es)) [ true ↦ (h.0, kept_all P es h.1) | false ↦ kept_all P es h.1 ]

  pub kept_distinct : (es : List (Bytes × V)) → IsDistinct same_key (keys_of es) → IsDistinct same_key (kept es)
  unfolding IsDistinct
  kept_distinct [] d = tt
  kept_distinct (e ∷ es) d =
      elim (keep e.0 e.1) as (λ b. IsDistinct same_key ((if b then e.0 ∷ [] else []) ++ kept es)) [
        | true ↦ (kept_all (λ y. same_key e.0 y ≡ false) es d.0, kept_distinct es d.1)
        | false ↦ kept_distinct es d.1
      ]

  -- whether the entry that a look-up found passes
  abbrev pub passes_at : Bytes → Option V → Bool
  passes_at q None = false
  passes_at q (Some v) = keep q v

  -- a key is kept where its entry passes
  pub kept_any : (es : List (Bytes × V)) (q : Bytes) → IsDistinct same_key (keys_of es) → list_any (same_key q) (kept es) ≡ passes_at q (lookup (same_key q) es)
  unfolding IsDistinct
  kept_any [] q d = refl
  kept_any (e ∷ es) q d =
      elim (same_key q e.0) as (λ b. same_key q e.0 ≡ b → list_any (same_key q) ((if keep e.0 e.1 then e.0 ∷ [] else []) ++ kept es) ≡ passes_at q (cond b (Some e.1) (lookup (same_key q) es))) [
        | true ↦ λ tied.
            let is : q ≡ e.0 = (bytes_decides q e.0).0 tied in
            let others : list_any (same_key q) (kept es) ≡ false = none_of q (kept es) (kept_all (λ y. same_key q y ≡ false) es (subst (λ k. AllByRecursion (λ y. same_key k y ≡ false) (keys_of es)) (sym is) d.0)) in
            elim (keep e.0 e.1) as (λ k. keep e.0 e.1 ≡ k → list_any (same_key q) ((if k then e.0 ∷ [] else []) ++ kept es) ≡ keep q e.1) [
              | true ↦ λ yes. ap (λ b. b || list_any (same_key q) (kept es)) tied ∙ sym (ap (λ k. keep k e.1) is ∙ yes)
              | false ↦ λ no. others ∙ sym (ap (λ k. keep k e.1) is ∙ no)
            ] refl
        | false ↦ λ apart.
            elim (keep e.0 e.1) as (λ k. list_any (same_key q) ((if k then e.0 ∷ [] else []) ++ kept es) ≡ passes_at q (lookup (same_key q) es)) [
              | true ↦ ap (λ b. b || list_any (same_key q) (kept es)) apart ∙ kept_any es q d.1
              | false ↦ kept_any es q d.1
            ]
      ] refl

-- ---- sets of keys

-- a key in a set, which gives it nothing
abbrev pub in_set : Bytes → Bytes × Unit {0}
in_set k = (k, tt)

abbrev there : Option (Unit {0})
there = Some tt

pub keys_of-set : (ks : List Bytes) → keys_of (map in_set ks) ≡ ks
keys_of-set [] = refl
keys_of-set (k ∷ ks) = ap (λ l. k ∷ l) (keys_of-set ks)

-- a set has a key where the list has it
get-set : (ks : List Bytes) (q : Bytes) → get (set_of_keys ks) q ≡ cond (list_any (same_key q) ks) there None
get-set ks q = get-lookup (map in_set ks) q ∙ at ks
  where
    at : (ks : List Bytes) → lookup (same_key q) (map in_set ks) ≡ cond (list_any (same_key q) ks) there None
    at [] = refl
    at (k ∷ ks) =
        elim (same_key q k) as (λ b. cond b there (lookup (same_key q) (map in_set ks)) ≡ cond (b || list_any (same_key q) ks) there None) [ true ↦ refl | false ↦ at ks ]

-- keys of a map
any-keys : {X : Type 0} (m : FinMap order X) (q : Bytes) → list_any (same_key q) (keys m) ≡ is_some (get m q)
any-keys m q = by (keys m) ∙ sym (contains_key-keys m q)
  where
    by : (ks : List Bytes) → list_any (same_key q) ks ≡ list_any (eq_by_cmp order q) ks
    by [] = refl
    by (k ∷ ks) = ap₂ ◌||◌ (texts_ties q k) (by ks)

-- ---- what the table keeps

module _ (a : Inside) (sound : IsSoundTable a) (vd : IsDistinct same_key (keys_of a.values.entries)) (ud : IsDistinct same_key (keys_of (by_bytes a.units.entries))) where
  abbrev vals : List (Bytes × Option Value)
  vals = a.values.entries

  abbrev units : List (Bytes × StoredUnit)
  units = by_bytes a.units.entries

  abbrev t : Table
  t = (table_view a).state

  -- the keys with a value, and the units that were moved and have none
  abbrev pub collected : List Bytes
  collected = keys_with_value vals ++ moved_without_value vals units

  -- whether a unit was moved and has no value as a key
  abbrev is_bare : Bytes → StoredUnit → Bool
  is_bare key s = nat_lt 0 s.counter && not (has_value vals key)

  any-keys_with_value : (q : Bytes) → list_any (same_key q) (keys_with_value vals) ≡ has_value vals q
  any-keys_with_value q = kept_any (λ k v. is_some v) vals q vd ∙ by (lookup (same_key q) vals)
    where
      by : (o : Option (Option Value)) → passes_at (λ k (v : Option Value). is_some v) q o ≡ is_some (unwrap_or o None)
      by None = refl
      by (Some v) = refl

  any-moved : (q : Bytes) → list_any (same_key q) (moved_without_value vals units) ≡ passes_at is_bare q (lookup (same_key q) units)
  any-moved q = kept_any is_bare units q ud

  -- no key is collected twice
  collected_distinct : IsDistinct same_key collected
  collected_distinct =
      distinct_append (keys_with_value vals) (moved_without_value vals units) (kept_distinct (λ k v. is_some v) vals vd) (kept_distinct is_bare units ud)
      (all_map _ _ (keys_with_value vals) (λ q h. any-moved q ∙ by q (sym (any-keys_with_value q) ∙ h) (lookup (same_key q) units)) (each_of_them (keys_with_value vals)))
    where
      by : (q : Bytes) → has_value vals q ≡ true → (o : Option StoredUnit) → passes_at is_bare q o ≡ false
      by q has None = refl
      by q has (Some s) = ap (λ b. nat_lt 0 s.counter && not b) has ∙ and-false (nat_lt 0 s.counter)

  -- what is known of a key where its unit is looked up: whether it is a unit, and whether it was moved
  abbrev AgreesWith : Option StoredUnit → Bool → Bool → Type 0
  AgreesWith None is_unit was_moved = (is_unit && was_moved) ≡ false
  AgreesWith (Some s) is_unit was_moved = (is_unit ≡ true) × (was_moved ≡ nat_lt 0 s.counter)

  agrees : (q : Bytes) → AgreesWith (lookup (same_key q) units) (same_key (unit_of a.version q) q) (nat_lt 0 (counter_of t q))
  agrees q = by (lookup (same_key q) units) refl
    where
      by : (o : Option StoredUnit) → lookup (same_key q) units ≡ o → AgreesWith o (same_key (unit_of a.version q) q) (nat_lt 0 (counter_of t q))
      by None absent =
          elim (same_key (unit_of a.version q) q) as (λ b. same_key (unit_of a.version q) q ≡ b → (b && nat_lt 0 (counter_of t q)) ≡ false) [
            | true ↦ λ e.
                let same : unit_of a.version q ≡ q = (bytes_decides (unit_of a.version q) q).0 e in
                let none : unit_in a q ≡ None = ap (λ u. lookup (same_key u) units) same ∙ absent in
                ap (λ (ms : List Moved). nat_lt 0 (length ms)) (moves_of-absent a q none)
            | false ↦ λ e. refl
          ] refl
      by (Some s) found =
          let fits = FitsMoves-found a sound q s found in
          let stored : unit_in a q ≡ Some s = ap (λ u. lookup (same_key u) units) fits.unit ∙ found in
          ((bytes_decides (unit_of a.version q) q).1 fits.unit, ap (nat_lt 0) (sym (counter_of-found a sound q s stored)))

  -- a key with a value, or a unit that was moved, is what is shown of what stands in the maps
  cases : (q : Bytes) (value : Option (Option Value)) (unit : Option StoredUnit) (is_unit was_moved : Bool) → AgreesWith unit is_unit was_moved
      → (is_some (unwrap_or value None) || passes_at (λ k (s : StoredUnit). nat_lt 0 s.counter && not (is_some (unwrap_or value None))) q unit)
      ≡ ((is_some (unwrap_or value None) || (is_unit && was_moved)) && (is_some value || is_some unit))
  cases q (Some (Some v)) unit is_unit was_moved f = refl
  cases q (Some None) None is_unit was_moved f = ap (λ b. b && true) (sym f)
  cases q (Some None) (Some s) is_unit was_moved f = ap (λ b. b && true) (sym (ap₂ ◌&&◌ f.0 f.1))
  cases q None None is_unit was_moved f = sym (and-false (is_unit && was_moved))
  cases q None (Some s) is_unit was_moved f = ap (λ b. b && true) (sym (ap₂ ◌&&◌ f.0 f.1))

  -- a key that is collected is shown, and stands in one of the maps; and the other way round
  any-collected : (q : Bytes) → list_any (same_key q) collected ≡ (is_shown t q && list_any (same_key q) (keys t.values ++ keys t.moves))
  any-collected q =
      list_any-append (same_key q) (keys_with_value vals) (moved_without_value vals units)
      ∙ ap₂ ◌||◌ (any-keys_with_value q) (any-moved q)
      ∙ cases q (lookup (same_key q) vals) (lookup (same_key q) units) (same_key (unit_of a.version q) q) (nat_lt 0 (counter_of t q)) (agrees q)
      ∙ sym (ap₂ ◌&&◌ shown (list_any-append (same_key q) (keys t.values) (keys t.moves) ∙ ap₂ ◌||◌ in_values in_moves))
    where
      shown : is_shown t q ≡ (has_value vals q || (same_key (unit_of a.version q) q && nat_lt 0 (counter_of t q)))
      shown = ap (λ v. is_some v || (same_key (unit_of a.version q) q && nat_lt 0 (counter_of t q))) (value_of-view a q)

      in_values : list_any (same_key q) (keys t.values) ≡ is_some (lookup (same_key q) vals)
      in_values = any-keys t.values q ∙ ap is_some (get-lookup vals q)

      is_mapped : (o : Option StoredUnit) → is_some (option_map (λ (s : StoredUnit). history a.moves.items s.last) o) ≡ is_some o
      is_mapped None = refl
      is_mapped (Some s) = refl

      in_moves : list_any (same_key q) (keys t.moves) ≡ is_some (lookup (same_key q) units)
      in_moves = any-keys t.moves q ∙ ap is_some (get-from_map (λ (s : StoredUnit). history a.moves.items s.last) units q) ∙ is_mapped (lookup (same_key q) units)

  -- so the set of what is collected is that of what is shown
  same_sets : set_of_keys collected ≡ retain_keys (set_of_keys (keys t.values ++ keys t.moves)) (is_shown t)
  same_sets = same_map nat_list_cmp_total exact _ _ (λ q.
      get-set collected q
      ∙ ap (λ b. cond b there None) (any-collected q)
      ∙ both (is_shown t q) (list_any (same_key q) (keys t.values ++ keys t.moves))
      ∙ sym (get-retain_keys (set_of_keys (keys t.values ++ keys t.moves)) (is_shown t) q (λ x e. ap (is_shown t) (sym (exact q x e)))
      ∙ ap (λ o. cond (is_shown t q) o None) (get-set (keys t.values ++ keys t.moves) q)))
    where
      both : (b c : Bool) → cond (b && c) there None ≡ cond b (cond c there None) None
      both true c = refl
      both false c = refl

  -- and what is collected, in order, is what is shown, in order
  pub shown_in_order : (ks : List Bytes) → IsPermutation collected ks → IsSortedBy (λ x y. is_lt (order x y)) ks
      → ks ≡ keys (retain_keys (set_of_keys (keys t.values ++ keys t.moves)) (is_shown t))
  shown_in_order ks moves sorted =
      sym (keys_of-set ks)
      ∙ ap keys_of (in_order-sorted (map in_set collected) (map in_set ks) (IsPermutation-map in_set collected ks moves)
      (subst (IsDistinct same_key) (sym (keys_of-set collected)) collected_distinct) (IsSortedBy-map in_set (λ x y. is_lt (order x.0 y.0)) ks sorted))
      ∙ ap keys same_sets
