-- Entries that stand before others: what a look-up finds in both, what an insert does, and which keys there are.
use Rattle.std.proofs.Common.{◌≡◌, ℕ, zero, suc, Bool, true, false, cond, ◌||◌, if◌then◌else◌, is_some, List, [], ◌∷◌, ◌++◌, refl, sym, ap, ◌∙◌, subst, slice_get, Option, Some, None, unwrap_or}
use Rattle.std.specs.Prelude.{position}
use Rattle.std.specs.Option.{option_map, option_or}
use Rattle.std.specs.Cmp.Lexicographic.{nat_list_eq_equiv, bytes_decides}
use Rattle.std.specs.List.{IsDistinct, AllByRecursion, list_any}
use Rattle.std.specs.Map.{lookup, keys_of}
use Rattle.std.specs.FinMap.{insert, from_entries}
use Rattle.std.proofs.lemmas.Grind.{flat_map-append}
use Rattle.std.proofs.lemmas.List.{map-append}
use Rattle.std.proofs.lemmas.Option.{slice_get-map}
use Rattle.indexmap.specs.IndexMap.{insert_entry, set_value_at}
use Rattle.indexmap.proofs.MapLemmas.{Found-position, Missing-position, insert_entry-first}
use Rattle.dt_lists.specs.Lists.{AllIn}
use Rattle.dt_lists.proofs.Callers.{all_map}
use Rattle.dt_access.specs.Clash.{Bytes, same_key}
use Rattle.dt_text.specs.declared.Value.{Value}
use Rattle.dt_table.specs.RowsInner.{AreOthers, KeyValues}
use Rattle.dt_table.specs.StoredUnitInner.{keys_with_value}
use Rattle.dt_table.proofs.Entries.{lookup-insert_entry, insert-lookup}
use Rattle.dt_table.proofs.SortedEntries.{order}
use Rattle.dt_table.proofs.ShownKeys.{distinct_append}

-- ---- look-ups

-- what is found in the first entries, and else in the others
pub lookup-append : {V : Type 0} (xs ys : List (Bytes × V)) (q : Bytes) → lookup (same_key q) (xs ++ ys) ≡ option_or (lookup (same_key q) xs) (lookup (same_key q) ys)
lookup-append [] ys q = refl
lookup-append (x ∷ xs) ys q =
    elim (same_key q x.0) as (λ b. cond b (Some x.1) (lookup (same_key q) (xs ++ ys)) ≡ option_or (cond b (Some x.1) (lookup (same_key q) xs)) (lookup (same_key q) ys)) [
      | true ↦ refl
      | false ↦ lookup-append xs ys q
    ]

-- a key that has a place among the first entries has what stands there
pub found-first : (xs ys : KeyValues) (q : Bytes) (i : ℕ) (e : Bytes × Option Value) → position (same_key q) (keys_of xs) ≡ Some i → slice_get xs i ≡ Some e
    → e.1 ≡ unwrap_or (lookup (same_key q) (xs ++ ys)) None
found-first xs ys q i e at there =
    let found = (Found-position (same_key q) xs i at).value ∙ slice_get-map (λ (x : Bytes × Option Value). x.1) xs i ∙ ap (option_map (λ (x : Bytes × Option Value). x.1)) there in
    sym (ap (λ o. unwrap_or o None) (lookup-append xs ys q ∙ ap (λ o. option_or o (lookup (same_key q) ys)) found))

-- and another one is looked up among the others
pub found-other : {V : Type 0} (xs ys : List (Bytes × V)) (q : Bytes) → position (same_key q) (keys_of xs) ≡ None → lookup (same_key q) (xs ++ ys) ≡ lookup (same_key q) ys
found-other xs ys q absent = lookup-append xs ys q ∙ ap (λ o. option_or o (lookup (same_key q) ys)) (Missing-position (same_key q) xs absent).value

-- ---- changes

module _ {V : Type 0} (xs ys : List (Bytes × V)) (k : Bytes) (w : V) where
  -- a key that has a place among the first entries takes the value there
  pub put-first : (i : ℕ) → position (same_key k) (keys_of xs) ≡ Some i → from_entries {R = order} (set_value_at xs i w ++ ys) ≡ insert (from_entries (xs ++ ys)) k w
  put-first i at =
      ap (λ es. from_entries {R = order} (es ++ ys)) (sym (insert_entry-first same_key k w xs i (Found-position (same_key k) xs i at).first))
      ∙ insert-lookup (xs ++ ys) (insert_entry same_key xs k w ++ ys) k w (λ q.
      lookup-append (insert_entry same_key xs k w) ys q
      ∙ ap (λ o. option_or o (lookup (same_key q) ys)) (lookup-insert_entry same_key nat_list_eq_equiv xs k w q)
      ∙ by (same_key k q) (lookup (same_key q) xs) (lookup (same_key q) ys)
      ∙ ap (cond (same_key k q) (Some w)) (sym (lookup-append xs ys q)))
    where
      by : (b : Bool) (x y : Option V) → option_or (cond b (Some w) x) y ≡ cond b (Some w) (option_or x y)
      by true x y = refl
      by false x y = refl

  -- and another one takes it among the others
  pub put-other : position (same_key k) (keys_of xs) ≡ None → from_entries {R = order} (xs ++ insert_entry same_key ys k w) ≡ insert (from_entries (xs ++ ys)) k w
  put-other absent = insert-lookup (xs ++ ys) (xs ++ insert_entry same_key ys k w) k w (λ q.
      lookup-append xs (insert_entry same_key ys k w) q
      ∙ ap (option_or (lookup (same_key q) xs)) (lookup-insert_entry same_key nat_list_eq_equiv ys k w q)
      ∙ by q (same_key k q) refl
      ∙ ap (cond (same_key k q) (Some w)) (sym (lookup-append xs ys q)))
    where
      by : (q : Bytes) (b : Bool) → same_key k q ≡ b → option_or (lookup (same_key q) xs) (cond b (Some w) (lookup (same_key q) ys)) ≡ cond b (Some w) (option_or (lookup (same_key q) xs) (lookup (same_key q) ys))
      by q true tied =
          let none = ap (λ x. lookup (same_key x) xs) (sym ((bytes_decides k q).0 tied)) ∙ (Missing-position (same_key k) xs absent).value in
          ap (λ o. option_or o (Some w)) none
      by q false _ = refl

-- ---- keys

pub keys_with_value-append : (xs ys : KeyValues) → keys_with_value (xs ++ ys) ≡ keys_with_value xs ++ keys_with_value ys
keys_with_value-append xs ys = flat_map-append (λ (e : Bytes × Option Value). if is_some e.1 then e.0 ∷ [] else []) xs ys

none_in : (q : Bytes) (ys : KeyValues) → AllIn (λ e. same_key e.0 q ≡ false) ys → list_any (same_key q) (keys_of ys) ≡ false
none_in q [] h = refl
none_in q (y ∷ ys) h = ap (λ b. b || list_any (same_key q) (keys_of ys)) (nat_list_eq_equiv.symm q y.0 ∙ h.0) ∙ none_in q ys h.1

apart : (xs ys : KeyValues) → AllIn (λ e. AllByRecursion (λ y. same_key e.0 y ≡ false) (keys_of xs)) ys → AllIn (λ q. list_any (same_key q) (keys_of ys) ≡ false) (keys_of xs)
apart [] ys h = tt
apart (x ∷ xs) ys h = (none_in x.0 ys (all_map _ _ ys (λ e a. a.0) h), apart xs ys (all_map _ _ ys (λ e a. a.1) h))

-- where the others are not among the first entries, no key stands twice in both
pub distinct-others : (xs ys : KeyValues) → AreOthers (keys_of xs) ys → IsDistinct same_key (keys_of xs) → IsDistinct same_key (keys_of ys) → IsDistinct same_key (keys_of (xs ++ ys))
distinct-others xs ys others once_first once_others =
    subst (IsDistinct same_key) (sym (map-append (λ (e : Bytes × Option Value). e.0) xs ys))
    (distinct_append (keys_of xs) (keys_of ys) once_first once_others (apart xs ys (all_map _ _ ys (λ e h. (Missing-position (same_key e.0) xs h).absent) others)))

-- a change at a place leaves the keys
pub keys_of-set_value_at : {V : Type 0} (es : List (Bytes × V)) (i : ℕ) (w : V) → keys_of (set_value_at es i w) ≡ keys_of es
keys_of-set_value_at [] i w = refl
keys_of-set_value_at (e ∷ es) zero w = refl
keys_of-set_value_at (e ∷ es) (suc i) w = ap (λ l. e.0 ∷ l) (keys_of-set_value_at es i w)
