-- How a key of a granule is found in an ascending list of keys: the first key that is not less than the granule is the
-- granule itself, or the first that is not less than the granule with a `/` behind it begins so, where there is one.
use Rattle.std.proofs.Common.{◌≡◌, ◌⊎◌, ℕ, zero, suc, ◌-◌, Bool, true, false, cond, ◌&&◌, ◌||◌, nat_lt, nat_eq, List, [], ◌∷◌}
use Rattle.std.proofs.Common.{◌++◌, length, take, drop, slice_index_or, refl, ap, ap₂, sym, ◌∙◌, subst, inl, inr, arith}
use Rattle.std.specs.List.Sorted.{IsPartitionedBy}
use Rattle.std.specs.Ordering.{nat_cmp, is_lt, ordering_then}
use Rattle.std.specs.Cmp.{nat_cmp_is}
use Rattle.std.specs.declared.cmp.Ordering.{Ordering}
use Rattle.std.specs.declared.cmp.Ordering.TheVariants.{Less, Equal, Greater}
use Rattle.std.specs.Cmp.Lexicographic.{slice_cmp, pointwise, nat_list_cmp_total, bytes_decides}
use Rattle.std.proofs.lemmas.Map.Lookups.{exact_unsigned}
use Rattle.std.proofs.lemmas.Bool.{or_left, or_right, or_cases}
use Rattle.std.proofs.lemmas.List.{take-append-drop, append-nil, take_rest}
use Rattle.dt_lists.specs.Lists.{AnyIn, Has}
use Rattle.dt_lists.proofs.Callers.{all_get, any_get, any_append_right, any_of_test, test_of_any, all_index}
use Rattle.dt_access.specs.declared.access.Mode.{Mode}
use Rattle.dt_access.specs.Granules.{Bytes, granule_of}
use Rattle.dt_access.specs.Clash.{same_key}
use Rattle.dt_access.specs.ClashSearchInner.{EndsAt, has_granule, begins_with, is_below}
use Rattle.dt_access.specs.Orders.{KeyBefore, HasAscendingKeys}
use Rattle.dt_access.proofs.GranuleLaws.{key_of_granule, granule_of_row}

-- ---- comparing with a granule

-- a common front does not count
common_front : (g a b : Bytes) → slice_cmp nat_cmp (g ++ a) (g ++ b) ≡ slice_cmp nat_cmp a b
common_front [] a b = refl
common_front (c ∷ g) a b = ap (λ o. ordering_then o (slice_cmp nat_cmp (g ++ a) (g ++ b))) (sym (nat_cmp_is c c Equal refl)) ∙ common_front g a b

-- where the first bytes differ, the rest does not count
other_heads : (l e : Bool) (p q : Ordering) → e ≡ false → ordering_then (cond l Less (cond e Equal Greater)) p ≡ ordering_then (cond l Less (cond e Equal Greater)) q
other_heads true e p q h = refl
other_heads false true p q h = cc
other_heads false false p q h = refl

-- what does not begin with the granule compares with it as with the granule and more
other_front : (g key : Bytes) → pointwise nat_eq (take (length g) key) g ≡ false → slice_cmp nat_cmp key (g ++ 47 ∷ []) ≡ slice_cmp nat_cmp key g
other_front [] key apart = cc
other_front (c ∷ g) [] apart = refl
other_front (c ∷ g) (y ∷ ys) apart = by (nat_eq y c) refl apart (other_front g ys)
  where
    by : (t : Bool) → nat_eq y c ≡ t → (t && pointwise nat_eq (take (length g) ys) g) ≡ false
        → (pointwise nat_eq (take (length g) ys) g ≡ false → slice_cmp nat_cmp ys (g ++ 47 ∷ []) ≡ slice_cmp nat_cmp ys g)
        → slice_cmp nat_cmp (y ∷ ys) (c ∷ (g ++ 47 ∷ [])) ≡ slice_cmp nat_cmp (y ∷ ys) (c ∷ g)
    by true e rest after = ap (ordering_then (nat_cmp y c)) (after rest)
    by false e rest after = other_heads (nat_lt y c) (nat_eq y c) (slice_cmp nat_cmp ys (g ++ 47 ∷ [])) (slice_cmp nat_cmp ys g) e

-- a key that begins with the granule is compared by what follows
pub below_by_rest : (key g rest : Bytes) → pointwise nat_eq (take (length g) key) g ≡ true → rest ≡ drop (length g) key → slice_cmp nat_cmp rest (47 ∷ []) ≡ slice_cmp nat_cmp key (g ++ 47 ∷ [])
below_by_rest key g rest front cut =
    let whole : g ++ rest ≡ key = ap (λ t. t ++ rest) (sym ((bytes_decides _ _).0 front)) ∙ ap (λ t. take (length g) key ++ t) cut ∙ take-append-drop (length g) key in
    sym (common_front g rest (47 ∷ [])) ∙ ap (λ k. slice_cmp nat_cmp k (g ++ 47 ∷ [])) whole

pub below_by_other : (key g : Bytes) → pointwise nat_eq (take (length g) key) g ≡ false → slice_cmp nat_cmp key g ≡ slice_cmp nat_cmp key (g ++ 47 ∷ [])
below_by_other key g apart = sym (other_front g key apart)

-- what is not less than a granule with a `/`, and less than some key that begins so, begins so
between : (g x r : Bytes) → is_below x (g ++ 47 ∷ []) ≡ false → slice_cmp nat_cmp x (g ++ 47 ∷ r) ≡ Less → (s : Bytes) × (x ≡ g ++ 47 ∷ s)
between [] [] r low high = cc
between [] (y ∷ ys) r low high = by (nat_cmp y 47) refl low high
  where
    by : (o : Ordering) → nat_cmp y 47 ≡ o → is_lt (ordering_then o (slice_cmp nat_cmp ys [])) ≡ false → ordering_then o (slice_cmp nat_cmp ys r) ≡ Less → (s : Bytes) × (y ∷ ys ≡ 47 ∷ s)
    by Less e l h = cc
    by Equal e l h = (ys, ap (λ t. t ∷ ys) (exact_unsigned y 47 e))
    by Greater e l h = cc
between (c ∷ g) [] r low high = cc
between (c ∷ g) (y ∷ ys) r low high = by (nat_cmp y c) refl low high (between g ys r)
  where
    by : (o : Ordering) → nat_cmp y c ≡ o → is_lt (ordering_then o (slice_cmp nat_cmp ys (g ++ 47 ∷ []))) ≡ false → ordering_then o (slice_cmp nat_cmp ys (g ++ 47 ∷ r)) ≡ Less
        → (is_below ys (g ++ 47 ∷ []) ≡ false → slice_cmp nat_cmp ys (g ++ 47 ∷ r) ≡ Less → (s : Bytes) × (ys ≡ g ++ 47 ∷ s))
        → (s : Bytes) × (y ∷ ys ≡ c ∷ (g ++ 47 ∷ s))
    by Less e l h after = cc
    by Equal e l h after = let t : (s : Bytes) × (ys ≡ g ++ 47 ∷ s) = after l h in (t.0, λ i. exact_unsigned y c e i ∷ t.1 i)
    by Greater e l h after = cc

-- ---- searching an ascending list

less_of : (o : Ordering) → is_lt o ≡ true → o ≡ Less
less_of Less e = refl
less_of Equal e = cc
less_of Greater e = cc

-- what is less than a bound stands before what is not
pub parted : (bound : Bytes) (xs : List (Bytes × Mode)) → HasAscendingKeys xs → IsPartitionedBy (λ x. is_below x.0 bound) xs
parted bound [] asc i j d le lt e = absurd (omega arith)
parted bound (x ∷ xs) asc zero zero d le lt e = e
parted bound (x ∷ xs) asc zero (suc j) d le lt e =
    let before : KeyBefore x.0 (slice_index_or xs j d).0 = all_index (λ y. KeyBefore x.0 y.0) xs j d asc.0 (omega arith) in
    ap is_lt (nat_list_cmp_total.trans x.0 (slice_index_or xs j d).0 bound before (less_of _ e))
parted bound (x ∷ xs) asc (suc i) zero d le lt e = absurd (omega arith)
parted bound (x ∷ xs) asc (suc i) (suc j) d le lt e = parted bound xs asc.1 i j d (omega arith) (omega arith) e

-- where the search ended, the list goes on with a key that is not less than the bound, and not greater than a key of the list that is
-- not less than the bound
record IsFirstFrom (bound : Bytes) (x : Bytes × Mode) (rest : List (Bytes × Mode)) : Type 0 where
  pub first : Bytes × Mode
  pub more : List (Bytes × Mode)
  pub whole : rest ≡ first ∷ more
  pub low : is_below first.0 bound ≡ false
  pub high : (first ≡ x) ⊎ KeyBefore first.0 x.0

first_from : (bound : Bytes) (xs : List (Bytes × Mode)) (i : ℕ) → HasAscendingKeys xs → EndsAt bound xs i → (x : Bytes × Mode) → Has xs x → is_below x.0 bound ≡ false → IsFirstFrom bound x (drop i xs)
first_from bound [] i asc ends x here high = absurd here
first_from bound (z ∷ zs) zero asc ends x here high = record {
  first = z;
  more = zs;
  whole = refl;
  low = ends.1 0 z (omega arith) (omega arith);
  high = elim here [ inl s ↦ inl s | inr h ↦ inr (all_get (λ y. KeyBefore z.0 y.0) zs asc.0 x h) ];
}
first_from bound (z ∷ zs) (suc i) asc ends x (inl s) high =
    let low : is_below z.0 bound ≡ true = ends.0 0 z (omega arith) (omega arith) in
    let same : is_below z.0 bound ≡ is_below x.0 bound = ap (λ (y : Bytes × Mode). is_below y.0 bound) s in
    cc
first_from bound (z ∷ zs) (suc i) asc ends x (inr h) high =
    first_from bound zs i asc.1 (λ k d lo hi. ends.0 (suc k) d (omega arith) (omega arith), λ k d lo hi. ends.1 (suc k) d (omega arith) (omega arith)) x h high

-- two tests that pass together are one
pub same_tests : (a b : Bool) → (a ≡ true → b ≡ true) → (b ≡ true → a ≡ true) → a ≡ b
same_tests true b f g = sym (f refl)
same_tests false true f g = g refl
same_tests false false f g = refl

-- a list of which some end begins with a key of the granule has a key of it
begins_has : (xs : List (Bytes × Mode)) (i : ℕ) (g : Bytes) → begins_with (drop i xs) g ≡ true → has_granule xs g ≡ true
begins_has xs i g e =
    test_of_any (λ a. same_key g (granule_of a.0)) xs
    (subst (AnyIn (λ a. same_key g (granule_of a.0) ≡ true)) (take-append-drop i xs) (any_append_right _ (take i xs) (drop i xs) (first (drop i xs) e)))
  where
    first : (ys : List (Bytes × Mode)) → begins_with ys g ≡ true → AnyIn (λ a. same_key g (granule_of a.0) ≡ true) ys
    first [] e = cc
    first (y ∷ ys) e = inl e

-- the first key from the granule on is the granule, where the list has it
itself_first : (xs : List (Bytes × Mode)) (i : ℕ) (g : Bytes) → HasAscendingKeys xs → EndsAt g xs i → (x : Bytes × Mode) → Has xs x → granule_of x.0 ≡ g → x.0 ≡ g → begins_with (drop i xs) g ≡ true
itself_first xs i g asc ends x here of is =
    let level : slice_cmp nat_cmp x.0 g ≡ Equal = ap (λ k. slice_cmp nat_cmp k g) is ∙ ap₂ (slice_cmp nat_cmp) (sym (append-nil g)) (sym (append-nil g)) ∙ common_front g [] [] in
    let f : IsFirstFrom g x (drop i xs) = first_from g xs i asc ends x here (ap is_lt level) in
    ap (λ ys. begins_with ys g) f.whole ∙ elim f.high [
      | inl s ↦ (bytes_decides g (granule_of (f.first).0)).1 (sym of ∙ ap (λ (y : Bytes × Mode). granule_of y.0) (sym s))
      | inr b ↦ let low : is_below (f.first).0 g ≡ true = ap is_lt (ap (slice_cmp nat_cmp (f.first).0) (sym is) ∙ b) in let high : is_below (f.first).0 g ≡ false = f.low in cc
    ]

-- the first key from the granule with a `/` on begins with these, where some key of the list does
row_first : (xs : List (Bytes × Mode)) (i : ℕ) (g rest : Bytes) → HasAscendingKeys xs → EndsAt (g ++ 47 ∷ []) xs i → (x : Bytes × Mode)
    → Has xs x → granule_of x.0 ≡ g → x.0 ≡ g ++ 47 ∷ rest → begins_with (drop i xs) g ≡ true
row_first xs i g rest asc ends x here of is =
    let f : IsFirstFrom (g ++ 47 ∷ []) x (drop i xs) = first_from (g ++ 47 ∷ []) xs i asc ends x here
    (ap (λ k. is_below k (g ++ 47 ∷ [])) is ∙ ap is_lt (common_front g (47 ∷ rest) (47 ∷ [])) ∙ not_less rest) in
    ap (λ ys. begins_with ys g) f.whole ∙ elim f.high [
      | inl s ↦ (bytes_decides g (granule_of (f.first).0)).1 (sym of ∙ ap (λ (y : Bytes × Mode). granule_of y.0) (sym s))
      | inr b ↦
          let row : (s : Bytes) × ((f.first).0 ≡ g ++ 47 ∷ s) = between g (f.first).0 rest f.low (ap (slice_cmp nat_cmp (f.first).0) (sym is) ∙ b) in
          let some : ¬ (x.0 ≡ []) = λ none. no_end g (sym is ∙ none) in
          let of_row : granule_of (g ++ 47 ∷ row.0) ≡ g = subst (λ t. granule_of (t ++ 47 ∷ row.0) ≡ t) of (granule_of_row x.0 row.0 some) in
          (bytes_decides g (granule_of (f.first).0)).1 (sym of_row ∙ ap granule_of (sym row.1))
    ]
  where
    not_less : (r : Bytes) → is_lt (slice_cmp nat_cmp (47 ∷ r) (47 ∷ [])) ≡ false
    not_less [] = refl
    not_less (y ∷ ys) = refl

    no_end : (front : Bytes) → ¬ (front ++ 47 ∷ rest ≡ [])
    no_end [] e = cc
    no_end (y ∷ ys) e = cc

-- the two searches tell whether a list has a key of the granule
pub found : (xs : List (Bytes × Mode)) (i j : ℕ) (g : Bytes) → HasAscendingKeys xs → EndsAt g xs i → EndsAt (g ++ 47 ∷ []) xs j
    → (begins_with (drop i xs) g || begins_with (drop j xs) g) ≡ has_granule xs g
found xs i j g asc ends rows = same_tests (begins_with (drop i xs) g || begins_with (drop j xs) g) (has_granule xs g)
    (λ e. elim (or_cases (begins_with (drop i xs) g) (begins_with (drop j xs) g) e) [ inl h ↦ begins_has xs i g h | inr h ↦ begins_has xs j g h ])
    (λ e.
    let r : (x : Bytes × Mode) × Has xs x × (same_key g (granule_of x.0) ≡ true) = any_get _ xs (any_of_test (λ a. same_key g (granule_of a.0)) xs e) in
    let of : granule_of (r.0).0 ≡ g = sym ((bytes_decides g (granule_of (r.0).0)).0 r.2) in
    elim (key_of_granule (r.0).0) [
      | inl s ↦ or_left _ _ (itself_first xs i g asc ends r.0 r.1 of (s ∙ of))
      | inr s ↦ or_right _ _ (row_first xs j g s.0 asc rows r.0 r.1 of (s.1 ∙ ap (λ t. t ++ 47 ∷ s.0) of))
    ])

-- the same of the slices that the code looks at, by the order in which it looks
pub found_at_first : (xs : List (Bytes × Mode)) (i j : ℕ) (g : Bytes) (first : Bool) → HasAscendingKeys xs → EndsAt g xs i → EndsAt (g ++ 47 ∷ []) xs j
    → first ≡ begins_with (take (length xs - i) (drop i xs)) g → first ≡ true → first ≡ has_granule xs g
found_at_first xs i j g first asc ends rows is passes =
    let shown : begins_with (drop i xs) g ≡ true = ap (λ ys. begins_with ys g) (sym (take_rest xs i)) ∙ sym is ∙ passes in
    passes ∙ sym (or_left _ (begins_with (drop j xs) g) shown) ∙ found xs i j g asc ends rows

pub found_at_second : (xs : List (Bytes × Mode)) (i j : ℕ) (g : Bytes) (first second : Bool) → HasAscendingKeys xs → EndsAt g xs i → EndsAt (g ++ 47 ∷ []) xs j
    → first ≡ begins_with (take (length xs - i) (drop i xs)) g → first ≡ false → second ≡ begins_with (take (length xs - j) (drop j xs)) g → second ≡ has_granule xs g
found_at_second xs i j g first second asc ends rows is fails then =
    let none : begins_with (drop i xs) g ≡ false = ap (λ ys. begins_with ys g) (sym (take_rest xs i)) ∙ sym is ∙ fails in
    then ∙ ap (λ ys. begins_with ys g) (take_rest xs j) ∙ ap (λ t. t || begins_with (drop j xs) g) (sym none) ∙ found xs i j g asc ends rows
