-- How rows and granules stay tied when one of them is added.
use Rattle.std.proofs.Common.{◌≡◌, ◌⊎◌, ℕ, zero, suc, ◌+◌, ◌<◌, Bool, ◌&&◌, ◌==◌, List, [], ◌∷◌}
use Rattle.std.proofs.Common.{◌++◌, length, get_or, map, slice_get, slice_index_or, Some, ap, sym, inl, inr, arith, ◌∙◌}
use Rattle.std.proofs.lemmas.Bool.{and_from, and_parts}
use Rattle.std.proofs.lemmas.List.{get_or_append_left, length_push}
use Rattle.std.proofs.Math.Seq.{get_or-append_seam}
use Rattle.dt_lists.specs.Lists.{Has}
use Rattle.dt_lists.proofs.Callers.{Tells, distinct_push, place_in_longer}
use Rattle.dt_access.specs.Clash.{Bytes, same_key}
use Rattle.dt_access.proofs.Callers.{key_of_test, same_key_self}
use Rattle.dt_queue.specs.RowsInner.{AreTied, granule_name, name_at}

-- a granule was added
pub tied_granule : (names granules nof : List (ℕ × Bytes)) (gof : List ℕ) (name : ℕ × Bytes) → AreTied names granules nof gof → ¬ (Has granules name) → AreTied names (granules ++ name ∷ []) nof gof
tied_granule names granules nof gof name t fresh = record {
  names_once = t.names_once;
  granules_once = distinct_push granules name t.granules_once fresh;
  named = t.named;
  each_row = t.each_row;
  granule = λ row lt. place_in_longer granules (name ∷ []) _ _ (t.granule row lt);
}

-- a row was added
pub tied_row : (names granules nof : List (ℕ × Bytes)) (gof : List ℕ) (name : ℕ × Bytes) (g : ℕ) → AreTied names granules nof gof → ¬ (Has names name)
    → slice_get granules g ≡ Some (granule_name name) → AreTied (names ++ name ∷ []) granules (nof ++ name ∷ []) (gof ++ g ∷ [])
tied_row names granules nof gof name g t fresh there = record {
  names_once = distinct_push names name t.names_once fresh;
  granules_once = t.granules_once;
  named = ap (λ l. l ++ name ∷ []) t.named;
  each_row = length_push gof g ∙ ap (λ n. n + 1) t.each_row ∙ sym (length_push names name);
  granule = λ row lt. granule row (sides row lt);
}
  where
    sides : (row : ℕ) → row < length (names ++ name ∷ []) → (row < length names) ⊎ (row ≡ length names)
    sides row lt = grind (arith, lt, length_push names name)

    old_granule : (row : ℕ) → row < length names → get_or (gof ++ g ∷ []) row 0 ≡ get_or gof row 0
    old_granule row lt = get_or_append_left gof (g ∷ []) 0 row (omega (arith, lt, t.each_row))

    new_granule : get_or (gof ++ g ∷ []) (length names) 0 ≡ g
    new_granule = ap (λ n. get_or (gof ++ g ∷ []) n 0) (sym t.each_row) ∙ get_or-append_seam gof g [] 0

    granule : (row : ℕ) → (row < length names) ⊎ (row ≡ length names) → slice_get granules (get_or (gof ++ g ∷ []) row 0) ≡ Some (granule_name (name_at (names ++ name ∷ []) row))
    granule row (inl lt) =
        ap (slice_get granules) (old_granule row lt) ∙ t.granule row lt ∙ ap (λ n. Some (granule_name n)) (sym (get_or_append_left names (name ∷ []) (0, []) row lt))
    granule row (inr e) =
        ap (λ n. slice_get granules (get_or (gof ++ g ∷ []) n 0)) e ∙ ap (slice_get granules) new_granule ∙ there
        ∙ ap (λ n. Some (granule_name n)) (sym (ap (λ n. get_or (names ++ name ∷ []) n (0, [])) e ∙ get_or-append_seam names name [] (0, [])))

-- what is said of an item of a list stands at its place
pub found_at : {A B : Type 0} (xs : List A) (f : A → B) (i : ℕ) (x : A) → i < length xs → x ≡ slice_index_or xs i x → slice_get (map f xs) i ≡ Some (f x)
found_at [] f i x lt e = absurd (omega (arith, lt))
found_at (y ∷ ys) f zero x lt e = ap (λ z. Some (f z)) (sym e)
found_at (y ∷ ys) f (suc i) x lt e = found_at ys f i x (omega (arith, lt)) e

-- ---- names in a set

-- whether two names are the same
abbrev pub same_name : ℕ × Bytes → ℕ × Bytes → Bool
same_name a b = (a.0 == b.0) && same_key a.1 b.1

-- the test tells names apart
pub tells_name : Tells same_name
tells_name = record {
  of_test = λ a b e. (
      let p = and_parts (a.0 == b.0) (same_key a.1 b.1) e in
      let home : a.0 ≡ b.0 = grind (arith, p.0) in
      let key : a.1 ≡ b.1 = key_of_test a.1 b.1 p.1 in
      (λ i. (home i, key i)));
  of_self = λ a. and_from (a.0 == a.0) (same_key a.1 a.1) (grind arith) (same_key_self a.1);
}
