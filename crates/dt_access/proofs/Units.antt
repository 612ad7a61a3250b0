-- What clashes is of one unit, and what moves a unit clashes with all that uses it.
use Rattle.std.proofs.Common.{◌≡◌, ◌≢◌, ◌⊎◌, ℕ, Bool, true, false, cond, ◌==◌, ◌&&◌, ◌||◌, refl, ap, ap₂, subst, inl, inr}
use Rattle.std.proofs.Math.Bool.{or_comm}
use Rattle.std.proofs.lemmas.Bool.{and_parts, and_from, or_left, or_right, or_cases}
use Rattle.std.specs.Cmp.Lexicographic.{bytes_decides}
use Rattle.std.proofs.lemmas.Cmp.{nat_list_eq_equiv}
use Rattle.dt_access.specs.Granules.{Bytes, granule_of, unit_of, mode_of_move}
use Rattle.dt_access.specs.Clash.{same_key, same_granule, may_change, is_whole, rows_clash, granules_clash, uses_clash}
use Rattle.dt_access.specs.declared.access.Mode.{Mode}
use Rattle.dt_access.specs.declared.access.Mode.TheVariants.{Write, Whole}

-- it does not matter which of two uses comes first
pub uses_clash_symmetric : (a b : Bytes × Mode) → uses_clash a b ≡ uses_clash b a
uses_clash_symmetric a b = ap₂ ◌||◌
    (ap₂ ◌&&◌ (nat_list_eq_equiv.symm a.0 b.0) (or_comm (may_change a.1) (may_change b.1)))
    (ap₂ ◌&&◌ (nat_list_eq_equiv.symm (granule_of a.0) (granule_of b.0)) (or_comm (is_whole a.1) (is_whole b.1)))

-- uses of one row clash where one of them does more than read it
pub uses_of_row : (a b : Bytes × Mode) → a.0 ≡ b.0 → (may_change a.1 || may_change b.1) ≡ true → uses_clash a b ≡ true
uses_of_row a b same w = or_left _ _ (and_from _ _ ((bytes_decides a.0 b.0).1 same) w)

-- uses of one granule clash where one of them takes it as a whole
pub uses_of_granule : (a b : Bytes × Mode) → granule_of a.0 ≡ granule_of b.0 → (is_whole a.1 || is_whole b.1) ≡ true → uses_clash a b ≡ true
uses_of_granule a b same w = or_right _ _ (and_from _ _ ((bytes_decides (granule_of a.0) (granule_of b.0)).1 same) w)

-- uses clash on a row or on a granule, in words
pub clash_cases : (a b : Bytes × Mode) → uses_clash a b ≡ true
    → ((a.0 ≡ b.0) × ((may_change a.1 || may_change b.1) ≡ true)) ⊎ ((granule_of a.0 ≡ granule_of b.0) × ((is_whole a.1 || is_whole b.1) ≡ true))
clash_cases a b e = elim (or_cases (rows_clash a b) (granules_clash a b) e) [
  | inl r ↦ let p : (same_key a.0 b.0 ≡ true) × ((may_change a.1 || may_change b.1) ≡ true) = and_parts _ _ r in inl ((bytes_decides a.0 b.0).0 p.0, p.1)
  | inr g ↦ let p : (same_granule a.0 b.0 ≡ true) × ((is_whole a.1 || is_whole b.1) ≡ true) = and_parts _ _ g in inr ((bytes_decides (granule_of a.0) (granule_of b.0)).0 p.0, p.1)
]

-- what clashes is of one granule
pub granules_of_clash : (a b : Bytes × Mode) → uses_clash a b ≡ true → granule_of a.0 ≡ granule_of b.0
granules_of_clash a b e = elim (clash_cases a b e) [ inl r ↦ ap granule_of r.0 | inr g ↦ g.0 ]

-- what clashes is of one row, where no granule is taken as a whole
pub keys_of_clash : (a b : Bytes × Mode) → is_whole a.1 ≡ false → is_whole b.1 ≡ false → uses_clash a b ≡ true → a.0 ≡ b.0
keys_of_clash a b na nb e = elim (clash_cases a b e) [ inl r ↦ r.0 | inr g ↦ absurd (none (is_whole a.1) (is_whole b.1) na nb g.1) ]
  where
    none : (s t : Bool) → s ≡ false → t ≡ false → ¬ ((s || t) ≡ true)
    none true t p q w = cc
    none false true p q w = cc
    none false false p q w = cc

-- in either version, what clashes is of one unit: granules are taken as a whole in version 2 alone
pub units_of_clash : (version : ℕ) (a b : Bytes × Mode) → (version ≢ 2 → (is_whole a.1 ≡ false) × (is_whole b.1 ≡ false)) → uses_clash a b ≡ true
    → unit_of version a.0 ≡ unit_of version b.0
units_of_clash version a b fit e = by (version == 2) refl
  where
    by : (t : Bool) → (version == 2) ≡ t → cond t (granule_of a.0) a.0 ≡ cond t (granule_of b.0) b.0
    by true h = granules_of_clash a b e
    by false h = let f : (is_whole a.1 ≡ false) × (is_whole b.1 ≡ false) = fit (λ same. no (subst (λ v. (v == 2) ≡ false) same h)) in keys_of_clash a b f.0 f.1 e
      where
        no : ¬ ((2 == 2) ≡ false)
        no q = cc

-- in either version, what moves a unit clashes with every use of it
pub moves_clash : (version : ℕ) (a b : Bytes × Mode) → a.1 ≡ mode_of_move version → unit_of version a.0 ≡ unit_of version b.0 → uses_clash a b ≡ true
moves_clash version a b mode same = by (version == 2) mode same
  where
    by : (t : Bool) → a.1 ≡ cond t Whole Write → cond t (granule_of a.0) a.0 ≡ cond t (granule_of b.0) b.0 → uses_clash a b ≡ true
    by true m s = uses_of_granule a b s (or_left _ _ (ap is_whole m))
    by false m s = uses_of_row a b s (or_left _ _ (ap may_change m))
