-- What is nearest in several rows: the marks of all of them, put together and sorted by their numbers.
use Rattle.std.proofs.Common.{◌≡◌, ◌↔◌, ℕ, suc, ◌<◌, ◌≤◌, Bool, true, false, ◌==◌, List, []}
use Rattle.std.proofs.Common.{◌∷◌, ◌++◌, get_or, refl, sym, subst, inl, inr, eqb-true, eq-eqb, arith}
use Rattle.std.specs.List.Sorted.{IsNonDecreasingBy, IsPermutation}
use Rattle.dt_lists.specs.Lists.{AnyIn, Distinct, EachThen, Has}
use Rattle.dt_lists.proofs.Callers.{all_get, all_map, all_put, any_append, any_append_left, any_append_right, any_get, each_append, each_map, permuted_apart, permuted_has}
use Rattle.dt_queue.specs.declared.mark.Mark.{Mark}
use Rattle.dt_queue.specs.LanesInner.{AddsMarks, AreApart, AreMarks, HasRisingNumbers, IsNearInRow}

-- an item of a list without repeats is none of those before it
pub fresh_next : (done : List ℕ) (x : ℕ) (rest : List ℕ) → Distinct (done ++ x ∷ rest) → ¬ (Has done x)
fresh_next [] x rest d h = h
fresh_next (y ∷ done) x rest d (inl e) = all_get (λ z. ¬ (y ≡ z)) (done ++ x ∷ rest) d.0 x (any_append_right (λ z. z ≡ x) done (x ∷ rest) (inl refl)) e
fresh_next (y ∷ done) x rest d (inr h) = fresh_next done x rest d.1 h

-- the marks of some rows were put together: no number twice
pub record AreGathered (P : ℕ → Mark → Type 0) (rows : List ℕ) (marks : List Mark) : Type 0 where
  pub apart : EachThen (λ m k. ¬ (m.number ≡ k.number)) marks
  pub members : (m : Mark) → Has marks m ↔ AnyIn (λ row. P row m) rows

-- marks of different rows have different numbers
abbrev pub AreParted : (ℕ → Mark → Type 0) → Type 0
AreParted P = (r s : ℕ) (m k : Mark) → P r m → P s k → m.number ≡ k.number → r ≡ s

pub none_gathered : (P : ℕ → Mark → Type 0) → AreGathered P [] []
none_gathered P = record { apart = tt; members = λ m. (λ h. h, λ h. h) }

pub gathered_more : (P : ℕ → Mark → Type 0) → AreParted P → (rows : List ℕ) (row : ℕ) (old new : List Mark)
    → ¬ (Has rows row) → AreGathered P rows old → AddsMarks (P row) old new → AreGathered P (rows ++ row ∷ []) new
gathered_more P parted rows row old new fresh had adds =
    subst (AreGathered P (rows ++ row ∷ [])) (sym adds.1)
    (record {
      apart = each_append (λ m k. ¬ (m.number ≡ k.number)) old adds.0 had.apart
          (all_put _ old (λ m h. all_put _ adds.0 (λ k g e. other m k ((had.members m).0 h) ((adds.2.members k).0 g) e)))
          (each_map _ _ adds.0 (λ m k lt e. less m k lt e) adds.2.numbered);
      members = λ m. (
        λ h. elim (any_append _ old adds.0 h) [
          | inl k ↦ any_append_left _ rows (row ∷ []) ((had.members m).0 k)
          | inr k ↦ any_append_right _ rows (row ∷ []) (inl ((adds.2.members m).0 k))
        ],
        λ p. elim (any_append _ rows (row ∷ []) p) [
          | inl k ↦ any_append_left _ old adds.0 ((had.members m).1 k)
          | inr k ↦ any_append_right _ old adds.0 ((adds.2.members m).1 (elim k [ inl q ↦ q | inr q ↦ absurd q ]))
        ],
      );
    })
  where
    less : (m k : Mark) → m.number < k.number → m.number ≡ k.number → ⊥
    less m k lt e = omega (arith, lt, e)

    other : (m k : Mark) → AnyIn (λ r. P r m) rows → P row k → m.number ≡ k.number → ⊥
    other m k a q e = let found = any_get (λ r. P r m) rows a in fresh (subst (Has rows) (parted found.0 row m k found.2 q e) found.1)

-- ---- sorted

abbrev pub same_number : Mark → Mark → Bool
same_number m k = m.number == k.number

turned : (m k : Mark) → same_number m k ≡ same_number k m
turned m k = by (same_number m k) (same_number k m) refl refl
  where
    by : (a b : Bool) → (m.number == k.number) ≡ a → (k.number == m.number) ≡ b → a ≡ b
    by true true e f = refl
    by false false e f = refl
    by true false e f = absurd (grind (arith, e, f))
    by false true e f = absurd (grind (arith, e, f))

-- numbers that do not fall and differ rise
rising : (xs : List Mark) → IsNonDecreasingBy (λ m. m.number) xs → EachThen (λ m k. ¬ (m.number ≡ k.number)) xs → HasRisingNumbers xs
rising [] s d = tt
rising (x ∷ []) s d = (tt, tt)
rising (x ∷ y ∷ ys) s d =
    let rest : HasRisingNumbers (y ∷ ys) = rising (y ∷ ys) (λ i j e le lt. s (suc i) (suc j) e (omega (arith, le)) (omega (arith, lt))) d.1 in
    let le : x.number ≤ y.number = s 0 1 x (omega arith) (omega arith) in
    let first : x.number < y.number = between le d.0.0 in
    ((first, all_map (λ z. y.number < z.number) (λ z. x.number < z.number) ys (λ z b. omega (arith, first, b)) rest.0), rest)
  where
    between : x.number ≤ y.number → ¬ (x.number ≡ y.number) → x.number < y.number
    between le ne = grind (arith, le, ne)

-- the marks of some rows, sorted by their numbers
pub sorted_marks : (P : ℕ → Mark → Type 0) (rows : List ℕ) (old new : List Mark) → AreGathered P rows old → IsPermutation old new → IsNonDecreasingBy (λ m. m.number) new
    → AreMarks (λ m. AnyIn (λ row. P row m) rows) new
sorted_marks P rows old new had moves sorted = record {
  numbered = rising new sorted (permuted_apart (λ (m k : Mark). m.number ≡ k.number) same_number (λ m k. eqb-true m.number k.number) (λ m k. eq-eqb m.number k.number) turned old new moves had.apart);
  members = λ m. (
    λ h. (had.members m).0 ((permuted_has old new moves m).0 h),
    λ p. (permuted_has old new moves m).1 ((had.members m).1 p),
  );
}

-- it is one of the nearest marks of a row
abbrev pub IsNearIn : List (List Mark) → List (List Mark) → ℕ → ℕ → ℕ → Mark → Type 0
IsNearIn reads writes low high row m = IsNearInRow (get_or reads row []) (get_or writes row []) low high m

-- marks that are near in different rows have different numbers
pub near_parted : (reads writes : List (List Mark)) (low high : ℕ) → AreApart reads writes → AreParted (IsNearIn reads writes low high)
near_parted reads writes low high a r s m k p q e = elim p.1 [
  | inl x ↦ elim q.1 [ inl y ↦ a.of_reads r s m k x.0 y.0 e | inr y ↦ absurd (a.of_both r s m k x.0 y.0 e) ]
  | inr x ↦ elim q.1 [ inl y ↦ absurd (a.of_both s r k m y.0 x.0 (sym e)) | inr y ↦ a.of_writes r s m k x.0 y.0 e ]
]
