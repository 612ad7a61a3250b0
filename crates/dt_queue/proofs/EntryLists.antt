-- The list of entries that is shown of the cells in their order: what stands before and after an entry, and what is nearest.
use Rattle.std.proofs.Common.{◌≡◌, ◌≢◌, ℕ, ◌<◌, ◌≤◌, Bool, true, false, cond, not, ◌==◌, ◌&&◌, ◌||◌, eqb-true, lt-ltb}
use Rattle.std.proofs.Common.{nat_lt, List, [], ◌∷◌, map, Some, refl, ap, sym, subst, inl, inr, arith, ◌∙◌}
use Rattle.std.specs.List.{filter, list_any}
use Rattle.std.proofs.lemmas.Bool.{and_from, and_parts, false≢true, not-true}
use Rattle.slab.specs.Slab.{Slab, get}
use Rattle.dt_lists.specs.Lists.{EachThen, Has}
use Rattle.dt_lists.proofs.Callers.{all_get, all_map, all_put, any_of_test, any_put, any_get, test_of_any, filter_none, some_same}
use Rattle.dt_access.specs.Clash.{Bytes}
use Rattle.dt_queue.specs.declared.cell.Cell.{Cell}
use Rattle.dt_queue.specs.KeptInner.{entry}
use Rattle.dt_queue.specs.Queues.{Waiting, pushed_before, entries_clash, entry_at, nearest, taken_out}
use Rattle.dt_queue.proofs.InOrder.{IsListed, Rise}

-- no two have one slot
abbrev pub Slots : List (ℕ × Cell) → Type 0
Slots K = EachThen (λ (p q : ℕ × Cell). ¬ (p.0 ≡ q.0)) K

pub slots_of_list : (cells : Slab Cell) (K : List (ℕ × Cell)) → IsListed cells K → Slots K
slots_of_list cells K l = by K (λ p h. (l.members p).0 h) l.numbered
  where
    apart : (p q : ℕ × Cell) → get cells p.0 ≡ Some p.1 → get cells q.0 ≡ Some q.1 → p.1.number < q.1.number → p.0 ≡ q.0 → ⊥
    apart p q a b lt e = let same : p.1 ≡ q.1 = some_same (sym a ∙ ap (get cells) e ∙ b) in omega (arith, lt, ap (λ (c : Cell). c.number) same)

    by : (K : List (ℕ × Cell)) → ((p : ℕ × Cell) → Has K p → get cells p.0 ≡ Some p.1) → EachThen Rise K → Slots K
    by [] there num = tt
    by (x ∷ xs) there num = (
      all_put (λ (q : ℕ × Cell). ¬ (x.0 ≡ q.0)) xs (λ q h e. apart x q (there x (inl refl)) (there q (inr h)) (all_get (Rise x) xs num.0 q h) e),
      by xs (λ p h. there p (inr h)) num.1,
    )

-- the entries with lesser numbers
abbrev pub lesser : ℕ → List (ℕ × Cell) → List (ℕ × Cell)
lesser n K = filter (λ (p : ℕ × Cell). nat_lt p.1.number n) K

-- of two different numbers the test fails, of one it holds
slot_of : (p q : ℕ × Cell) → p ≡ q → p.0 ≡ q.0
slot_of p q e = ap (λ (x : ℕ × Cell). x.0) e

-- the item of a list at a slot
head_is : (x p : ℕ × Cell) (xs : List (ℕ × Cell)) → Slots (x ∷ xs) → Has (x ∷ xs) p → x.0 ≡ p.0 → x ≡ p
head_is x p xs s (inl e) same = e
head_is x p xs s (inr h) same = absurd (all_get (λ (q : ℕ × Cell). ¬ (x.0 ≡ q.0)) xs s.0 p h same)

tail_has : (x p : ℕ × Cell) (xs : List (ℕ × Cell)) → Has (x ∷ xs) p → x.0 ≢ p.0 → Has xs p
tail_has x p xs (inl e) ne = absurd (ne (slot_of x p e))
tail_has x p xs (inr h) ne = h

unequal : (a b : ℕ) → (a == b) ≡ false → a ≢ b
unequal a b e f = absurd (grind (arith, e, f))

below_false : (a b : ℕ) → b ≤ a → nat_lt a b ≡ false
below_false a b le = grind (arith, le)

module _ (names : List (ℕ × Bytes)) where
  -- the entry at a slot is that of the cell there
  pub entry_is : (K : List (ℕ × Cell)) (p : ℕ × Cell) → Slots K → Has K p → entry_at (map (entry names) K) p.0 ≡ entry names p
  entry_is [] p s h = absurd h
  entry_is (x ∷ xs) p s h = by (x.0 == p.0) refl (λ g. entry_is xs p s.1 g)
    where
      by : (t : Bool) → (x.0 == p.0) ≡ t → (Has xs p → entry_at (map (entry names) xs) p.0 ≡ entry names p) → cond t (entry names x) (entry_at (map (entry names) xs) p.0) ≡ entry names p
      by true e rest = ap (entry names) (head_is x p xs s h (eqb-true x.0 p.0 e))
      by false e rest = rest (tail_has x p xs h (unequal x.0 p.0 e))

  -- what stands before an entry are those with lesser numbers
  pub before_is : (K : List (ℕ × Cell)) (p : ℕ × Cell) → EachThen Rise K → Slots K → Has K p → pushed_before (map (entry names) K) p.0 ≡ map (entry names) (lesser p.1.number K)
  before_is [] p num s h = absurd h
  before_is (x ∷ xs) p num s h = by (x.0 == p.0) refl (λ g. before_is xs p num.1 s.1 g)
    where
      by : (t : Bool) → (x.0 == p.0) ≡ t → (Has xs p → pushed_before (map (entry names) xs) p.0 ≡ map (entry names) (lesser p.1.number xs))
          → cond t [] (entry names x ∷ pushed_before (map (entry names) xs) p.0) ≡ map (entry names) (lesser p.1.number (x ∷ xs))
      by true e rest =
          let same = head_is x p xs s h (eqb-true x.0 p.0 e) in
          sym (ap (map (entry names)) (filter_none (λ (q : ℕ × Cell). nat_lt q.1.number p.1.number) (x ∷ xs)
          (own same, all_map (Rise x) (λ (q : ℕ × Cell). nat_lt q.1.number p.1.number ≡ false) xs (λ q lt. higher same q lt) num.0)))
        where
          own : x ≡ p → nat_lt x.1.number p.1.number ≡ false
          own f = let n : x.1.number ≡ p.1.number = ap (λ (y : ℕ × Cell). y.1.number) f in below_false _ _ (omega (arith, n))

          higher : x ≡ p → (q : ℕ × Cell) → x.1.number < q.1.number → nat_lt q.1.number p.1.number ≡ false
          higher f q lt = let n : x.1.number ≡ p.1.number = ap (λ (y : ℕ × Cell). y.1.number) f in below_false _ _ (omega (arith, n, lt))
      by false e rest = pass (nat_lt x.1.number p.1.number) (lt-ltb _ _ (all_get (Rise x) xs num.0 p (tail_has x p xs h (unequal x.0 p.0 e)))) (rest (tail_has x p xs h (unequal x.0 p.0 e)))
        where
          pass : (t : Bool) → t ≡ true → pushed_before (map (entry names) xs) p.0 ≡ map (entry names) (lesser p.1.number xs)
              → entry names x ∷ pushed_before (map (entry names) xs) p.0 ≡ map (entry names) (cond t (x ∷ lesser p.1.number xs) (lesser p.1.number xs))
          pass true f g = ap (λ l. entry names x ∷ l) g
          pass false f g = cc

  -- what is shown without an entry
  pub without_is : (K : List (ℕ × Cell)) (slot : ℕ) → taken_out (map (entry names) K) slot ≡ map (entry names) (filter (λ (p : ℕ × Cell). not (p.0 == slot)) K)
  without_is [] slot = refl
  without_is (x ∷ xs) slot = by (not (x.0 == slot)) (without_is xs slot)
    where
      by : (t : Bool) → taken_out (map (entry names) xs) slot ≡ map (entry names) (filter (λ (p : ℕ × Cell). not (p.0 == slot)) xs)
          → cond t (entry names x ∷ taken_out (map (entry names) xs) slot) (taken_out (map (entry names) xs) slot)
          ≡ map (entry names) (cond t (x ∷ filter (λ (p : ℕ × Cell). not (p.0 == slot)) xs) (filter (λ (p : ℕ × Cell). not (p.0 == slot)) xs))
      by true e = ap (λ l. entry names x ∷ l) e
      by false e = e

  -- ---- the nearest

  -- whether two cells clash, as they are shown
  abbrev pub meets : ℕ × Cell → ℕ × Cell → Bool
  meets p q = entries_clash (entry names p) (entry names q)

  -- whether nothing later clashes with both
  abbrev pub is_free : ℕ × Cell → ℕ × Cell → List (ℕ × Cell) → Bool
  is_free x b later = not (list_any (λ m. meets b m && meets m x) later)

  abbrev pub near_in : ℕ × Cell → List (ℕ × Cell) → List (ℕ × Cell)
  near_in x [] = []
  near_in x (b ∷ later) = cond (meets b x && is_free x b later) (b ∷ near_in x later) (near_in x later)

  any_shown : (test : Waiting → Bool) (xs : List (ℕ × Cell)) → list_any test (map (entry names) xs) ≡ list_any (λ m. test (entry names m)) xs
  any_shown test [] = refl
  any_shown test (x ∷ xs) = ap (λ t. test (entry names x) || t) (any_shown test xs)

  pub nearest_is : (x : ℕ × Cell) (B : List (ℕ × Cell)) → nearest (entry names x) (map (entry names) B) ≡ map (entry names) (near_in x B)
  nearest_is x [] = refl
  nearest_is x (b ∷ later) =
      ap (λ t. cond (meets b x && not t) (entry names b ∷ shown) shown)
      (any_shown (λ m. entries_clash (entry names b) m && entries_clash m (entry names x)) later)
      ∙ by (meets b x && is_free x b later) (nearest_is x later)
    where
      shown : List Waiting
      shown = nearest (entry names x) (map (entry names) later)

      by : (t : Bool) → shown ≡ map (entry names) (near_in x later)
          → cond t (entry names b ∷ shown) shown ≡ map (entry names) (cond t (b ∷ near_in x later) (near_in x later))
      by true e = ap (λ l. entry names b ∷ l) e
      by false e = e

  -- nothing of a list with a greater number clashes with both
  abbrev pub IsFreeOfBoth : ℕ × Cell → List (ℕ × Cell) → ℕ × Cell → Type 0
  IsFreeOfBoth x B b = (m : ℕ × Cell) → Has B m → b.1.number < m.1.number → meets b m ≡ true → ¬ (meets m x ≡ true)

  true_of_not : (t : Bool) → ¬ (t ≡ true) → not t ≡ true
  true_of_not true ne = absurd (ne refl)
  true_of_not false ne = refl

  free_of : (x b : ℕ × Cell) (later : List (ℕ × Cell)) → is_free x b later ≡ true → (m : ℕ × Cell) → Has later m → meets b m ≡ true → ¬ (meets m x ≡ true)
  free_of x b later e m h s t =
      false≢true (sym (not-true _ e) ∙ test_of_any (λ m. meets b m && meets m x) later (any_put (λ m. (meets b m && meets m x) ≡ true) later m h (and_from (meets b m) (meets m x) s t)))

  free_to : (x b : ℕ × Cell) (later : List (ℕ × Cell)) → ((m : ℕ × Cell) → Has later m → meets b m ≡ true → ¬ (meets m x ≡ true)) → is_free x b later ≡ true
  free_to x b later f = true_of_not _ (λ e. let r = any_get (λ m. (meets b m && meets m x) ≡ true) later (any_of_test (λ m. meets b m && meets m x) later e) in
      f r.0 r.1 (and_parts (meets b r.0) (meets r.0 x) r.2).0 (and_parts (meets b r.0) (meets r.0 x) r.2).1)

  pub of_near : (x : ℕ × Cell) (B : List (ℕ × Cell)) → EachThen Rise B → (b : ℕ × Cell) → Has (near_in x B) b → Has B b × (meets b x ≡ true) × IsFreeOfBoth x B b
  of_near x [] num b h = absurd h
  of_near x (y ∷ later) num b h = by (meets y x && is_free x y later) refl h (λ g. of_near x later num.1 b g)
    where
      lower : Has later b → y.1.number < b.1.number
      lower g = all_get (Rise y) later num.0 b g

      behind : (m : ℕ × Cell) → y ≡ m → b.1.number < m.1.number → y.1.number < b.1.number → ⊥
      behind m same lt le = omega (arith, lt, le, ap (λ (z : ℕ × Cell). z.1.number) same)

      more : Has later b × (meets b x ≡ true) × IsFreeOfBoth x later b → Has (y ∷ later) b × (meets b x ≡ true) × IsFreeOfBoth x (y ∷ later) b
      more r = (inr r.0, r.1, λ m k lt s. elim k [ inl same ↦ absurd (behind m same lt (lower r.0)) | inr j ↦ r.2 m j lt s ])

      by : (t : Bool) → (meets y x && is_free x y later) ≡ t → Has (cond t (y ∷ near_in x later) (near_in x later)) b → (Has (near_in x later) b → Has later b × (meets b x ≡ true) × IsFreeOfBoth x later b)
          → Has (y ∷ later) b × (meets b x ≡ true) × IsFreeOfBoth x (y ∷ later) b
      by true e (inl f) rest = (
        inl f,
        subst (λ z. meets z x ≡ true) f (and_parts _ _ e).0,
        subst (IsFreeOfBoth x (y ∷ later)) f (λ m g lt s. elim g [ inl same ↦ absurd (self m same lt) | inr k ↦ free_of x y later (and_parts (meets y x) _ e).1 m k s ]),
      )
        where
          self : (m : ℕ × Cell) → y ≡ m → y.1.number < m.1.number → ⊥
          self m same lt = omega (arith, lt, ap (λ (z : ℕ × Cell). z.1.number) same)
      by true e (inr g) rest = more (rest g)
      by false e g rest = more (rest g)

  pub to_near : (x : ℕ × Cell) (B : List (ℕ × Cell)) → EachThen Rise B → (b : ℕ × Cell) → Has B b → meets b x ≡ true → IsFreeOfBoth x B b → Has (near_in x B) b
  to_near x [] num b h e free = absurd h
  to_near x (y ∷ later) num b h e free = by (meets y x && is_free x y later) refl h (λ g. to_near x later num.1 b g e (λ m k. free m (inr k)))
    where
      passes : y ≡ b → (meets y x && is_free x y later) ≡ true
      passes f = and_from (meets y x) (is_free x y later) (subst (λ z. meets z x ≡ true) (sym f) e)
          (free_to x y later (λ m k s. subst (λ z. z.1.number < m.1.number → meets z m ≡ true → ¬ (meets m x ≡ true)) (sym f) (free m (inr k)) (all_get (Rise y) later num.0 m k) s))

      by : (t : Bool) → (meets y x && is_free x y later) ≡ t → Has (y ∷ later) b → (Has later b → Has (near_in x later) b) → Has (cond t (y ∷ near_in x later) (near_in x later)) b
      by true s (inl f) rest = inl f
      by true s (inr g) rest = inr (rest g)
      by false s (inl f) rest = let p : (meets y x && is_free x y later) ≡ true = passes f in cc
      by false s (inr g) rest = rest g

  pub near_rises : (x : ℕ × Cell) (B : List (ℕ × Cell)) → EachThen Rise B → EachThen Rise (near_in x B)
  near_rises x [] num = tt
  near_rises x (y ∷ later) num = by (meets y x && is_free x y later) (near_rises x later num.1)
    where
      by : (t : Bool) → EachThen Rise (near_in x later) → EachThen Rise (cond t (y ∷ near_in x later) (near_in x later))
      by true rest = (all_put (Rise y) (near_in x later) (λ b h. all_get (Rise y) later num.0 b (of_near x later num.1 b h).0), rest)
      by false rest = rest
