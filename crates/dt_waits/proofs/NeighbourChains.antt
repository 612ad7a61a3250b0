-- Entries of queues: where one stands among them, and that a chain of neighbours leads from each entry to each later one
-- with which it clashes.
use Rattle.std.proofs.Common.{◌≡◌, ◌≢◌, ◌<◌, ◌⊎◌, ◌∙◌, ℕ, zero, suc, Bool, true, false, ◌&&◌, ◌==◌, not, List, [], ◌∷◌}
use Rattle.std.proofs.Common.{◌++◌, length, refl, sym, ap, subst, inl, inr, eqb-true, eq-eqb, arith}
use Rattle.std.specs.List.{list_any}
use Rattle.std.proofs.lemmas.Bool.{and_parts, cases_Bool, false_from_ne_true}
use Rattle.std.proofs.lemmas.List.{append_assoc, length-append}
use Rattle.dt_lists.specs.Lists.{Has}
use Rattle.dt_lists.specs.Chain.{Chain}
use Rattle.dt_lists.proofs.Callers.{all_get, any_get, any_of_test, has_longer, has_middle, chain_join, chain_step, Spot, spot}
use Rattle.dt_queue.specs.Queues.{Waiting, HasDistinctSlots, entries_clash, entry_at, pushed_before, nearest, neighbours}

pub slot_same : (a : ℕ) → (a == a) ≡ true
slot_same a = eq-eqb a a refl

pub slot_other : (a b : ℕ) → a ≢ b → (a == b) ≡ false
slot_other a b n = false_from_ne_true (a == b) (λ e. n (eqb-true a b e))

-- an entry of entries at distinct slots, with what is before it

pub before_split : (front : List Waiting) (j : Waiting) (rest : List Waiting) → HasDistinctSlots (front ++ j ∷ rest) → pushed_before (front ++ j ∷ rest) j.slot ≡ front
before_split [] j rest d = rw (slot_same j.slot) refl
before_split (w ∷ front) j rest d = rw (slot_other w.slot j.slot (all_get _ (front ++ j ∷ rest) d.0 j (has_middle front j rest))) (ap (λ l. w ∷ l) (before_split front j rest d.1))

pub entry_split : (front : List Waiting) (j : Waiting) (rest : List Waiting) → HasDistinctSlots (front ++ j ∷ rest) → entry_at (front ++ j ∷ rest) j.slot ≡ j
entry_split [] j rest d = rw (slot_same j.slot) refl
entry_split (w ∷ front) j rest d = rw (slot_other w.slot j.slot (all_get _ (front ++ j ∷ rest) d.0 j (has_middle front j rest))) (entry_split front j rest d.1)

pub neighbours_split : (waiting front : List Waiting) (j : Waiting) (rest : List Waiting) → HasDistinctSlots waiting → waiting ≡ front ++ j ∷ rest → neighbours waiting j.slot ≡ nearest j front
neighbours_split waiting front j rest d is = rw (is, entry_split front j rest e, before_split front j rest e) refl
  where
    e : HasDistinctSlots (front ++ j ∷ rest)
    e = subst HasDistinctSlots is d

-- the nearest ones

-- some of the entries clashes with both
abbrev pub is_parted : Waiting → Waiting → List Waiting → Bool
is_parted a x between = list_any (λ m. entries_clash a m && entries_clash m x) between

-- a is one of the nearest, if these come after it
abbrev pub is_near : Waiting → Waiting → List Waiting → Bool
is_near x a later = entries_clash a x && not (is_parted a x later)

pub nearest_clash : (x : Waiting) (front : List Waiting) (w : Waiting) → Has (nearest x front) w → Has front w × (entries_clash w x ≡ true)
nearest_clash x [] w h = absurd h
nearest_clash x (a ∷ front) w h = by (λ k. nearest_clash x front w k) (cases_Bool (is_near x a front))
  where
    by : (Has (nearest x front) w → Has front w × (entries_clash w x ≡ true)) → (is_near x a front ≡ true) ⊎ (is_near x a front ≡ false) → Has (a ∷ front) w × (entries_clash w x ≡ true)
    by among (inl near) = elim (rw near at h) [
      | inl e ↦ (inl e, subst (λ v. entries_clash v x ≡ true) e (and_parts _ _ near).0)
      | inr k ↦ (inr (among k).0, (among k).1)
    ]
    by among (inr far) = let k : Has (nearest x front) w = rw far at h in (inr (among k).0, (among k).1)

-- a neighbour of an entry that waits does wait
pub neighbour_waits : (waiting : List Waiting) → HasDistinctSlots waiting → (w n : Waiting) → Has waiting w → Has (neighbours waiting w.slot) n → Has waiting n
neighbour_waits waiting distinct w n h k =
    let s : Spot waiting w = spot waiting w h in
    subst (λ l. Has l n) (sym s.is) (has_longer s.front (w ∷ s.rest) n (nearest_clash w s.front n (subst (λ l. Has l n) (neighbours_split waiting s.front w s.rest distinct s.is) k)).0)

nearest_onward : (x a : Waiting) (front : List Waiting) (w : Waiting) → Has (nearest x front) w → Has (nearest x (a ∷ front)) w
nearest_onward x a front w h = by (cases_Bool (is_near x a front))
  where
    by : (is_near x a front ≡ true) ⊎ (is_near x a front ≡ false) → Has (nearest x (a ∷ front)) w
    by (inl near) = rw near (inr h)
    by (inr far) = rw far h

pub nearest_of : (x : Waiting) (front : List Waiting) (i : Waiting) (rest : List Waiting) → entries_clash i x ≡ true → is_parted i x rest ≡ false
    → Has (nearest x (front ++ i ∷ rest)) i
nearest_of x [] i rest c none = rw (c, none) (inl refl)
nearest_of x (a ∷ front) i rest c none = nearest_onward x a (front ++ i ∷ rest) i (nearest_of x front i rest c none)

-- i is a neighbour of the entry j
abbrev pub IsNeighbour : List Waiting → Waiting → Waiting → Type 0
IsNeighbour waiting i j = Has waiting j × Has (neighbours waiting j.slot) i

module _ (waiting : List Waiting) (distinct : HasDistinctSlots waiting) where
  -- a chain of neighbours leads from each entry to each later one that it clashes with, where fewer than n stand between
  abbrev Chains : ℕ → Type 0
  Chains n = (front between rest : List Waiting) (i j : Waiting) → length between < n → waiting ≡ front ++ i ∷ (between ++ j ∷ rest) → entries_clash i j ≡ true → Chain (IsNeighbour waiting) i j

  longer_chains : (n : ℕ) → Chains n → Chains (suc n)
  longer_chains n shorter front between rest i j few is c = by (cases_Bool (is_parted i j between))
    where
      as_front : waiting ≡ front ++ i ∷ between ++ j ∷ rest
      as_front = is ∙ sym (append_assoc front (i ∷ between) (j ∷ rest))

      there : Has waiting j
      there = subst (λ l. Has l j) (sym as_front) (has_middle (front ++ i ∷ between) j rest)

      through : (m : Waiting) → entries_clash i m ≡ true → entries_clash m j ≡ true → Spot between m → Chain (IsNeighbour waiting) i j
      through m a b s = chain_join
          (shorter front s.front (s.rest ++ j ∷ rest) i m (less s.front s.rest (ap length s.is)) (is ∙ ap (λ l. front ++ i ∷ l) first_part) a)
          (shorter (front ++ i ∷ s.front) s.rest rest m j (less_too s.front s.rest (ap length s.is)) (is ∙ ap (λ l. front ++ i ∷ l) first_part ∙ sym (append_assoc front (i ∷ s.front) (m ∷ (s.rest ++ j ∷ rest)))) b)
        where
          first_part : between ++ j ∷ rest ≡ s.front ++ m ∷ (s.rest ++ j ∷ rest)
          first_part = ap (λ l. l ++ j ∷ rest) s.is ∙ append_assoc s.front (m ∷ s.rest) (j ∷ rest)

          less : (xs ys : List Waiting) → length between ≡ length (xs ++ m ∷ ys) → length xs < n
          less xs ys e = grind (arith, length-append xs (m ∷ ys), e, few)

          less_too : (xs ys : List Waiting) → length between ≡ length (xs ++ m ∷ ys) → length ys < n
          less_too xs ys e = grind (arith, length-append xs (m ∷ ys), e, few)

      by : (is_parted i j between ≡ true) ⊎ (is_parted i j between ≡ false) → Chain (IsNeighbour waiting) i j
      by (inl some) =
          let r : (m : Waiting) × Has between m × ((entries_clash i m && entries_clash m j) ≡ true) = any_get _ between (any_of_test (λ m. entries_clash i m && entries_clash m j) between some) in
          let both : (entries_clash i r.0 ≡ true) × (entries_clash r.0 j ≡ true) = and_parts _ _ r.2 in
          through r.0 both.0 both.1 (spot between r.0 r.1)
      by (inr none) = chain_step (there, subst (λ l. Has l i) (sym (neighbours_split waiting (front ++ i ∷ between) j rest distinct as_front)) (nearest_of j front i between c none))

  chains : (n : ℕ) → Chains n
  chains zero front between rest i j few is c = absurd (omega (arith, few))
  chains (suc n) front between rest i j few is c = longer_chains n (λ f b r x y lt e d. chains n f b r x y lt e d) front between rest i j few is c

  pub chain_of_clash : (front between rest : List Waiting) (i j : Waiting) → waiting ≡ front ++ i ∷ (between ++ j ∷ rest) → entries_clash i j ≡ true → Chain (IsNeighbour waiting) i j
  chain_of_clash front between rest i j is c = chains (suc (length between)) front between rest i j (omega arith) is c
