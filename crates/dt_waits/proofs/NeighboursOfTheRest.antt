-- What is taken out of the queues together changes no neighbours of what stays but that they lack what was taken out, if
-- whatever stands before something that is taken out and clashes with it is taken out too. Not so where one entry is taken
-- out after the other: of three Writes of a row, the first is no neighbour of the third, but becomes one when the second is
-- taken out before it.
use Rattle.std.proofs.Common.{◌≡◌, ◌⊎◌, ◌∙◌, Bool, true, false, List, [], ◌∷◌, ◌++◌, filter, refl, sym, ap, subst, inl, inr}
use Rattle.std.proofs.lemmas.Bool.{cases_Bool}
use Rattle.std.proofs.lemmas.List.{append_assoc}
use Rattle.std.proofs.lemmas.List.Elements.{filter-append}
use Rattle.dt_lists.specs.Lists.{AllIn, Has, EachThen}
use Rattle.dt_lists.proofs.Callers.{filter_each, each_append_left, Spot, spot}
use Rattle.dt_queue.specs.Queues.{Waiting, HasDistinctSlots, entries_clash, nearest, neighbours}
use Rattle.dt_waits.proofs.NeighbourChains.{is_parted, is_near, neighbours_split}

-- what stands after an entry that is kept, and clashes with it, is kept too
abbrev pub KeepsLater : (Waiting → Bool) → List Waiting → Type 0
KeepsLater keep waiting = EachThen (λ v w. entries_clash v w ≡ true → keep v ≡ true → keep w ≡ true) waiting

module _ (keep : Waiting → Bool) where
  -- whether an entry is parted from x by those that are kept, where it is kept itself
  parted_kept : (a x : Waiting) (between : List Waiting) → keep a ≡ true → AllIn (λ m. entries_clash a m ≡ true → keep a ≡ true → keep m ≡ true) between
      → is_parted a x (filter keep between) ≡ is_parted a x between
  parted_kept a x [] k all = refl
  parted_kept a x (m ∷ between) k all = by (parted_kept a x between k all.1) (cases_Bool (keep m)) (cases_Bool (entries_clash a m))
    where
      by : is_parted a x (filter keep between) ≡ is_parted a x between → (keep m ≡ true) ⊎ (keep m ≡ false) → (entries_clash a m ≡ true) ⊎ (entries_clash a m ≡ false)
          → is_parted a x (filter keep (m ∷ between)) ≡ is_parted a x (m ∷ between)
      by rest (inl kept) c = rw (kept, rest) refl
      by rest (inr gone) (inl c) = let e : keep m ≡ true = all.0 c k in cc
      by rest (inr gone) (inr c) = rw (gone, c) rest

  pub nearest_kept : (x : Waiting) (front : List Waiting) → KeepsLater keep front → nearest x (filter keep front) ≡ filter keep (nearest x front)
  nearest_kept x [] later = refl
  nearest_kept x (a ∷ front) later = by (nearest_kept x front later.1) (cases_Bool (keep a)) (cases_Bool (is_near x a front))
    where
      by : nearest x (filter keep front) ≡ filter keep (nearest x front) → (keep a ≡ true) ⊎ (keep a ≡ false) → (is_near x a front ≡ true) ⊎ (is_near x a front ≡ false)
          → nearest x (filter keep (a ∷ front)) ≡ filter keep (nearest x (a ∷ front))
      by rest (inl kept) (inl near) = rw (kept, parted_kept a x front kept later.0, near, kept, rest) refl
      by rest (inl kept) (inr far) = rw (kept, parted_kept a x front kept later.0, far) rest
      by rest (inr gone) (inl near) = rw (gone, near, gone) rest
      by rest (inr gone) (inr far) = rw (gone, far) rest

  -- the neighbours of an entry that is kept, among those that are kept
  pub neighbours_kept : (waiting : List Waiting) (j : Waiting) → HasDistinctSlots waiting → KeepsLater keep waiting → Has waiting j → keep j ≡ true
      → neighbours (filter keep waiting) j.slot ≡ filter keep (neighbours waiting j.slot)
  neighbours_kept waiting j distinct later h kept =
      neighbours_split (filter keep waiting) (filter keep s.front) j (filter keep s.rest) (filter_each _ keep waiting distinct) split
      ∙ nearest_kept j s.front (each_append_left _ s.front (j ∷ s.rest) (subst (KeepsLater keep) s.is later))
      ∙ ap (filter keep) (sym (neighbours_split waiting s.front j s.rest distinct s.is))
    where
      s : Spot waiting j
      s = spot waiting j h

      split : filter keep waiting ≡ filter keep s.front ++ j ∷ filter keep s.rest
      split = ap (filter keep) s.is ∙ filter-append keep s.front (j ∷ s.rest) ∙ rw kept refl

-- what is pushed later changes no neighbours of what waited
pub neighbours_pushed : (waiting more : List Waiting) (j : Waiting) → HasDistinctSlots (waiting ++ more) → Has waiting j → neighbours (waiting ++ more) j.slot ≡ neighbours waiting j.slot
neighbours_pushed waiting more j distinct h =
    neighbours_split (waiting ++ more) s.front j (s.rest ++ more) distinct (ap (λ l. l ++ more) s.is ∙ append_assoc s.front (j ∷ s.rest) more)
    ∙ sym (neighbours_split waiting s.front j s.rest (each_append_left _ waiting more distinct) s.is)
  where
    s : Spot waiting j
    s = spot waiting j h
