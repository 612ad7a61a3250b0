-- Sets of numbers below a bound: there are at most as many as the bound, and each kept right stays so when a number is put in
-- or taken out.
use Rattle.std.proofs.Common.{◌≡◌, ◌≢◌, ◌+◌, ◌<◌, ◌≤◌, ◌^◌, ◌⊎◌, ◌∙◌, ℕ, zero, suc, List, [], ◌∷◌, ◌++◌, length, get_or, set, slice_get, Option}
use Rattle.std.proofs.Common.{None, Some, refl, sym, ap, subst, inl, inr, arith}
use Rattle.std.proofs.lemmas.List.{get_or-set_same, get_or-set_other, length-append, length-set}
use Rattle.std.proofs.Math.ListN.{get_or-append}
use Rattle.std.proofs.lemmas.Option.{slice_get_within}
use Rattle.dt_lists.specs.Lists.{AllIn, Has, Distinct}
use Rattle.dt_lists.proofs.Callers.{all_append, all_append_left, all_get, all_map, all_put, distinct_push, each_append_left, each_across, either_nat, has_last, has_longer, has_more}
use Rattle.dt_lists.proofs.Callers.{all_set, few_below, has_place, last_place, one_place, place_in_longer, place_in_more, place_of, set_beside, set_here, some_same}
use Rattle.dt_graph.specs.SubsetInner.{PutsIn, StandsAtPlace, IsSubset, Removes}

-- distinct numbers below a bound are fewer than that where one is missing
pub fewer_below : (n : ℕ) (xs : List ℕ) (v : ℕ) → Distinct xs → AllIn (λ u. u < n) xs → v < n → ¬ (Has xs v) → length xs < n
fewer_below n xs v d within lt absent = more (length xs) (few_below n (v ∷ xs) (all_put _ xs (λ u h e. absent (subst (Has xs) (sym e) h)), d) (lt, within))
  where
    more : (m : ℕ) → suc m ≤ n → m < n
    more m le = omega (arith, le)

-- lists in which one item is replaced

distinct_set : (xs : List ℕ) (i y : ℕ) → Distinct xs → ¬ (Has xs y) → Distinct (set xs i y)
distinct_set [] i y d n = tt
distinct_set (x ∷ xs) zero y d n = (all_put _ xs (λ u h e. n (inr (subst (Has xs) (sym e) h))), d.1)
distinct_set (x ∷ xs) (suc i) y d n = (all_set _ xs i y d.0 (λ e. n (inl e)), distinct_set xs i y d.1 (λ h. n (inr h)))

-- what stands in it is the new item, or stood elsewhere
set_has : {A : Type 0} (xs : List A) (i : ℕ) (y z : A) → Has (set xs i y) z → (y ≡ z) ⊎ (j : ℕ) × (j ≢ i) × (slice_get xs j ≡ Some z)
set_has [] i y z h = absurd h
set_has (x ∷ xs) zero y z (inl e) = inl e
set_has (x ∷ xs) zero y z (inr h) = let p : (j : ℕ) × (slice_get xs j ≡ Some z) = place_of xs z h in inr (suc p.0, apart p.0, p.1)
  where
    apart : (j : ℕ) → suc j ≢ zero
    apart j e = omega (arith, e)
set_has (x ∷ xs) (suc i) y z (inl e) = inr (zero, apart, ap Some e)
  where
    apart : zero ≢ suc i
    apart e = omega (arith, e)
set_has (x ∷ xs) (suc i) y z (inr h) = elim (set_has xs i y z h) [ inl e ↦ inl e | inr r ↦ inr (suc r.0, (λ e. r.1 (same r.0 e)), r.2) ]
  where
    same : (j : ℕ) → suc j ≡ suc i → j ≡ i
    same j e = omega (arith, e)

-- more room serves as well
pub subset_room : (items : List ℕ) (places : List (Option ℕ)) (less more : ℕ) → less ≤ more → IsSubset items places less → IsSubset items places more
subset_room items places less more le s = record { few = s.few; fits = join _ _ _ s.fits le; once = s.once; within = s.within; narrow = s.narrow; placed = s.placed }
  where
    join : (a b c : ℕ) → a ≤ b → b ≤ c → a ≤ c
    join a b c e f = omega (arith, e, f)

-- a higher bound by one
pub subset_reached : (items : List ℕ) (places : List (Option ℕ)) (less more : ℕ) → IsSubset items places less → length places + 1 < 2 ^ 32 → length places + 1 ≤ more → IsSubset items (places ++ None ∷ []) more
subset_reached items places less more s few le = record {
  few = subst (λ n. n < 2 ^ 32) (sym (length-append places (None ∷ []))) few;
  fits = subst (λ n. n ≤ more) (sym (length-append places (None ∷ []))) le;
  once = s.once;
  within = all_map _ _ items (λ v lt. subst (λ n. v < n) (sym (length-append places (None ∷ []))) (grown v lt)) s.within;
  narrow = s.narrow;
  placed = λ v lt. at v (subst (λ n. v < n) (length-append places (None ∷ [])) lt) (either_nat v (length places));
}
  where
    grown : (v : ℕ) → v < length places → v < length places + 1
    grown v lt = omega (arith, lt)

    at : (v : ℕ) → v < length places + 1 → (v ≡ length places) ⊎ ¬ (v ≡ length places) → StandsAtPlace items v (get_or (places ++ None ∷ []) v None)
    at v lt (inl e) = subst (λ v. StandsAtPlace items v (get_or (places ++ None ∷ []) v None)) (sym e) (subst (StandsAtPlace items (length places)) (sym (get_seam_or places)) (λ h. above (all_get _ items s.within (length places) h)))
      where
        above : length places < length places → ⊥
        above lt = omega (arith, lt)

        get_seam_or : (ps : List (Option ℕ)) → get_or (ps ++ None ∷ []) (length ps) None ≡ None
        get_seam_or [] = refl
        get_seam_or (p ∷ ps) = get_seam_or ps
    at v lt (inr ne) = subst (StandsAtPlace items v) (sym (get_or-append places (None ∷ []) None v (below_it v lt ne))) (s.placed v (below_it v lt ne))
      where
        below_it : (v : ℕ) → v < length places + 1 → ¬ (v ≡ length places) → v < length places
        below_it v lt ne = grind (arith, lt, ne)

module _ (items : List ℕ) (places : List (Option ℕ)) (room : ℕ) (s : IsSubset items places room) (number : ℕ) (lt : number < length places) where
  -- whether a number is one of them is seen by its place

  pub placed_has : (place : ℕ) → get_or places number None ≡ Some place → Has items number
  placed_has place e = has_place items place number (subst (StandsAtPlace items number) e (s.placed number lt))

  pub unplaced_absent : get_or places number None ≡ None → ¬ (Has items number)
  unplaced_absent e = subst (StandsAtPlace items number) e (s.placed number lt)

  -- and the other way round

  pub absent_unplaced : ¬ (Has items number) → get_or places number None ≡ None
  absent_unplaced n = by (get_or places number None) refl
    where
      by : (place : Option ℕ) → get_or places number None ≡ place → place ≡ None
      by None e = refl
      by (Some p) e = absurd (n (placed_has p e))

  pub has_placed : Has items number → (place : ℕ) × (get_or places number None ≡ Some place)
  has_placed h = by (get_or places number None) refl
    where
      by : (place : Option ℕ) → get_or places number None ≡ place → (p : ℕ) × (place ≡ Some p)
      by None e = absurd (unplaced_absent e h)
      by (Some p) e = (p, refl)

  -- a number is put in, for which there is room

  pub room_for : get_or places number None ≡ None → length items < room
  room_for e = less _ _ _ (fewer_below (length places) items number s.once s.within lt (unplaced_absent e)) s.fits
    where
      less : (a b c : ℕ) → a < b → b ≤ c → a < c
      less a b c e f = omega (arith, e, f)

  -- its place is below the bound, as all numbers are
  pub place_fits : get_or places number None ≡ None → length items + 1 < 2 ^ 32
  place_fits e = less _ _ (fewer_below (length places) items number s.once s.within lt (unplaced_absent e)) s.few
    where
      less : (a b : ℕ) → a < b → b < 2 ^ 32 → a + 1 < 2 ^ 32
      less a b e f = omega (arith, e, f)

  pub subset_added : number < 2 ^ 32 → get_or places number None ≡ None → IsSubset (items ++ number ∷ []) (set places number (Some (length items))) room
  subset_added small e = record {
    few = subst (λ n. n < 2 ^ 32) (sym (length-set places number (Some (length items)))) s.few;
    fits = subst (λ n. n ≤ room) (sym (length-set places number (Some (length items)))) s.fits;
    once = distinct_push items number s.once (unplaced_absent e);
    within = subst (λ n. AllIn (λ v. v < n) (items ++ number ∷ [])) (sym (length-set places number (Some (length items)))) (all_append _ items (number ∷ []) s.within (lt, tt));
    narrow = all_append _ items (number ∷ []) s.narrow (small, tt);
    placed = λ n ln. at n (subst (λ m. n < m) (length-set places number (Some (length items))) ln) (either_nat n number);
  }
    where
      longer : (n : ℕ) → n ≢ number → (place : Option ℕ) → StandsAtPlace items n place → StandsAtPlace (items ++ number ∷ []) n place
      longer n ne None p = λ h. elim (has_more items number n h) [ inl o ↦ p o | inr f ↦ ne (sym f) ]
      longer n ne (Some place) p = place_in_longer items (number ∷ []) place n p

      at : (n : ℕ) → n < length places → (n ≡ number) ⊎ ¬ (n ≡ number) → StandsAtPlace (items ++ number ∷ []) n (get_or (set places number (Some (length items))) n None)
      at n ln (inl f) = subst (λ n. StandsAtPlace (items ++ number ∷ []) n (get_or (set places number (Some (length items))) n None)) (sym f)
          (subst (StandsAtPlace (items ++ number ∷ []) number) (sym (get_or-set_same places number (Some (length items)) None lt)) (last_place items number))
      at n ln (inr ne) = subst (StandsAtPlace (items ++ number ∷ []) n) (sym (get_or-set_other places number n (Some (length items)) None ne)) (longer n ne (get_or places n None) (s.placed n ln))

  pub added : PutsIn number items (items ++ number ∷ [])
  added n = (
    λ h. elim (has_more items number n h) [ inl o ↦ inl o | inr e ↦ inr (sym e) ],
    λ o. elim o [ inl h ↦ has_longer items (number ∷ []) n h | inr e ↦ subst (Has (items ++ number ∷ [])) (sym e) (has_last items number) ],
  )

  -- a number is taken out that was the last one
  module _ (front : List ℕ) (is : items ≡ front ++ number ∷ []) where
    once_front : Distinct (front ++ number ∷ [])
    once_front = subst Distinct is s.once

    absent_front : ¬ (Has front number)
    absent_front h = each_across _ front (number ∷ []) number number once_front h (inl refl) refl

    pub subset_removed_last : IsSubset front (set places number None) room
    subset_removed_last = record {
      few = subst (λ n. n < 2 ^ 32) (sym (length-set places number None)) s.few;
      fits = subst (λ n. n ≤ room) (sym (length-set places number None)) s.fits;
      once = each_append_left _ front (number ∷ []) once_front;
      within = subst (λ n. AllIn (λ v. v < n) front) (sym (length-set places number None)) (all_append_left _ front (number ∷ []) (subst (AllIn (λ v. v < length places)) is s.within));
      narrow = all_append_left _ front (number ∷ []) (subst (AllIn (λ v. v < 2 ^ 32)) is s.narrow);
      placed = λ n ln. at n (subst (λ m. n < m) (length-set places number None) ln) (either_nat n number);
    }
      where
        shorter : (n : ℕ) → n ≢ number → (place : Option ℕ) → StandsAtPlace (front ++ number ∷ []) n place → StandsAtPlace front n place
        shorter n ne None p = λ h. p (has_longer front (number ∷ []) n h)
        shorter n ne (Some place) p = elim (place_in_more front number place n p) [ inl o ↦ o | inr f ↦ absurd (ne (sym f.1)) ]

        at : (n : ℕ) → n < length places → (n ≡ number) ⊎ ¬ (n ≡ number) → StandsAtPlace front n (get_or (set places number None) n None)
        at n ln (inl f) = subst (λ n. StandsAtPlace front n (get_or (set places number None) n None)) (sym f) (subst (StandsAtPlace front number) (sym (get_or-set_same places number None None lt)) absent_front)
        at n ln (inr ne) = subst (StandsAtPlace front n) (sym (get_or-set_other places number n None None ne)) (shorter n ne (get_or places n None) (subst (λ l. StandsAtPlace l n (get_or places n None)) is (s.placed n ln)))

    pub removed_last : Removes number items front
    removed_last n = (
      λ h. (subst (λ l. Has l n) (sym is) (has_longer front (number ∷ []) n h), λ e. absent_front (subst (Has front) e h)),
      λ o. elim (has_more front number n (subst (λ l. Has l n) is o.0)) [ inl h ↦ h | inr e ↦ absurd (o.1 (sym e)) ],
    )

  -- a number is taken out, and the last one put in its place
  module _ (front : List ℕ) (last place : ℕ) (is : items ≡ front ++ last ∷ []) (other : last ≢ number) (at_place : get_or places number None ≡ Some place) where
    once_all : Distinct (front ++ last ∷ [])
    once_all = subst Distinct is s.once

    pub at_front : slice_get front place ≡ Some number
    at_front = elim (place_in_more front last place number (subst (λ l. slice_get l place ≡ Some number) is (subst (StandsAtPlace items number) at_place (s.placed number lt)))) [ inl o ↦ o | inr f ↦ absurd (other f.1) ]

    once_in_front : Distinct front
    once_in_front = each_append_left _ front (last ∷ []) once_all

    last_absent : ¬ (Has front last)
    last_absent h = each_across _ front (last ∷ []) last last once_all h (inl refl) refl

    narrow_all : AllIn (λ v. v < 2 ^ 32) (front ++ last ∷ [])
    narrow_all = subst (AllIn (λ v. v < 2 ^ 32)) is s.narrow

    pub last_within : last < length places
    last_within = all_get _ items s.within last (subst (λ l. Has l last) (sym is) (has_last front last))

    number_gone : ¬ (Has (set front place last) number)
    number_gone h = elim (set_has front place last number h) [ inl e ↦ other e | inr r ↦ r.1 (one_place front r.0 place number once_in_front r.2 at_front) ]

    pub subset_removed : IsSubset (set front place last) (set (set places last (Some place)) number None) room
    subset_removed = record {
      few = subst (λ n. n < 2 ^ 32) (sym size) s.few;
      fits = subst (λ n. n ≤ room) (sym size) s.fits;
      once = distinct_set front place last once_in_front last_absent;
      within = subst (λ n. AllIn (λ v. v < n) (set front place last)) (sym size) (all_set _ front place last (all_append_left _ front (last ∷ []) (subst (AllIn (λ v. v < length places)) is s.within)) last_within);
      narrow = all_set _ front place last (all_append_left _ front (last ∷ []) narrow_all) (all_get _ (front ++ last ∷ []) narrow_all last (has_last front last));
      placed = λ n ln. at n (subst (λ m. n < m) size ln) (either_nat n number) (either_nat n last);
    }
      where
        -- the places afterwards
        now : List (Option ℕ)
        now = set (set places last (Some place)) number None

        size : length now ≡ length places
        size = length-set (set places last (Some place)) number None ∙ length-set places last (Some place)

        beside : (n : ℕ) → n ≢ number → n ≢ last → (p : Option ℕ) → StandsAtPlace (front ++ last ∷ []) n p → StandsAtPlace (set front place last) n p
        beside n ne nl None p = λ h. elim (set_has front place last n h) [
          | inl e ↦ nl (sym e)
          | inr r ↦ p (has_longer front (last ∷ []) n (has_place front r.0 n r.2))
        ]
        beside n ne nl (Some q) p = set_beside front place q last (λ e. ne (some_same (sym in_front ∙ ap (slice_get front) e ∙ at_front))) ∙ in_front
          where
            in_front : slice_get front q ≡ Some n
            in_front = elim (place_in_more front last q n p) [ inl o ↦ o | inr f ↦ absurd (nl (sym f.1)) ]

        at : (n : ℕ) → n < length places → (n ≡ number) ⊎ ¬ (n ≡ number) → (n ≡ last) ⊎ ¬ (n ≡ last) → StandsAtPlace (set front place last) n (get_or now n None)
        at n ln (inl f) l = subst (λ n. StandsAtPlace (set front place last) n (get_or now n None)) (sym f)
            (subst (StandsAtPlace (set front place last) number) (sym (get_or-set_same (set places last (Some place)) number None None (subst (λ m. number < m) (sym (length-set places last (Some place))) lt))) number_gone)
        at n ln (inr ne) (inl l) = subst (StandsAtPlace (set front place last) n) (sym (get_or-set_other (set places last (Some place)) number n None None ne))
            (subst (λ n. StandsAtPlace (set front place last) n (get_or (set places last (Some place)) n None)) (sym l)
            (subst (StandsAtPlace (set front place last) last) (sym (get_or-set_same places last (Some place) None last_within)) (set_here front place last (slice_get_within front place number at_front))))
        at n ln (inr ne) (inr nl) = subst (StandsAtPlace (set front place last) n) (sym (get_or-set_other (set places last (Some place)) number n None None ne ∙ get_or-set_other places last n (Some place) None nl))
            (beside n ne nl (get_or places n None) (subst (λ l. StandsAtPlace l n (get_or places n None)) is (s.placed n ln)))

    pub removed : Removes number items (set front place last)
    removed n = (
      λ h. (
        elim (set_has front place last n h) [
          | inl e ↦ subst (λ l. Has l n) (sym is) (subst (Has (front ++ last ∷ [])) e (has_last front last))
          | inr r ↦ subst (λ l. Has l n) (sym is) (has_longer front (last ∷ []) n (has_place front r.0 n r.2))
        ],
        λ e. number_gone (subst (Has (set front place last)) e h),
      ),
      λ o. elim (has_more front last n (subst (λ l. Has l n) is o.0)) [
        | inl h ↦
            let p : (i : ℕ) × (slice_get front i ≡ Some n) = place_of front n h in
            has_place (set front place last) p.0 n (set_beside front place p.0 last (λ e. o.1 (some_same (sym p.1 ∙ ap (slice_get front) e ∙ at_front))) ∙ p.1)
        | inr e ↦ subst (Has (set front place last)) e (has_place (set front place last) place last (set_here front place last (slice_get_within front place number at_front)))
      ],
    )
