-- Logs of listings: where searches in them end, what they give between two pushes, and how they change.
use Rattle.std.proofs.Common.{◌≡◌, ◌≢◌, ◌⊎◌, ℕ, zero, suc, ◌<◌, ◌≤◌, ◌&&◌, Bool, true, false, nat_le, nat_lt, cond, if◌then◌else◌, List, []}
use Rattle.std.proofs.Common.{◌∷◌, ◌++◌, length, map, take, drop, slice_index_or, refl, ap, sym, subst, inl, inr, arith, ◌∙◌}
use Rattle.std.specs.List.{filter}
use Rattle.std.specs.List.Sorted.{IsNonDecreasingBy, IsPartitionPoint}
use Rattle.std.proofs.lemmas.List.{append-nil, take-append-drop}
use Rattle.std.proofs.lemmas.List.Elements.{filter-append}
use Rattle.std.proofs.lemmas.Bool.{and_from, and_parts}
use Rattle.dt_lists.specs.Lists.{AllIn, Distinct, EachThen, Has}
use Rattle.dt_lists.proofs.Callers.{all_get, all_map, all_put, any_append, any_append_left, any_append_right, any_get, any_map, any_of_image, any_put, each_append, either_nat, filter_each, filter_none, filter_whole}
use Rattle.dt_lists.proofs.Callers.{has_filter, has_map, has_of_filtered, of_filter}
use Rattle.dt_queue.specs.declared.mark.Mark.{Mark}
use Rattle.dt_queue.specs.declared.listing.Listing.{Listing}
use Rattle.dt_queue.specs.declared.listed.ListedRows.{ListedRows}
use Rattle.dt_queue.specs.ListedInner.{AppendsListing, AreLogged, Forgets, IsListedBy, IsListedRow, SameListings, Tidies, is_later, is_numbered, is_oldest, is_used, last_listing, listings_at, rows_between, rows_of_oldest, since, stays}

-- ---- where searches end

pub parts_at : {A : Type 0} (p : A → Bool) (xs : List A) (i : ℕ) → IsPartitionPoint (λ y. p y ≡ true) (λ y. p y ≡ false) xs i → i ≤ length xs
    → AllIn (λ y. p y ≡ true) (take i xs) × AllIn (λ y. p y ≡ false) (drop i xs)
parts_at p [] zero ends le = (tt, tt)
parts_at p [] (suc i) ends le = absurd (omega (arith, le))
parts_at p (x ∷ xs) zero ends le =
    let rest = parts_at p xs zero ((λ k d lo hi. absurd (omega arith)), (λ k d lo hi. ends.1 (suc k) d (omega arith) (omega arith))) (omega arith) in
    (tt, (ends.1 0 x (omega arith) (omega arith), rest.1))
parts_at p (x ∷ xs) (suc i) ends le =
    let rest = parts_at p xs i ((λ k d lo hi. ends.0 (suc k) d (omega arith) (omega arith)), (λ k d lo hi. ends.1 (suc k) d (omega arith) (omega arith))) (omega (arith, le)) in
    ((ends.0 0 x (omega arith) (omega arith), rest.0), rest.1)

-- numbers that do not fall, by their places
pub not_falling : (xs : List Listing) → EachThen (λ a b. a.number ≤ b.number) xs → IsNonDecreasingBy (λ a. a.number) xs
not_falling [] e i j d le lt = absurd (omega (arith, lt))
not_falling (x ∷ xs) e zero zero d le lt = omega arith
not_falling (x ∷ xs) e zero (suc j) d le lt = first xs j d e.0 (omega (arith, lt))
  where
    first : (ys : List Listing) (j : ℕ) (d : Listing) → AllIn (λ b. x.number ≤ b.number) ys → j < length ys → x.number ≤ (slice_index_or ys j d).number
    first [] j d all lt = absurd (omega (arith, lt))
    first (y ∷ ys) zero d all lt = all.0
    first (y ∷ ys) (suc j) d all lt = first ys j d all.1 (omega (arith, lt))
not_falling (x ∷ xs) e (suc i) zero d le lt = absurd (omega (arith, le))
not_falling (x ∷ xs) e (suc i) (suc j) d le lt = not_falling xs e.1 i j d (omega (arith, le)) (omega (arith, lt))

-- what follows the place where the numbers up to a number end
pub later_from : (xs : List Listing) (low i : ℕ) → AllIn (λ a. nat_le a.number low ≡ true) (take i xs) → AllIn (λ a. nat_le a.number low ≡ false) (drop i xs) → drop i xs ≡ filter (is_later low) xs
later_from xs low i front back =
    sym (ap (filter (is_later low)) (sym (take-append-drop i xs)) ∙ filter-append (is_later low) (take i xs) (drop i xs)
    ∙ ap (λ l. l ++ filter (is_later low) (drop i xs)) (filter_none (is_later low) (take i xs) (all_map _ (λ a. is_later low a ≡ false) (take i xs) (λ a e. no a e) front))
    ∙ filter_whole (is_later low) (drop i xs) (all_map _ (λ a. is_later low a ≡ true) (drop i xs) (λ a e. yes a e) back))
  where
    no : (a : Listing) → nat_le a.number low ≡ true → nat_lt low a.number ≡ false
    no a e = grind (arith, e)

    yes : (a : Listing) → nat_le a.number low ≡ false → nat_lt low a.number ≡ true
    yes a e = grind (arith, e)

-- what lies between two numbers is what is later than the one and earlier than the other
both : (low high : ℕ) (ys : List Listing) → filter (is_numbered low high) ys ≡ filter (λ a. nat_lt a.number high) (filter (is_later low) ys)
both low high [] = refl
both low high (y ∷ ys) = by (is_later low y) refl (both low high ys)
  where
    below : Listing → Bool
    below a = nat_lt a.number high

    by : (t : Bool) → is_later low y ≡ t → filter (is_numbered low high) ys ≡ filter below (filter (is_later low) ys)
        → filter (is_numbered low high) (y ∷ ys) ≡ filter below (cond t (y ∷ filter (is_later low) ys) (filter (is_later low) ys))
    by true e rest = subst (λ t. cond (t && below y) (y ∷ filter (is_numbered low high) ys) (filter (is_numbered low high) ys)
        ≡ cond (below y) (y ∷ filter below (filter (is_later low) ys)) (filter below (filter (is_later low) ys))) (sym e)
        (ap (λ l. cond (below y) (y ∷ l) l) rest)
    by false e rest = subst (λ t. cond (t && below y) (y ∷ filter (is_numbered low high) ys) (filter (is_numbered low high) ys) ≡ filter below (filter (is_later low) ys)) (sym e) rest

-- and of that, what stands before the place where the numbers below another end
pub numbered_to : (xs : List Listing) (low high i : ℕ) → AllIn (λ a. nat_lt a.number high ≡ true) (take i (filter (is_later low) xs)) → AllIn (λ a. nat_lt a.number high ≡ false) (drop i (filter (is_later low) xs))
    → take i (filter (is_later low) xs) ≡ filter (is_numbered low high) xs
numbered_to xs low high i front back =
    sym (both low high xs ∙ ap (filter below) (sym (take-append-drop i later)) ∙ filter-append below (take i later) (drop i later)
    ∙ ap (λ l. filter below (take i later) ++ l) (filter_none below (drop i later) back) ∙ append-nil (filter below (take i later)) ∙ filter_whole below (take i later) front)
  where
    below : Listing → Bool
    below a = nat_lt a.number high

    later : List Listing
    later = filter (is_later low) xs

-- ---- what is found between two pushes

-- of listings after a number, each with an oldest one up to it, no two are of one row
distinct_rows : (low : ℕ) (log : List Listing) → EachThen (λ a b. a.row ≡ b.row → a.number ≤ b.before) log → AllIn (λ a. (a.before ≤ low) × (low < a.number)) log → Distinct (map (λ a. a.row) log)
distinct_rows low [] chained all = tt
distinct_rows low (a ∷ log) chained all = (head log chained.0 all.1, distinct_rows low log chained.1 all.1)
  where
    head : (bs : List Listing) → AllIn (λ b. a.row ≡ b.row → a.number ≤ b.before) bs → AllIn (λ b. (b.before ≤ low) × (low < b.number)) bs → AllIn (λ r. ¬ (a.row ≡ r)) (map (λ b. b.row) bs)
    head [] c f = tt
    head (b ∷ bs) c f = ((λ e. omega (arith, c.0 e, f.0.0, all.0.1)), head bs c.1 f.1)

oldest_to : (low : ℕ) (a : Listing) → is_oldest low a ≡ true → a.before ≤ low
oldest_to low a e = grind (arith, e)

is_oldest_to : (low : ℕ) (a : Listing) → a.before ≤ low → is_oldest low a ≡ true
is_oldest_to low a le = grind (arith, le)

oldest_once : (low : ℕ) (log : List Listing) → EachThen (λ a b. a.row ≡ b.row → a.number ≤ b.before) log → AllIn (λ a. low < a.number) log → Distinct (rows_of_oldest low log)
oldest_once low log chained all =
    distinct_rows low (filter (is_oldest low) log) (filter_each _ (is_oldest low) log chained)
    (all_map _ (λ a. (a.before ≤ low) × (low < a.number)) (filter (is_oldest low) log) (λ a b. (oldest_to low a b.1, all_get (λ x. low < x.number) log all a b.0)) (of_filter (is_oldest low) log))

pub once_between : (l : ListedRows) → AreLogged l → (g low high : ℕ) → Distinct (rows_between l g low high)
once_between l logged g low high = by l.exact
  where
    by : (t : Bool) → Distinct (rows_of_oldest (if t then low else 0) (if t then filter (is_numbered low high) (listings_at l g) else listings_at l g))
    by true = oldest_once low (filter (is_numbered low high) (listings_at l g)) (filter_each _ (is_numbered low high) (listings_at l g) (logged.chained g))
        (all_map _ (λ a. low < a.number) (filter (is_numbered low high) (listings_at l g)) (λ a b. above a (and_parts _ _ b.1).0) (of_filter (is_numbered low high) (listings_at l g)))
      where
        above : (a : Listing) → nat_lt low a.number ≡ true → low < a.number
        above a e = grind (arith, e)
    by false = oldest_once 0 (listings_at l g) (logged.chained g) (all_map _ (λ a. 0 < a.number) (listings_at l g) (λ a b. omega (arith, b.0)) (logged.each g))

-- the rows that are found are listed
pub listed_between : (l : ListedRows) (g low high row : ℕ) → Has (rows_between l g low high) row → IsListedRow (listings_at l g) row
listed_between l g low high row = by l.exact (since l low)
  where
    by : (t : Bool) (n : ℕ) → Has (rows_of_oldest n (if t then filter (is_numbered low high) (listings_at l g) else listings_at l g)) row → IsListedRow (listings_at l g) row
    by t n h =
        let r = any_get (λ a. a.row ≡ row) (filter (is_oldest n) (list t)) (any_of_image (λ x. x ≡ row) (λ (a : Listing). a.row) (filter (is_oldest n) (list t)) h) in
        any_put (λ a. a.row ≡ row) (listings_at l g) r.0 (in_log t r.0 (has_of_filtered (is_oldest n) (list t) r.0 r.1).0) r.2
      where
        list : Bool → List Listing
        list t = if t then filter (is_numbered low high) (listings_at l g) else listings_at l g

        in_log : (t : Bool) (a : Listing) → Has (list t) a → Has (listings_at l g) a
        in_log true a h = (has_of_filtered (is_numbered low high) (listings_at l g) a h).0
        in_log false a h = h

-- the rows that are found between the two, where numbers of pushes tell of listings or not
abbrev rows_found : ListedRows → ℕ → ℕ → ℕ → Bool → List ℕ
rows_found l g low high exact = rows_of_oldest (if exact then low else 0) (if exact then filter (is_numbered low high) (listings_at l g) else listings_at l g)

-- the listing is one of the row and lies between the two, and older ones came before both
abbrev pub IsListingBetween : ListedRows → ℕ → ℕ → ℕ → Listing → Type 0
IsListingBetween l row low top a = (a.row ≡ row) × (a.before ≤ low) × (low < a.number) × (l.exact ≡ true → a.number ≤ top)

-- a row with a listing between the two, the oldest after the first, is found
pub found_between : (l : ListedRows) (g low top high row : ℕ) → top < high → IsListedBy l g row (since l low) top → Has (rows_between l g low high) row
found_between l g low top high row lt b = by l.exact refl (any_get _ (listings_at l g) b)
  where
    by : (t : Bool) → l.exact ≡ t → ((a : Listing) × Has (listings_at l g) a × IsListingBetween l row (if l.exact then low else 0) top a) → Has (rows_found l g low high l.exact) row
    by true e (a, h, (is, old, late, most)) = subst (λ t. Has (rows_found l g low high t) row) (sym e)
        (subst (Has (rows_of_oldest low (filter (is_numbered low high) (listings_at l g)))) is
        (has_map (λ (x : Listing). x.row) (filter (is_oldest low) (filter (is_numbered low high) (listings_at l g))) a
        (has_filter (is_oldest low) (filter (is_numbered low high) (listings_at l g)) a (has_filter (is_numbered low high) (listings_at l g) a h (within low_late (most e)))
        (is_oldest_to low a (subst (λ t. a.before ≤ (if t then low else 0)) e old)))))
      where
        low_late : low < a.number
        low_late = subst (λ t. (if t then low else 0) < a.number) e late

        within : low < a.number → a.number ≤ top → is_numbered low high a ≡ true
        within m n = and_from (nat_lt low a.number) (nat_lt a.number high) (grind (arith, m)) (grind (arith, n, lt))
    by false e (a, h, (is, old, late, most)) = subst (λ t. Has (rows_found l g low high t) row) (sym e)
        (subst (Has (rows_of_oldest 0 (listings_at l g))) is
        (has_map (λ (x : Listing). x.row) (filter (is_oldest 0) (listings_at l g)) a
        (has_filter (is_oldest 0) (listings_at l g) a h (is_oldest_to 0 a (subst (λ t. a.before ≤ (if t then low else 0)) e old)))))

-- a listing that does this is a listing of the row
pub listed_row : (l : ListedRows) (g row low top : ℕ) → IsListedBy l g row low top → IsListedRow (listings_at l g) row
listed_row l g row low top b = any_map _ (λ a. a.row ≡ row) (listings_at l g) (λ a p. p.0) b

-- and so it is in another log that has these listings, and up to a greater number
pub listed_by : (l new : ListedRows) (g row low top more : ℕ) → ((a : Listing) → Has (listings_at l g) a → Has (listings_at new g) a) → (new.exact ≡ true → (l.exact ≡ true) × (top ≤ more))
    → IsListedBy l g row low top → IsListedBy new g row low more
listed_by l new g row low top more longer most b =
    let r = any_get _ (listings_at l g) b in
    any_put (IsListingBetween new row low more) (listings_at new g) r.0 (longer r.0 r.1)
    (r.2.0, r.2.1, r.2.2, λ e. let m = most e in omega (arith, r.2.3 m.0, m.1))

-- ---- how logs change

-- the listing is later than the one of its row before it, and no later than the last of its row
abbrev IsInTurn : ListedRows → Listing → Type 0
IsInTurn l a = (a.before < a.number) × (a.number ≤ last_listing l a.row)

pub same_logged : (l new : ListedRows) → AreLogged l → SameListings l new → AreLogged new
same_logged l new logged same = record {
  rising = λ e g. subst (EachThen (λ a b. a.number ≤ b.number)) (sym (same.logs g)) (logged.rising (sym same.exact ∙ e) g);
  chained = λ g. subst (EachThen (λ a b. a.row ≡ b.row → a.number ≤ b.before)) (sym (same.logs g)) (logged.chained g);
  each = λ g. subst (AllIn (IsInTurn new)) (sym (same.logs g))
      (all_map _ (IsInTurn new) (listings_at l g) (λ a b. (b.0, subst (λ n. a.number ≤ n) (sym (same.last a.row)) b.1)) (logged.each g));
}

module _ (l new : ListedRows) (logged : AreLogged l) (granule : ℕ) (a : Listing) (put : AppendsListing granule a l new) (older : a.before ≡ last_listing l a.row) (less : a.before < a.number)
    (latest : l.exact ≡ true → (row : ℕ) → last_listing l row ≤ a.number) where
  -- no last listing of a row has a lesser number than before
  last_grows : (row : ℕ) → last_listing l row ≤ last_listing new row
  last_grows row = elim (either_nat row a.row) [
    | inl e ↦ omega (arith, ap (last_listing l) e, ap (last_listing new) e, put.last, older, less)
    | inr ne ↦ omega (arith, put.rest row ne)
  ]

  pub logged_appended : AreLogged new
  logged_appended = record {
    rising = λ e g. rising (sym put.exact ∙ e) g (either_nat g granule);
    chained = λ g. chained g (either_nat g granule);
    each = λ g. each g (either_nat g granule);
  }
    where
      below : (g : ℕ) (x : Listing) → Has (listings_at l g) x → x.number ≤ last_listing l x.row
      below g x h = (all_get (IsInTurn l) (listings_at l g) (logged.each g) x h).1

      rising : l.exact ≡ true → (g : ℕ) → (g ≡ granule) ⊎ (g ≢ granule) → EachThen (λ x y. x.number ≤ y.number) (listings_at new g)
      rising e g (inl is) =
          subst (λ i. EachThen (λ x y. x.number ≤ y.number) (listings_at new i)) (sym is)
          (subst (EachThen (λ x y. x.number ≤ y.number)) (sym put.log)
          (each_append (λ x y. x.number ≤ y.number) (listings_at l granule) (a ∷ []) (logged.rising e granule) (all_put _ (listings_at l granule) (λ x h. (omega (arith, below granule x h, latest e x.row), tt))) (tt, tt)))
      rising e g (inr ne) = subst (EachThen (λ x y. x.number ≤ y.number)) (sym (put.others g ne)) (logged.rising e g)

      chained : (g : ℕ) → (g ≡ granule) ⊎ (g ≢ granule) → EachThen (λ x y. x.row ≡ y.row → x.number ≤ y.before) (listings_at new g)
      chained g (inl is) =
          subst (λ i. EachThen (λ x y. x.row ≡ y.row → x.number ≤ y.before) (listings_at new i)) (sym is)
          (subst (EachThen (λ x y. x.row ≡ y.row → x.number ≤ y.before)) (sym put.log)
          (each_append (λ x y. x.row ≡ y.row → x.number ≤ y.before) (listings_at l granule) (a ∷ []) (logged.chained granule)
          (all_put _ (listings_at l granule) (λ x h. ((λ e. omega (arith, below granule x h, ap (last_listing l) e, older)), tt))) (tt, tt)))
      chained g (inr ne) = subst (EachThen (λ x y. x.row ≡ y.row → x.number ≤ y.before)) (sym (put.others g ne)) (logged.chained g)

      old : (g : ℕ) → AllIn (IsInTurn new) (listings_at l g)
      old g = all_map _ (IsInTurn new) (listings_at l g) (λ x b. (b.0, omega (arith, b.1, last_grows x.row))) (logged.each g)

      each : (g : ℕ) → (g ≡ granule) ⊎ (g ≢ granule) → AllIn (IsInTurn new) (listings_at new g)
      each g (inl is) =
          subst (λ i. AllIn (IsInTurn new) (listings_at new i)) (sym is)
          (subst (AllIn (IsInTurn new)) (sym put.log)
          (more (listings_at l granule) (old granule)))
        where
          more : (xs : List Listing) → AllIn (IsInTurn new) xs → AllIn (IsInTurn new) (xs ++ a ∷ [])
          more [] all = ((less, omega (arith, put.last)), tt)
          more (x ∷ xs) all = (all.0, more xs all.1)
      each g (inr ne) = subst (AllIn (IsInTurn new)) (sym (put.others g ne)) (old g)

-- a row with a listing that stays is in use
pub stays_used : (first : ℕ) (reads writes : List (List Mark)) (a : Listing) → stays first reads writes a ≡ true → is_used reads writes a.row ≡ true
stays_used first reads writes a e = (and_parts _ _ e).0

pub logged_tidied : (l new : ListedRows) (granule first : ℕ) (reads writes : List (List Mark)) → AreLogged l → Tidies granule first reads writes l new
    → ((g row : ℕ) → IsListedRow (listings_at l granule) row → IsListedRow (listings_at l g) row → g ≡ granule) → AreLogged new
logged_tidied l new granule first reads writes logged t apart = record {
  rising = λ e g. rising (sym t.exact ∙ e) g (either_nat g granule);
  chained = λ g. chained g (either_nat g granule);
  each = λ g. each g (either_nat g granule);
}
  where
    p : Listing → Bool
    p = stays first reads writes

    rising : l.exact ≡ true → (g : ℕ) → (g ≡ granule) ⊎ (g ≢ granule) → EachThen (λ x y. x.number ≤ y.number) (listings_at new g)
    rising e g (inl is) =
        subst (λ i. EachThen (λ x y. x.number ≤ y.number) (listings_at new i)) (sym is)
        (subst (EachThen (λ x y. x.number ≤ y.number)) (sym t.log) (filter_each (λ x y. x.number ≤ y.number) p (listings_at l granule) (logged.rising e granule)))
    rising e g (inr ne) = subst (EachThen (λ x y. x.number ≤ y.number)) (sym (t.others g ne)) (logged.rising e g)

    chained : (g : ℕ) → (g ≡ granule) ⊎ (g ≢ granule) → EachThen (λ x y. x.row ≡ y.row → x.number ≤ y.before) (listings_at new g)
    chained g (inl is) =
        subst (λ i. EachThen (λ x y. x.row ≡ y.row → x.number ≤ y.before) (listings_at new i)) (sym is)
        (subst (EachThen (λ x y. x.row ≡ y.row → x.number ≤ y.before)) (sym t.log) (filter_each (λ x y. x.row ≡ y.row → x.number ≤ y.before) p (listings_at l granule) (logged.chained granule)))
    chained g (inr ne) = subst (EachThen (λ x y. x.row ≡ y.row → x.number ≤ y.before)) (sym (t.others g ne)) (logged.chained g)

    had : (g : ℕ) (x : Listing) → Has (listings_at l g) x → IsInTurn l x
    had g x h = all_get (IsInTurn l) (listings_at l g) (logged.each g) x h

    each : (g : ℕ) → (g ≡ granule) ⊎ (g ≢ granule) → AllIn (IsInTurn new) (listings_at new g)
    each g (inl is) =
        subst (λ i. AllIn (IsInTurn new) (listings_at new i)) (sym is)
        (subst (AllIn (IsInTurn new)) (sym t.log)
        (all_map _ (IsInTurn new) (filter p (listings_at l granule))
        (λ x b. let r = had granule x b.0 in (r.0, subst (λ n. x.number ≤ n) (sym (t.last.used x.row (stays_used first reads writes x b.1))) r.1)) (of_filter p (listings_at l granule))))
    each g (inr ne) =
        subst (AllIn (IsInTurn new)) (sym (t.others g ne))
        (all_put _ (listings_at l g) (λ x h. let r = had g x h in (r.0, subst (λ n. x.number ≤ n) (sym (t.last.others x.row (λ b. ne (apart g x.row b (any_put (λ y. y.row ≡ x.row) (listings_at l g) x h refl))))) r.1)))

-- ---- rows in which nothing waits have no last listing any more

-- one more row was looked at
pub forgets_more : (reads writes : List (List Mark)) (done : List Listing) (a : Listing) (old mid new : List ℕ) → Forgets reads writes (IsListedRow done) old mid → Forgets reads writes (λ r. r ≡ a.row) mid new
    → Forgets reads writes (IsListedRow (done ++ a ∷ [])) old new
forgets_more reads writes done a old mid new f g = record {
  used = λ r u. g.used r u ∙ f.used r u;
  gone = λ r u h. elim (either_nat r a.row) [
    | inl e ↦ g.gone r u e
    | inr ne ↦ g.others r ne ∙ f.gone r u (elim (any_append (λ (x : Listing). x.row ≡ r) done (a ∷ []) h) [ inl o ↦ o | inr o ↦ absurd (elim o [ inl e ↦ ne (sym e) | inr b ↦ b ]) ])
  ];
  others = λ r no. g.others r (λ e. no (any_append_right (λ (x : Listing). x.row ≡ r) done (a ∷ []) (inl (sym e)))) ∙ f.others r (λ h. no (any_append_left (λ (x : Listing). x.row ≡ r) done (a ∷ []) h));
}
