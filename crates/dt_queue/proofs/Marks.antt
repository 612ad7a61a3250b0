-- How a lane is searched: what stands before and after the place where the search for a number ends.
use Rattle.std.proofs.Common.{◌≡◌, ◌≢◌, ℕ, zero, suc, ◌+◌, ◌<◌, ◌≤◌, Bool, true, false, not, ◌&&◌, ◌==◌, nat_lt, cond, List, [], ◌∷◌, ◌++◌, length, take, drop}
use Rattle.std.proofs.Common.{slice_index_or, Option, Some, None, IsSome, OnSome, refl, ap, sym, subst, inl, inr, arith}
use Rattle.std.proofs.lemmas.Bool.{false≢true}
use Rattle.std.specs.List.{filter, remove}
use Rattle.std.specs.List.Sorted.{IsPartitionedBy, IsPartitionPoint}
use Rattle.dt_lists.specs.Lists.{AllIn, Has}
use Rattle.dt_lists.proofs.Callers.{all_get, either_le, all_index, filter_whole, filter_none}
use Rattle.dt_queue.specs.declared.mark.Mark.{Mark}
use Rattle.dt_queue.specs.LanesInner.{HasRisingNumbers, EndsBelow, IsBetween, IsFirstBetween, IsLastBetween, is_between}

-- marks with lesser numbers stand before the others
pub parted : (n : ℕ) (ms : List Mark) → HasRisingNumbers ms → IsPartitionedBy (λ m. nat_lt m.number n) ms
parted n [] asc i j d le lt e = absurd (omega arith)
parted n (x ∷ xs) asc zero zero d le lt e = e
parted n (x ∷ xs) asc zero (suc j) d le lt e =
    let before : x.number < (slice_index_or xs j d).number = all_index (λ y. x.number < y.number) xs j d asc.0 (omega arith) in
    grind (arith, before, e)
parted n (x ∷ xs) asc (suc i) zero d le lt e = absurd (omega arith)
parted n (x ∷ xs) asc (suc i) (suc j) d le lt e = parted n xs asc.1 i j d (omega arith) (omega arith) e

pub ends_below : (n : ℕ) (ms : List Mark) (p : ℕ) → IsPartitionPoint (λ m. nat_lt m.number n ≡ true) (λ m. nat_lt m.number n ≡ false) ms p → p ≤ length ms → EndsBelow n ms p
ends_below n [] p ends le = record { within = le; lesser = grind arith; others = grind arith }
ends_below n (x ∷ xs) zero ends le =
    let rest : EndsBelow n xs zero = ends_below n xs zero (λ k d lo hi. absurd (omega arith), λ k d lo hi. ends.1 (suc k) d (omega arith) (omega arith)) (omega arith) in
    let first : nat_lt x.number n ≡ false = ends.1 0 x (omega arith) (omega arith) in
    record { within = le; lesser = tt; others = (grind (arith, first), rest.others) }
ends_below n (x ∷ xs) (suc p) ends le =
    let rest : EndsBelow n xs p = ends_below n xs p (λ k d lo hi. ends.0 (suc k) d (omega arith) (omega arith), λ k d lo hi. ends.1 (suc k) d (omega arith) (omega arith)) (omega arith) in
    let first : nat_lt x.number n ≡ true = ends.0 0 x (omega arith) (omega arith) in
    record { within = le; lesser = (grind (arith, first), rest.lesser); others = rest.others }

-- where all marks have lesser numbers, the search ends at the end
pub ends_at_end : (n : ℕ) (ms : List Mark) (p : ℕ) → AllIn (λ m. m.number < n) ms → p ≡ length ms → EndsBelow n ms p
ends_at_end n [] p all same = record { within = omega (arith, same); lesser = by p same; others = by' p same }
  where
    by : (p : ℕ) → p ≡ 0 → AllIn (λ (m : Mark). m.number < n) (take p [])
    by zero e = tt
    by (suc p) e = cc

    by' : (p : ℕ) → p ≡ 0 → AllIn (λ (m : Mark). n ≤ m.number) (drop p [])
    by' zero e = tt
    by' (suc p) e = cc
ends_at_end n (x ∷ xs) zero all same = absurd (omega (arith, same))
ends_at_end n (x ∷ xs) (suc p) all same =
    let rest : EndsBelow n xs p = ends_at_end n xs p all.1 (omega (arith, same)) in
    record { within = omega (arith, same); lesser = (all.0, rest.lesser); others = rest.others }

-- they have, if the last one has
pub below_by_last : (n : ℕ) (ms : List Mark) (p : ℕ) (m : Mark) → HasRisingNumbers ms → p + 1 ≡ length ms → m ≡ slice_index_or ms p m → m.number < n → AllIn (λ k. k.number < n) ms
below_by_last n [] p m num end is lt = tt
below_by_last n (x ∷ []) zero m num end is lt = (subst (λ (k : Mark). k.number < n) is lt, tt)
below_by_last n (x ∷ []) (suc p) m num end is lt = absurd (omega (arith, end))
below_by_last n (x ∷ y ∷ ys) zero m num end is lt = absurd (omega (arith, end))
below_by_last n (x ∷ y ∷ ys) (suc p) m num end is lt =
    let rest = below_by_last n (y ∷ ys) p m num.1 (omega (arith, end)) is lt in
    (omega (arith, num.0.0, rest.0), rest)

-- ---- at the place where the search ended

-- whether a mark has another number
abbrev pub is_not : ℕ → Mark → Bool
is_not n m = not (m.number == n)

apart : (n : ℕ) (m : Mark) → m.number ≢ n → is_not n m ≡ true
apart n m ne = grind (arith, ne)

-- no mark of a list has the number
others_kept : (n : ℕ) (ms : List Mark) → AllIn (λ m. n < m.number) ms → filter (is_not n) ms ≡ ms
others_kept n [] all = refl
others_kept n (m ∷ ms) all = filter_whole (is_not n) (m ∷ ms) (kept (m ∷ ms) all)
  where
    kept : (xs : List Mark) → AllIn (λ m. n < m.number) xs → AllIn (λ m. is_not n m ≡ true) xs
    kept [] all = tt
    kept (x ∷ xs) all = (apart n x (omega (arith, all.0)), kept xs all.1)

keeps : (n : ℕ) (m : Mark) (ms rest : List Mark) → is_not n m ≡ true → filter (is_not n) ms ≡ rest → filter (is_not n) (m ∷ ms) ≡ m ∷ rest
keeps n m ms rest e f = by (is_not n m) e
  where
    by : (t : Bool) → t ≡ true → cond t (m ∷ filter (is_not n) ms) (filter (is_not n) ms) ≡ m ∷ rest
    by true e = ap (λ l. m ∷ l) f
    by false e = cc

leaves : (n : ℕ) (m : Mark) (ms rest : List Mark) → m.number ≡ n → filter (is_not n) ms ≡ rest → filter (is_not n) (m ∷ ms) ≡ rest
leaves n m ms rest e f = by (is_not n m) (grind (arith, e))
  where
    by : (t : Bool) → t ≡ false → cond t (m ∷ filter (is_not n) ms) (filter (is_not n) ms) ≡ rest
    by true e = cc
    by false e = f

above : (n : ℕ) (m : Mark) (ms : List Mark) → n ≤ m.number → AllIn (λ k. m.number < k.number) ms → AllIn (λ k. n < k.number) ms
above n m [] le all = tt
above n m (k ∷ ms) le all = (omega (arith, le, all.0), above n m ms le all.1)

-- the mark of a number was taken out at its place
pub removed : (n : ℕ) (ms : List Mark) (p : ℕ) (d : Mark) → HasRisingNumbers ms → EndsBelow n ms p → p < length ms → (slice_index_or ms p d).number ≡ n → remove ms p ≡ filter (is_not n) ms
removed n [] p d num ends lt same = absurd (omega arith)
removed n (x ∷ xs) zero d num ends lt same = sym (leaves n x xs xs same (others_kept n xs (above n x xs (omega (arith, same)) num.0)))
removed n (x ∷ xs) (suc p) d num ends lt same =
    let rest : EndsBelow n xs p = record { within = omega (arith, ends.within); lesser = ends.lesser.1; others = ends.others } in
    sym (keeps n x xs (remove xs p) (apart n x (omega (arith, ends.lesser.0))) (sym (removed n xs p d num.1 rest (omega arith) same)))

-- the first mark was taken out, where it has the number
pub first_removed : (n : ℕ) (ms : List Mark) (d : Mark) → HasRisingNumbers ms → 0 < length ms → (slice_index_or ms 0 d).number ≡ n → drop 1 ms ≡ filter (is_not n) ms
first_removed n [] d num lt same = absurd (omega (arith, lt))
first_removed n (x ∷ xs) d num lt same = sym (leaves n x xs xs same (others_kept n xs (above n x xs (omega (arith, same)) num.0)))

-- no mark has the number
pub untouched : (n : ℕ) (ms : List Mark) (p : ℕ) (d : Mark) → HasRisingNumbers ms → EndsBelow n ms p → (p < length ms → (slice_index_or ms p d).number ≢ n) → ms ≡ filter (is_not n) ms
untouched n [] p d num ends none = refl
untouched n (x ∷ xs) zero d num ends none =
    let ne : x.number ≢ n = none (omega arith) in
    sym (keeps n x xs xs (apart n x ne) (others_kept n xs (above n x xs ends.others.0 num.0)))
untouched n (x ∷ xs) (suc p) d num ends none =
    let rest : EndsBelow n xs p = record { within = omega (arith, ends.within); lesser = ends.lesser.1; others = ends.others } in
    sym (keeps n x xs xs (apart n x (omega (arith, ends.lesser.0))) (sym (untouched n xs p d num.1 rest (λ lt. none (omega (arith, lt))))))

pub has_index : (ms : List Mark) (p : ℕ) (d : Mark) → p < length ms → Has ms (slice_index_or ms p d)
has_index [] p d lt = absurd (omega arith)
has_index (x ∷ xs) zero d lt = inl refl
has_index (x ∷ xs) (suc p) d lt = inr (has_index xs p d (omega arith))

-- the mark at the place where the search ended is the first that has not a lesser number
pub first_from : (n : ℕ) (ms : List Mark) (p : ℕ) (d : Mark) → HasRisingNumbers ms → EndsBelow n ms p → p < length ms
    → (n ≤ (slice_index_or ms p d).number) × ((k : Mark) → Has ms k → n ≤ k.number → (slice_index_or ms p d).number ≤ k.number)
first_from n [] p d num ends lt = absurd (omega arith)
first_from n (x ∷ xs) zero d num ends lt = (ends.others.0, λ k h le. elim h [ inl e ↦ subst (λ (y : Mark). x.number ≤ y.number) e (omega arith) | inr g ↦ omega (arith, all_get (λ y. x.number < y.number) xs num.0 k g) ])
first_from n (x ∷ xs) (suc p) d num ends lt =
    let rest : EndsBelow n xs p = record { within = omega (arith, ends.within); lesser = ends.lesser.1; others = ends.others } in
    let later = first_from n xs p d num.1 rest (omega arith) in
    (later.0, λ k h le. elim h [ inl e ↦ absurd (below_all e le) | inr g ↦ later.1 k g le ])
  where
    below_all : {k : Mark} → x ≡ k → n ≤ k.number → ⊥
    below_all {k} e le = let s : x.number ≡ k.number = ap (λ (y : Mark). y.number) e in omega (arith, s, le, ends.lesser.0)

-- where the search ended at the end of a list, all have lesser numbers
pub none_from : (n : ℕ) (ms : List Mark) (p : ℕ) → EndsBelow n ms p → length ms ≤ p → (k : Mark) → Has ms k → k.number < n
none_from n [] p ends le k h = absurd h
none_from n (x ∷ xs) zero ends le k h = absurd (omega arith)
none_from n (x ∷ xs) (suc p) ends le k (inl e) = subst (λ (y : Mark). y.number < n) e ends.lesser.0
none_from n (x ∷ xs) (suc p) ends le k (inr h) = none_from n xs p (record { within = omega (arith, ends.within); lesser = ends.lesser.1; others = ends.others }) (omega arith) k h

-- the mark before the place where the search ended is the last that has a lesser number
pub last_below : (n : ℕ) (ms : List Mark) (p : ℕ) (d : Mark) → HasRisingNumbers ms → EndsBelow n ms (suc p)
    → ((slice_index_or ms p d).number < n) × ((k : Mark) → Has ms k → k.number < n → k.number ≤ (slice_index_or ms p d).number)
last_below n [] p d num ends = absurd (omega (arith, ends.within))
last_below n (x ∷ xs) zero d num ends =
    (ends.lesser.0, λ k h lt. elim h [ inl e ↦ subst (λ (y : Mark). y.number ≤ x.number) e (omega arith) | inr g ↦ absurd (omega (arith, lt, all_get (λ y. n ≤ y.number) xs ends.others k g)) ])
last_below n (x ∷ xs) (suc p) d num ends =
    let rest : EndsBelow n xs (suc p) = record { within = omega (arith, ends.within); lesser = ends.lesser.1; others = ends.others } in
    let later = last_below n xs p d num.1 rest in
    let lt : p < length xs = omega (arith, rest.within) in
    let first : x.number < (slice_index_or xs p d).number = all_index (λ y. x.number < y.number) xs p d num.0 lt in
    (later.0, λ k h low. elim h [ inl e ↦ subst (λ (y : Mark). y.number ≤ (slice_index_or xs p d).number) e (omega (arith, first)) | inr g ↦ later.1 k g low ])

-- where the search ended at the front, none has a lesser number
pub none_below : (n : ℕ) (ms : List Mark) → EndsBelow n ms zero → (k : Mark) → Has ms k → n ≤ k.number
none_below n ms ends k h = all_get (λ y. n ≤ y.number) ms ends.others k h

-- a mark with a greater number goes to the back
pub numbered_more : (ms : List Mark) (m : Mark) → HasRisingNumbers ms → AllIn (λ k. k.number < m.number) ms → HasRisingNumbers (ms ++ m ∷ [])
numbered_more [] m num all = (tt, tt)
numbered_more (x ∷ xs) m num all = (more xs num.0, numbered_more xs m num.1 all.1)
  where
    more : (ys : List Mark) → AllIn (λ y. x.number < y.number) ys → AllIn (λ y. x.number < y.number) (ys ++ m ∷ [])
    more [] a = (all.0, tt)
    more (y ∷ ys) a = (a.0, more ys a.1)

-- ---- the marks between two numbers, as they are appended one after the other

between_false : (low high : ℕ) (m : Mark) → ¬ (IsBetween low high m) → is_between low high m ≡ false
between_false low high m out = by (nat_lt low m.number) (nat_lt m.number high) refl refl
  where
    by : (a b : Bool) → nat_lt low m.number ≡ a → nat_lt m.number high ≡ b → (a && b) ≡ false
    by true true e f = absurd (out (grind (arith, e), grind (arith, f)))
    by true false e f = refl
    by false b e f = refl

pub between_true : (low high : ℕ) (m : Mark) → IsBetween low high m → is_between low high m ≡ true
between_true low high m is = grind (arith, is)

all_map_false : (low high : ℕ) (ms : List Mark) → AllIn (λ m. ¬ (IsBetween low high m)) ms → AllIn (λ m. is_between low high m ≡ false) ms
all_map_false low high [] all = tt
all_map_false low high (m ∷ ms) all = (between_false low high m all.0, all_map_false low high ms all.1)

-- where the search for the number after the lower one ended, none before lies between the two
pub between_before : (low high : ℕ) (ms : List Mark) (p : ℕ) → EndsBelow (low + 1) ms p → filter (is_between low high) (take p ms) ≡ []
between_before low high ms p ends = filter_none (is_between low high) (take p ms) (all_map_false low high (take p ms) (lower (take p ms) ends.lesser))
  where
    lower : (xs : List Mark) → AllIn (λ m. m.number < low + 1) xs → AllIn (λ m. ¬ (IsBetween low high m)) xs
    lower [] all = tt
    lower (x ∷ xs) all = (λ b. omega (arith, b.0, all.0), lower xs all.1)

-- from a mark on that has not a lesser number than the higher one none lies between the two
pub between_stop : (low high : ℕ) (ms : List Mark) (p : ℕ) (d : Mark) → HasRisingNumbers ms → p < length ms → high ≤ (slice_index_or ms p d).number
    → filter (is_between low high) (take p ms) ≡ filter (is_between low high) ms
between_stop low high [] p d num lt le = absurd (omega arith)
between_stop low high (x ∷ xs) zero d num lt le = sym (filter_none (is_between low high) (x ∷ xs) (all_map_false low high (x ∷ xs) (λ b. omega (arith, b.1, le), higher xs num.0)))
  where
    higher : (ys : List Mark) → AllIn (λ y. x.number < y.number) ys → AllIn (λ m. ¬ (IsBetween low high m)) ys
    higher [] all = tt
    higher (y ∷ ys) all = (λ b. omega (arith, b.1, le, all.0), higher ys all.1)
between_stop low high (x ∷ xs) (suc p) d num lt le = by (is_between low high x) (between_stop low high xs p d num.1 (omega arith) le)
  where
    by : (t : Bool) → filter (is_between low high) (take p xs) ≡ filter (is_between low high) xs
        → cond t (x ∷ filter (is_between low high) (take p xs)) (filter (is_between low high) (take p xs)) ≡ cond t (x ∷ filter (is_between low high) xs) (filter (is_between low high) xs)
    by true e = ap (λ l. x ∷ l) e
    by false e = e

-- between the greatest number and another one there is none
pub none_past : (low high : ℕ) (ms : List Mark) → high ≤ low + 1 → filter (is_between low high) ms ≡ []
none_past low high ms le = filter_none (is_between low high) ms (none ms)
  where
    none : (xs : List Mark) → AllIn (λ m. is_between low high m ≡ false) xs
    none [] = tt
    none (x ∷ xs) = (between_false low high x (λ b. omega (arith, b.0, b.1, le)), none xs)

-- ---- what the searches answer

pub past_all_places : (p n : ℕ) → (p < n → false ≡ true) → n ≤ p
past_all_places p n h = elim (either_le n p) [ inl le ↦ le | inr more ↦ absurd (false≢true (h (omega (arith, more)))) ]

pub first_is : (low high : ℕ) (ms : List Mark) (p : ℕ) (m : Mark) → HasRisingNumbers ms → EndsBelow (low + 1) ms p → p < length ms → m ≡ slice_index_or ms p m → m.number < high
    → IsFirstBetween low high ms (Some m)
first_is low high ms p m num ends lt is less =
    let found = first_from (low + 1) ms p m num ends lt in
    let here : low + 1 ≤ m.number = subst (λ (k : Mark). low + 1 ≤ k.number) (sym is) found.0 in (
      subst (Has ms) (sym is) (has_index ms p m lt),
      (omega (arith, here), less),
      λ k h b. subst (λ (x : Mark). x.number ≤ k.number) (sym is) (found.1 k h (omega (arith, b.0))),
    )

pub first_is_past : (low high : ℕ) (ms : List Mark) (p : ℕ) (m : Mark) → HasRisingNumbers ms → EndsBelow (low + 1) ms p → p < length ms → m ≡ slice_index_or ms p m → high ≤ m.number
    → IsFirstBetween low high ms None
first_is_past low high ms p m num ends lt is more k h b =
    let found = first_from (low + 1) ms p m num ends lt in
    let before : m.number ≤ k.number = subst (λ (x : Mark). x.number ≤ k.number) (sym is) (found.1 k h (omega (arith, b.0))) in
    omega (arith, before, more, b.1)

pub first_is_none : (low high : ℕ) (ms : List Mark) (p : ℕ) → EndsBelow (low + 1) ms p → length ms ≤ p → IsFirstBetween low high ms None
first_is_none low high ms p ends le k h b = omega (arith, none_from (low + 1) ms p ends le k h, b.0)

pub last_is : (low high : ℕ) (ms : List Mark) (q p : ℕ) (m : Mark) → HasRisingNumbers ms → EndsBelow high ms q → q ≡ suc p → m ≡ slice_index_or ms p m → low < m.number
    → IsLastBetween low high ms (Some m)
last_is low high ms q p m num ends same is more =
    let ends' : EndsBelow high ms (suc p) = subst (EndsBelow high ms) same ends in
    let found = last_below high ms p m num ends' in (
      subst (Has ms) (sym is) (has_index ms p m (omega (arith, ends'.within))),
      (more, subst (λ (k : Mark). k.number < high) (sym is) found.0),
      λ k h b. subst (λ (x : Mark). k.number ≤ x.number) (sym is) (found.1 k h b.1),
    )

pub last_is_before : (low high : ℕ) (ms : List Mark) (q p : ℕ) (m : Mark) → HasRisingNumbers ms → EndsBelow high ms q → q ≡ suc p → m ≡ slice_index_or ms p m → m.number ≤ low
    → IsLastBetween low high ms None
last_is_before low high ms q p m num ends same is less k h b =
    let found = last_below high ms p m num (subst (EndsBelow high ms) same ends) in
    let after : k.number ≤ m.number = subst (λ (x : Mark). k.number ≤ x.number) (sym is) (found.1 k h b.1) in
    omega (arith, after, less, b.0)

pub last_is_none : (low high : ℕ) (ms : List Mark) (q : ℕ) → EndsBelow high ms q → q ≡ zero → IsLastBetween low high ms None
last_is_none low high ms q ends same k h b = omega (arith, none_below high ms (subst (EndsBelow high ms) same ends) k h, b.1)

pub on_some : {A P : Type 0} (r : Option A) → OnSome r P → IsSome r → P
on_some None o s = cc
on_some (Some x) o s = o
