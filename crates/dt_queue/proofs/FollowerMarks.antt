-- The marks of followers, as the search goes from row to row: what is left of a row and of rows, and that these are just those that
-- are next.
use Rattle.std.proofs.Common.{◌≡◌, ◌⊎◌, ◌↔◌, ℕ, ◌<◌, ◌≤◌, List, [], ◌∷◌, ◌++◌, get_or, slice_get, Option, Some, None, option_to_list, is_some, true, false}
use Rattle.std.proofs.Common.{refl, ap, sym, subst, inl, inr, arith, ◌∙◌}
use Rattle.std.specs.List.{filter}
use Rattle.std.specs.List.Sorted.{IsPermutation}
use Rattle.std.specs.Option.{option_or}
use Rattle.std.specs.Prelude.{MatchOption}
use Rattle.std.proofs.lemmas.List.{append-nil, append_assoc}
use Rattle.std.proofs.lemmas.List.Sorted.{IsPermutation-cons, IsPermutation-middle, IsPermutation-refl, IsPermutation-sym, IsPermutation-trans}
use Rattle.std.proofs.lemmas.Bool.{cases_order, false_from_ne_true}
use Rattle.dt_lists.specs.Lists.{AnyIn, Distinct, EachThen, Has}
use Rattle.dt_lists.proofs.Callers.{Spot, all_append, all_append_left, all_append_right, all_get, all_put, any_append, any_append_left, any_append_right, any_get, ascending_same, each_across, each_append, each_append_right, each_map}
use Rattle.dt_lists.proofs.Callers.{filter_each, filter_none, spot}
use Rattle.dt_queue.specs.declared.mark.Mark.{Mark}
use Rattle.dt_queue.specs.declared.next.NextMarks.{NextMarks}
use Rattle.dt_queue.specs.LanesInner.{AreApart, AreMarks, HasRisingNumbers, IsBetween, IsFirstBetween, IsFirstIn, IsNextInRow, is_between, number_or}
use Rattle.dt_queue.specs.declared.listing.ListedBetween.{ListedBetween}
use Rattle.dt_queue.specs.ListedInner.{listed_left}
use Rattle.dt_queue.specs.NextInner.{AreEachOnce, first_in, next_of_row, next_of_rows, or_else_one, reads_left, rows_left}
use Rattle.dt_queue.specs.TableInner.{lanes_read, lanes_written}
use Rattle.dt_queue.proofs.Marks.{none_past}
use Rattle.dt_queue.proofs.NearMarks.{AreLanesOfRow, either_between, in_between, next_first, next_reads, next_write, of_between, row_of, same_mark}

-- ---- lists with the same items

each_less : {A : Type 0} (R : A → A → Type 0) (front : List A) (x : A) (rest : List A) → EachThen R (front ++ x ∷ rest) → EachThen R (front ++ rest)
each_less R [] x rest d = d.1
each_less R (y ∷ front) x rest d =
    (all_append (R y) front rest (all_append_left (R y) front (x ∷ rest) d.0) (all_append_right (R y) front (x ∷ rest) d.0).1, each_less R front x rest d.1)

-- lists without repeats that have the same items are permutations of each other
pub same_permuted : {A : Type 0} (xs ys : List A) → Distinct xs → Distinct ys → ((x : A) → Has xs x → Has ys x) → ((x : A) → Has ys x → Has xs x) → IsPermutation xs ys
same_permuted [] [] d f to back = IsPermutation-refl []
same_permuted [] (y ∷ ys) d f to back = absurd (back y (inl refl))
same_permuted {A} (x ∷ xs) ys d f to back = by (λ zs e there here. same_permuted xs zs d.1 e there here) (spot ys x (to x (inl refl)))
  where
    by : ((zs : List A) → Distinct zs → ((z : A) → Has xs z → Has zs z) → ((z : A) → Has zs z → Has xs z) → IsPermutation xs zs) → Spot ys x → IsPermutation (x ∷ xs) ys
    by same s = subst (IsPermutation (x ∷ xs)) (sym s.is)
        (IsPermutation-trans (x ∷ xs) (x ∷ (s.front ++ s.rest)) (s.front ++ x ∷ s.rest)
        (IsPermutation-cons x xs (s.front ++ s.rest) (same (s.front ++ s.rest) (each_less (λ a b. ¬ (a ≡ b)) s.front x s.rest split) to_less back_less))
        (IsPermutation-sym (s.front ++ x ∷ s.rest) (x ∷ (s.front ++ s.rest)) (IsPermutation-middle s.front x s.rest)))
      where
        split : Distinct (s.front ++ x ∷ s.rest)
        split = subst Distinct s.is f

        to_less : (z : A) → Has xs z → Has (s.front ++ s.rest) z
        to_less z h = elim (any_append (λ y. y ≡ z) s.front (x ∷ s.rest) (subst (λ l. Has l z) s.is (to z (inr h)))) [
          | inl g ↦ any_append_left (λ y. y ≡ z) s.front s.rest g
          | inr g ↦ elim g [ inl e ↦ absurd (all_get (λ y. ¬ (x ≡ y)) xs d.0 z h e) | inr k ↦ any_append_right (λ y. y ≡ z) s.front s.rest k ]
        ]

        other : (z : A) → Has (s.front ++ s.rest) z → ¬ (x ≡ z)
        other z h e = elim (any_append (λ y. y ≡ z) s.front s.rest h) [
          | inl g ↦ each_across (λ a b. ¬ (a ≡ b)) s.front (x ∷ s.rest) z x split g (inl refl) (sym e)
          | inr g ↦ all_get (λ y. ¬ (x ≡ y)) s.rest (each_append_right (λ a b. ¬ (a ≡ b)) s.front (x ∷ s.rest) split).0 z g e
        ]

        there : (z : A) → Has (s.front ++ s.rest) z → Has ys z
        there z h = subst (λ l. Has l z) (sym s.is) (elim (any_append (λ y. y ≡ z) s.front s.rest h) [
          | inl g ↦ any_append_left (λ y. y ≡ z) s.front (x ∷ s.rest) g
          | inr g ↦ any_append_right (λ y. y ≡ z) s.front (x ∷ s.rest) (inr g)
        ])

        back_less : (z : A) → Has (s.front ++ s.rest) z → Has xs z
        back_less z h = elim (back z (there z h)) [ inl e ↦ absurd (other z h e) | inr g ↦ g ]

-- marks with different numbers are different
pub marks_differ : (ms : List Mark) → EachThen (λ m k. ¬ (m.number ≡ k.number)) ms → Distinct ms
marks_differ ms d = each_map _ _ ms (λ m k ne e. ne (ap (λ (n : Mark). n.number) e)) d

-- ---- the first mark between two numbers, and those after it

pub between_none : (low high : ℕ) (ms : List Mark) → IsFirstBetween low high ms None → filter (is_between low high) ms ≡ []
between_none low high ms none = filter_none (is_between low high) ms (all_put _ ms (λ m h. false_from_ne_true (is_between low high m) (λ e. none m h (grind (arith, e)))))

pub between_first : (low high : ℕ) (ms : List Mark) (m : Mark) → HasRisingNumbers ms → IsFirstBetween low high ms (Some m) → filter (is_between low high) ms ≡ m ∷ filter (is_between m.number high) ms
between_first low high ms m num first =
    ascending_same (λ (m n : Mark). m.number < n.number) (λ m lt. omega (arith, lt)) (λ m n o lt le. omega (arith, lt, le))
    (filter (is_between low high) ms) (m ∷ filter (is_between m.number high) ms)
    (filter_each (λ (m n : Mark). m.number < n.number) (is_between low high) ms num) (
      all_put (λ (k : Mark). m.number < k.number) (filter (is_between m.number high) ms) (λ k h. (of_between m.number high ms k h).1.0),
      filter_each (λ (m n : Mark). m.number < n.number) (is_between m.number high) ms num,
    )
    (λ k h. place k (of_between low high ms k h) (cases_order m.number k.number))
    (λ k h. elim h [
      | inl e ↦ subst (Has (filter (is_between low high) ms)) e (in_between low high ms m first.0 first.1)
      | inr g ↦ let b = of_between m.number high ms k g in in_between low high ms k b.0 (omega (arith, b.1.0, first.1.0), b.1.1)
    ])
  where
    place : (k : Mark) → Has ms k × IsBetween low high k → (m.number ≡ k.number) ⊎ ((m.number < k.number) ⊎ (k.number < m.number)) → Has (m ∷ filter (is_between m.number high) ms) k
    place k b (inr (inl lt)) = inr (in_between m.number high ms k b.0 (lt, b.1.1))
    place k b (inl e) = inl (same_mark ms num m k first.0 b.0 e)
    place k b (inr (inr gt)) = absurd (omega (arith, gt, first.2 k b.0 b.1))

pub first_in_is : (low high : ℕ) (ms : List Mark) (o : Option Mark) → HasRisingNumbers ms → IsFirstBetween low high ms o → o ≡ first_in low high ms
first_in_is low high ms None num first = sym (ap (λ l. slice_get l 0) (between_none low high ms first))
first_in_is low high ms (Some m) num first = sym (ap (λ l. slice_get l 0) (between_first low high ms m num first))

-- a lane has a first mark between two numbers, or none
pub first_there : (low high : ℕ) (ms : List Mark) → HasRisingNumbers ms → (o : Option Mark) × IsFirstBetween low high ms o
first_there low high [] num = (None, λ m h. absurd h)
first_there low high (x ∷ xs) num = elim (either_between low high x) [
  | inl b ↦ (Some x, (inl refl, b, λ j h c. elim h [ inl e ↦ subst (λ (y : Mark). x.number ≤ y.number) e (omega arith) | inr g ↦ omega (arith, all_get (λ (y : Mark). x.number < y.number) xs num.0 j g) ]))
  | inr ne ↦ by ne (first_there low high xs num.1)
]
  where
    by : ¬ (IsBetween low high x) → (o : Option Mark) × IsFirstBetween low high xs o → (o : Option Mark) × IsFirstBetween low high (x ∷ xs) o
    by ne (Some k, l) = (Some k, (inr l.0, l.1, λ j h b. elim h [ inl e ↦ absurd (ne (subst (IsBetween low high) (sym e) b)) | inr g ↦ l.2 j g b ]))
    by ne (None, l) = (None, λ j h c. elim h [ inl e ↦ ne (subst (IsBetween low high) (sym e) c) | inr g ↦ l j g c ])

first_in_first : (low high : ℕ) (ms : List Mark) → HasRisingNumbers ms → IsFirstBetween low high ms (first_in low high ms)
first_in_first low high ms num = let r = first_there low high ms num in subst (IsFirstBetween low high ms) (first_in_is low high ms r.0 num r.1) r.1

-- ---- one mark at most

of_one : (o : Option Mark) (m : Mark) → Has (option_to_list o) m → o ≡ Some m
of_one None m h = absurd h
of_one (Some k) m (inl e) = ap Some e
of_one (Some k) m (inr h) = absurd h

to_one : (o : Option Mark) (m : Mark) → o ≡ Some m → Has (option_to_list o) m
to_one o m e = subst (λ p. Has (option_to_list p) m) (sym e) (inl refl)

one_rises : (o : Option Mark) → HasRisingNumbers (option_to_list o)
one_rises None = tt
one_rises (Some m) = (tt, tt)

-- marks whose numbers rise are each once
pub once_of_marks : (P : Mark → Type 0) (ms : List Mark) → AreMarks P ms → AreEachOnce P ms
once_of_marks P ms a = record { apart = each_map _ _ ms (λ m k lt e. less m k lt e) a.numbered; members = a.members }
  where
    less : (m k : Mark) → m.number < k.number → m.number ≡ k.number → ⊥
    less m k lt e = omega (arith, lt, e)

pub once_of_one : (P : Mark → Type 0) (o : Option Mark) → ((m : Mark) → P m ↔ (o ≡ Some m)) → AreEachOnce P (option_to_list o)
once_of_one P o exact = once_of_marks P (option_to_list o) (record { numbered = one_rises o; members = λ m. (λ h. (exact m).1 (of_one o m h), λ p. to_one o m ((exact m).0 p)) })

pub writes_next : (writes : List Mark) (low high : ℕ) → HasRisingNumbers writes → AreEachOnce (IsFirstIn writes low high) (option_to_list (first_in low high writes))
writes_next writes low high num =
    once_of_one (IsFirstIn writes low high) (first_in low high writes) (λ m. next_first writes low high (first_in low high writes) num (first_in_first low high writes num) m)

-- ---- a row, and several rows

pub row_next : (reads writes : List Mark) (low high : ℕ) → AreLanesOfRow reads writes → AreMarks (IsNextInRow reads writes low high) (next_of_row reads writes low high)
row_next reads writes low high row = by (first_in low high writes) (first_in_first low high writes row.writes_numbered)
  where
    by : (w : Option Mark) → IsFirstBetween low high writes w → AreMarks (IsNextInRow reads writes low high) (or_else_one (filter (is_between low (number_or w high)) reads) w)
    by w first = split (filter (is_between low (number_or w high)) reads) refl
      where
        split : (l : List Mark) → filter (is_between low (number_or w high)) reads ≡ l → AreMarks (IsNextInRow reads writes low high) (or_else_one l w)
        split [] e = record {
          numbered = one_rises w;
          members = λ m. (λ h. (exact m).1 (of_one w m h), λ n. to_one w m ((exact m).0 n));
        }
          where
            exact : (m : Mark) → IsNextInRow reads writes low high m ↔ (w ≡ Some m)
            exact m = next_write reads writes low high w row first (λ r h b. subst (λ l. Has l r) e (in_between low (number_or w high) reads r h b)) m
        split (r ∷ rs) e = record {
          numbered = subst HasRisingNumbers e (filter_each (λ (m n : Mark). m.number < n.number) (is_between low (number_or w high)) reads row.reads_numbered);
          members = λ m. (
            λ h. (exact m).1 (of_between low (number_or w high) reads m (subst (λ l. Has l m) (sym e) h)),
            λ n. let b = (exact m).0 n in subst (λ l. Has l m) e (in_between low (number_or w high) reads m b.0 b.1),
          );
        }
          where
            here : Has reads r × IsBetween low (number_or w high) r
            here = of_between low (number_or w high) reads r (subst (λ l. Has l r) (sym e) (inl refl))

            exact : (m : Mark) → IsNextInRow reads writes low high m ↔ (Has reads m × IsBetween low (number_or w high) m)
            exact m = next_reads reads writes low high w row first r here.0 here.1 m

module _ (reads writes : List (List Mark)) (a : AreApart reads writes) (low high : ℕ) where
  abbrev pub IsNextIn : ℕ → Mark → Type 0
  IsNextIn row m = IsNextInRow (get_or reads row []) (get_or writes row []) low high m

  -- marks that are next in different rows have different numbers
  next_parted : (r s : ℕ) (m k : Mark) → IsNextIn r m → IsNextIn s k → m.number ≡ k.number → r ≡ s
  next_parted r s m k p q e = elim p.1 [
    | inl x ↦ elim q.1 [ inl y ↦ a.of_reads r s m k x.0 y.0 e | inr y ↦ absurd (a.of_both r s m k x.0 y.0 e) ]
    | inr x ↦ elim q.1 [ inl y ↦ absurd (a.of_both s r k m y.0 x.0 (sym e)) | inr y ↦ a.of_writes r s m k x.0 y.0 e ]
  ]

  pub rows_next : (rows : List ℕ) → Distinct rows → AreEachOnce (λ m. AnyIn (λ row. IsNextIn row m) rows) (next_of_rows reads writes low high rows)
  rows_next [] d = record { apart = tt; members = λ m. (λ h. h, λ h. h) }
  rows_next (r ∷ rows) d =
      let first : List Mark = next_of_row (get_or reads r []) (get_or writes r []) low high in
      joined first (next_of_rows reads writes low high rows) (once_of_marks (IsNextIn r) first (row_next (get_or reads r []) (get_or writes r []) low high (row_of reads writes a r))) (rows_next rows d.1)
    where
      other : (m k : Mark) → IsNextIn r m → AnyIn (λ row. IsNextIn row k) rows → m.number ≡ k.number → ⊥
      other m k p q e = let found = any_get (λ row. IsNextIn row k) rows q in all_get (λ y. ¬ (r ≡ y)) rows d.0 found.0 found.1 (next_parted r found.0 m k p found.2 e)

      joined : (ms ns : List Mark) → AreEachOnce (IsNextIn r) ms → AreEachOnce (λ m. AnyIn (λ row. IsNextIn row m) rows) ns → AreEachOnce (λ m. IsNextIn r m ⊎ AnyIn (λ row. IsNextIn row m) rows) (ms ++ ns)
      joined ms ns here there = record {
        apart = each_append (λ (m k : Mark). ¬ (m.number ≡ k.number)) ms ns here.apart
            (all_put _ ms (λ m h. all_put _ ns (λ k g e. other m k ((here.members m).0 h) ((there.members k).0 g) e))) there.apart;
        members = λ m. (
          λ h. elim (any_append _ ms ns h) [ inl g ↦ inl ((here.members m).0 g) | inr g ↦ inr ((there.members m).0 g) ],
          λ p. elim p [ inl q ↦ any_append_left _ ms ns ((here.members m).1 q) | inr q ↦ any_append_right _ ms ns ((there.members m).1 q) ],
        );
      }

-- ---- what the search begins with

or_or : (ms : List Mark) (one other : Option Mark) → or_else_one ms (option_or one other) ≡ or_else_one (or_else_one ms one) other
or_or [] None other = refl
or_or [] (Some m) other = refl
or_or (m ∷ ms) one other = refl

pub left_of_read : (reads writes : List Mark) (low high : ℕ) (w other : Option Mark) → HasRisingNumbers writes → IsFirstBetween low high writes w
    → or_else_one (filter (is_between 0 0) reads ++ []) (option_or w other) ≡ or_else_one (option_to_list (first_in low high writes)) other
left_of_read reads writes low high w other num first =
    ap (λ l. or_else_one (l ++ []) (option_or w other)) (none_past 0 0 reads (omega arith)) ∙ or_or [] w other ∙ ap (λ v. or_else_one (option_to_list v) other) (first_in_is low high writes w num first)

pub left_of_write : (reads writes : List Mark) (low high : ℕ) (w other : Option Mark) → HasRisingNumbers writes → IsFirstBetween low high writes w
    → or_else_one (filter (is_between low (number_or w high)) reads ++ []) (option_or w other) ≡ or_else_one (next_of_row reads writes low high) other
left_of_write reads writes low high w other num first =
    ap (λ l. or_else_one l (option_or w other)) (append-nil (filter (is_between low (number_or w high)) reads)) ∙ or_or (filter (is_between low (number_or w high)) reads) w other
    ∙ ap (λ v. or_else_one (or_else_one (filter (is_between low (number_or v high)) reads) v) other) (first_in_is low high writes w num first)

pub left_of_rows : (reads : List Mark) (ms : List Mark) (other : Option Mark) → or_else_one (filter (is_between 0 0) reads ++ ms) other ≡ or_else_one ms other
left_of_rows reads ms other = ap (λ l. or_else_one (l ++ ms) other) (none_past 0 0 reads (omega arith))

-- ---- a step of the search

-- the first mark of a row, and what is left of it then
pub row_begins : (reads writes : List Mark) (low high : ℕ) (w : Option Mark) (m : Mark) → AreLanesOfRow reads writes → IsFirstBetween low high writes w → IsFirstBetween low (number_or w high) reads (Some m)
    → m ∷ filter (is_between m.number (number_or w high)) reads ≡ next_of_row reads writes low high
row_begins reads writes low high w m row first read =
    ap (λ l. or_else_one l w) (sym (between_first low (number_or w high) reads m row.reads_numbered read))
    ∙ ap (λ v. or_else_one (filter (is_between low (number_or v high)) reads) v) (first_in_is low high writes w row.writes_numbered first)

-- where nothing reads it, the write
pub row_is_write : (reads writes : List Mark) (low high : ℕ) (w : Option Mark) → AreLanesOfRow reads writes → IsFirstBetween low high writes w → IsFirstBetween low (number_or w high) reads None
    → option_to_list w ≡ next_of_row reads writes low high
row_is_write reads writes low high w row first read =
    ap (λ l. or_else_one l w) (sym (between_none low (number_or w high) reads read))
    ∙ ap (λ v. or_else_one (filter (is_between low (number_or v high)) reads) v) (first_in_is low high writes w row.writes_numbered first)

-- after a row was begun
pub row_entered : (s n : NextMarks) (row : ℕ) (rest : ListedBetween) (found : Option Mark) → reads_left s ≡ [] → listed_left s.rows ≡ row ∷ listed_left rest
    → n ≡ record s { rows = rest; row = n.row; after = n.after; limit = n.limit }
    → option_to_list found ++ reads_left n ≡ next_of_row (get_or (lanes_read s.table.now) row []) (get_or (lanes_written s.table.now) row []) s.low s.high → rows_left s ≡ option_to_list found ++ rows_left n
row_entered s n row rest found none rows same taken =
    ap (λ l. l ++ next_of_rows (lanes_read s.table.now) (lanes_written s.table.now) s.low s.high (listed_left s.rows)) none
    ∙ ap (next_of_rows (lanes_read s.table.now) (lanes_written s.table.now) s.low s.high) rows
    ∙ ap (λ l. l ++ next_of_rows (lanes_read s.table.now) (lanes_written s.table.now) s.low s.high (listed_left rest)) (sym taken)
    ∙ append_assoc (option_to_list found) (reads_left n) (next_of_rows (lanes_read s.table.now) (lanes_written s.table.now) s.low s.high (listed_left rest))
    ∙ ap (λ (z : NextMarks). option_to_list found ++ (reads_left n ++ next_of_rows (lanes_read z.table.now) (lanes_written z.table.now) z.low z.high (listed_left z.rows))) (sym same)

-- with a mark, or with none
pub found_some : (old new : List Mark) (found : Option Mark) → is_some found ≡ true → old ≡ option_to_list found ++ new → MatchOption found ((old ≡ []) × (new ≡ [])) (λ m. old ≡ m ∷ new)
found_some old new (Some m) is e = e
found_some old new None is e = cc

pub found_none : (old new : List Mark) (found : Option Mark) → is_some found ≡ false → old ≡ option_to_list found ++ new → (found ≡ None) × (old ≡ new)
found_none old new (Some m) is e = cc
found_none old new None is e = (refl, e)

-- no row is left
pub rows_out : (s : NextMarks) → reads_left s ≡ [] → listed_left s.rows ≡ [] → rows_left s ≡ []
rows_out s none e =
    ap (λ l. l ++ next_of_rows (lanes_read s.table.now) (lanes_written s.table.now) s.low s.high (listed_left s.rows)) none
    ∙ ap (next_of_rows (lanes_read s.table.now) (lanes_written s.table.now) s.low s.high) e
