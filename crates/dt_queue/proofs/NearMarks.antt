-- What is nearest in a row: of the marks of its reads and writes between two numbers those that one of the two ends waits for.
use Rattle.std.proofs.Common.{◌≡◌, ◌⊎◌, ◌↔◌, ℕ, suc, ◌+◌, ◌<◌, ◌≤◌}
use Rattle.std.proofs.Common.{List, [], ◌∷◌, ◌++◌, length, get_or, Option, Some, None, option_to_list}
use Rattle.std.proofs.Common.{refl, ap, sym, subst, inl, inr, arith, ◌∙◌, length-append}
use Rattle.std.specs.List.{filter}
use Rattle.std.proofs.lemmas.Bool.{cases_lt, cases_order}
use Rattle.dt_lists.specs.Lists.{Has}
use Rattle.dt_lists.proofs.Callers.{all_get, filter_each, has_filter, has_of_filtered, some_same}
use Rattle.dt_queue.specs.declared.mark.Mark.{Mark}
use Rattle.std.proofs.lemmas.List.{append-nil}
use Rattle.std.proofs.Math.Nat.{lt_trans}
use Rattle.dt_queue.specs.LanesInner.{AddsMarks, AreApart, AreMarks, HasRisingNumbers, IsBetween, IsFirstBetween, IsFirstIn, IsLastBetween, IsLastIn, IsNearInRow, IsNextInRow, NoneBetween, is_between, number_or}
use Rattle.dt_queue.proofs.Marks.{between_true}

-- a number lies between two numbers, or not
pub either_between : (low high : ℕ) (m : Mark) → IsBetween low high m ⊎ ¬ (IsBetween low high m)
either_between low high m = elim (cases_lt low m.number) [
  | inl a ↦ elim (cases_lt m.number high) [ inl b ↦ inl (a, b) | inr b ↦ inr (λ c. omega (arith, b, c.1)) ]
  | inr a ↦ inr (λ c. omega (arith, a, c.0))
]

-- in a lane a number stands once
pub same_mark : (ms : List Mark) → HasRisingNumbers ms → (m k : Mark) → Has ms m → Has ms k → m.number ≡ k.number → m ≡ k
same_mark [] num m k h g e = absurd h
same_mark (x ∷ xs) num m k (inl p) (inl q) e = sym p ∙ q
same_mark (x ∷ xs) num m k (inl p) (inr g) e =
    let after : x.number < k.number = all_get (λ y. x.number < y.number) xs num.0 k g in
    let here : x.number ≡ m.number = ap (λ (y : Mark). y.number) p in
    absurd (omega (arith, after, here, e))
same_mark (x ∷ xs) num m k (inr h) (inl q) e =
    let after : x.number < m.number = all_get (λ y. x.number < y.number) xs num.0 m h in
    let here : x.number ≡ k.number = ap (λ (y : Mark). y.number) q in
    absurd (omega (arith, after, here, e))
same_mark (x ∷ xs) num m k (inr h) (inr g) e = same_mark xs num.1 m k h g e

-- what a filter by numbers has
pub of_between : (low high : ℕ) (ms : List Mark) (m : Mark) → Has (filter (is_between low high) ms) m → Has ms m × IsBetween low high m
of_between low high ms m h =
    let both = has_of_filtered (is_between low high) ms m h in
    (both.0, grind (arith, both.1))

pub in_between : (low high : ℕ) (ms : List Mark) (m : Mark) → Has ms m → IsBetween low high m → Has (filter (is_between low high) ms) m
in_between low high ms m h b = has_filter (is_between low high) ms m h (between_true low high m b)

-- the lanes of one row: numbered, and no number in both
pub record AreLanesOfRow (reads writes : List Mark) : Type 0 where
  pub reads_numbered : HasRisingNumbers reads
  pub writes_numbered : HasRisingNumbers writes
  pub apart : (m k : Mark) → Has reads m → Has writes k → ¬ (m.number ≡ k.number)

pub none_more : {A : Type 0} (xs ys : List A) → length (xs ++ ys) ≡ length xs → ys ≡ []
none_more xs [] e = refl
none_more xs (y ∷ ys) e = let sum : length (xs ++ y ∷ ys) ≡ length xs + suc (length ys) = length-append xs (y ∷ ys) in absurd (omega (arith, e, sum))

pub some_more : {A : Type 0} (xs ys : List A) → ¬ (length (xs ++ ys) ≡ length xs) → (y : A) × Has ys y
some_more xs [] ne = let sum : length (xs ++ []) ≡ length xs + 0 = length-append xs [] in absurd (ne (omega (arith, sum)))
some_more xs (y ∷ ys) ne = (y, inl refl)

-- where some read the row after the last write, they are the nearest
pub near_reads : (reads writes : List Mark) (low high : ℕ) (w : Option Mark) → AreLanesOfRow reads writes → IsLastBetween low high writes w
    → (r : Mark) → Has (filter (is_between (number_or w low) high) reads) r → AreMarks (IsNearInRow reads writes low high) (filter (is_between (number_or w low) high) reads)
near_reads reads writes low high None row last r here = record {
  numbered = filter_each (λ m k. m.number < k.number) (is_between low high) reads row.reads_numbered;
  members = λ m. (
    λ h. let b = of_between low high reads m h in (b.1, inl (b.0, λ k g e. last k g (omega (arith, e.0, b.1.0), e.1))),
    λ near. elim near.1 [
      | inl read ↦ in_between low high reads m read.0 near.0
      | inr write ↦ absurd (last m write.0 near.0)
    ],
  );
}
near_reads reads writes low high (Some w) row last r here = record {
  numbered = filter_each (λ m k. m.number < k.number) (is_between w.number high) reads row.reads_numbered;
  members = λ m. (
    λ h. let b = of_between w.number high reads m h in ((omega (arith, b.1.0, last.1.0), b.1.1), inl (b.0, λ k g e. behind m k b.1.0 e.0 (last.2 k g (omega (arith, e.0, b.1.0, last.1.0), e.1)))),
    λ near. elim near.1 [
      | inl read ↦ in_between w.number high reads m read.0 (past m read.0 read.1, near.0.1)
      | inr write ↦ absurd (let b = of_between w.number high reads r here in write.2 r b.0 (up m (last.2 m write.0 near.0) b.1.0, b.1.1))
    ],
  );
}
  where
    behind : (m k : Mark) → w.number < m.number → m.number < k.number → k.number ≤ w.number → ⊥
    behind m k a b c = omega (arith, a, b, c)

    up : (m : Mark) → m.number ≤ w.number → w.number < r.number → m.number < r.number
    up m a b = omega (arith, a, b)

    past : (m : Mark) → Has reads m → NoneBetween m.number high writes → w.number < m.number
    past m h none = elim (cases_order m.number w.number) [
      | inl same ↦ absurd (row.apart m w h last.0 same)
      | inr other ↦ elim other [ inl less ↦ absurd (none w last.0 (less, last.1.1)) | inr after ↦ after ]
    ]

-- where none does, the last write is
pub near_write : (reads writes : List Mark) (low high : ℕ) (w : Option Mark) → AreLanesOfRow reads writes → IsLastBetween low high writes w
    → filter (is_between (number_or w low) high) reads ≡ [] → AreMarks (IsNearInRow reads writes low high) (option_to_list w)
near_write reads writes low high None row last empty = record {
  numbered = tt;
  members = λ m. (
    λ h. absurd h,
    λ near. elim near.1 [
      | inl read ↦ absurd (subst (λ l. Has l m) empty (in_between low high reads m read.0 near.0))
      | inr write ↦ absurd (last m write.0 near.0)
    ],
  );
}
near_write reads writes low high (Some w) row last empty = record {
  numbered = (tt, tt);
  members = λ m. (
    λ h. elim h [ inl e ↦ subst (IsNearInRow reads writes low high) e near_w | inr g ↦ absurd g ],
    λ near. inl (elim near.1 [
      | inl read ↦ absurd (elim (cases_order m.number w.number) [
        | inl same ↦ row.apart m w read.0 last.0 same
        | inr other ↦ elim other [
          | inl less ↦ read.1 w last.0 (less, last.1.1)
          | inr after ↦ none_left m read.0 (after, near.0.1)
        ]
      ])
      | inr write ↦ same_mark writes row.writes_numbered w m last.0 write.0 (elim (cases_order m.number w.number) [
        | inl same ↦ sym same
        | inr other ↦ absurd (elim other [
          | inl less ↦ write.1 w last.0 (less, last.1.1)
          | inr after ↦ not_after m after (last.2 m write.0 near.0)
        ])
      ])
    ]),
  );
}
  where
    none_left : (m : Mark) → Has reads m → IsBetween w.number high m → ⊥
    none_left m h b = subst (λ l. Has l m) empty (in_between w.number high reads m h b)

    not_after : (m : Mark) → w.number < m.number → m.number ≤ w.number → ⊥
    not_after m a b = omega (arith, a, b)

    near_w : IsNearInRow reads writes low high w
    near_w = (last.1, inr (last.0, (λ k g e. not_after k e.0 (last.2 k g (lt_trans last.1.0 e.0, e.1))), (λ k g e. none_left k g e)))

-- ---- the same the other way round: what is next

-- the marks of a row that are next to an earlier entry that writes it: where some read the row before the first write, those
pub next_reads : (reads writes : List Mark) (low high : ℕ) (w : Option Mark) → AreLanesOfRow reads writes → IsFirstBetween low high writes w
    → (r : Mark) → Has reads r → IsBetween low (number_or w high) r → (m : Mark) → IsNextInRow reads writes low high m ↔ (Has reads m × IsBetween low (number_or w high) m)
next_reads reads writes low high None row first r here between m = (
  λ near. elim near.1 [ inl read ↦ (read.0, near.0) | inr write ↦ absurd (first m write.0 near.0) ],
  λ b. (b.1, inl (b.0, λ k g e. first k g (e.0, omega (arith, e.1, b.1.1)))),
)
next_reads reads writes low high (Some w) row first r here between m = (
  λ near. elim near.1 [
    | inl read ↦ (read.0, (near.0.0, before read.0 read.1))
    | inr write ↦ absurd (write.2 r here (between.0, up (first.2 m write.0 near.0) between.1))
  ],
  λ b. ((b.1.0, omega (arith, b.1.1, first.1.1)), inl (b.0, λ k g e. ahead k e.1 b.1.1 (first.2 k g (e.0, omega (arith, e.1, b.1.1, first.1.1))))),
)
  where
    ahead : (k : Mark) → k.number < m.number → m.number < w.number → w.number ≤ k.number → ⊥
    ahead k a b c = omega (arith, a, b, c)

    up : w.number ≤ m.number → r.number < w.number → r.number < m.number
    up a b = omega (arith, a, b)

    before : Has reads m → NoneBetween low m.number writes → m.number < w.number
    before h none = elim (cases_order m.number w.number) [
      | inl same ↦ absurd (row.apart m w h first.0 same)
      | inr other ↦ elim other [ inl less ↦ less | inr after ↦ absurd (none w first.0 (first.1.0, after)) ]
    ]

-- where none does, the first write
pub next_write : (reads writes : List Mark) (low high : ℕ) (w : Option Mark) → AreLanesOfRow reads writes → IsFirstBetween low high writes w
    → ((r : Mark) → Has reads r → ¬ (IsBetween low (number_or w high) r)) → (m : Mark) → IsNextInRow reads writes low high m ↔ (w ≡ Some m)
next_write reads writes low high None row first empty m = (
  λ near. elim near.1 [ inl read ↦ absurd (empty m read.0 near.0) | inr write ↦ absurd (first m write.0 near.0) ],
  λ e. cc,
)
next_write reads writes low high (Some w) row first empty m = (
  λ near. ap Some (elim near.1 [
    | inl read ↦ absurd (elim (cases_order m.number w.number) [
      | inl same ↦ row.apart m w read.0 first.0 same
      | inr other ↦ elim other [
        | inl less ↦ empty m read.0 (near.0.0, less)
        | inr after ↦ read.1 w first.0 (first.1.0, after)
      ]
    ])
    | inr write ↦ same_mark writes row.writes_numbered w m first.0 write.0 (elim (cases_order m.number w.number) [
      | inl same ↦ sym same
      | inr other ↦ absurd (elim other [
        | inl less ↦ not_before m less (first.2 m write.0 near.0)
        | inr after ↦ write.1 w first.0 (first.1.0, after)
      ])
    ])
  ]),
  λ e. subst (IsNextInRow reads writes low high) (some_same e) next_w,
)
  where
    not_before : (k : Mark) → k.number < w.number → w.number ≤ k.number → ⊥
    not_before k a b = omega (arith, a, b)

    next_w : IsNextInRow reads writes low high w
    next_w = (first.1, inr (first.0, (λ k g e. not_before k e.1 (first.2 k g (e.0, lt_trans e.1 first.1.1))), (λ k g e. empty k g e)))

-- ---- as the code asks

pub row_of : (reads writes : List (List Mark)) → AreApart reads writes → (row : ℕ) → AreLanesOfRow (get_or reads row []) (get_or writes row [])
row_of reads writes a row = record {
  reads_numbered = a.reads_numbered row;
  writes_numbered = a.writes_numbered row;
  apart = λ m k h g. a.of_both row row m k h g;
}

-- the last write was appended after no read was
pub added_write : (old some new reads writes : List Mark) (low high n : ℕ) (w : Option Mark) → AreLanesOfRow reads writes → IsLastBetween low high writes w → n ≡ number_or w low
    → some ≡ old ++ filter (is_between n high) reads → length some ≡ length old → new ≡ some ++ option_to_list w → AddsMarks (IsNearInRow reads writes low high) old new
added_write old some new reads writes low high n w row last is items same more =
    let items' : some ≡ old ++ filter (is_between (number_or w low) high) reads = subst (λ k. some ≡ old ++ filter (is_between k high) reads) is items in
    let empty = none_more old (filter (is_between (number_or w low) high) reads) (ap length (sym items') ∙ same) in (
      option_to_list w,
      more ∙ ap (λ l. l ++ option_to_list w) (items' ∙ ap (λ l. old ++ l) empty ∙ append-nil old),
      near_write reads writes low high w row last empty,
    )

-- some reads were appended
pub added_reads : (old new reads writes : List Mark) (low high n : ℕ) (w : Option Mark) → AreLanesOfRow reads writes → IsLastBetween low high writes w → n ≡ number_or w low
    → new ≡ old ++ filter (is_between n high) reads → ¬ (length new ≡ length old) → AddsMarks (IsNearInRow reads writes low high) old new
added_reads old new reads writes low high n w row last is items more =
    let items' : new ≡ old ++ filter (is_between (number_or w low) high) reads = subst (λ k. new ≡ old ++ filter (is_between k high) reads) is items in
    let r = some_more old (filter (is_between (number_or w low) high) reads) (λ e. more (ap length items' ∙ e)) in
    (filter (is_between (number_or w low) high) reads, items', near_reads reads writes low high w row last r.0 r.1)

-- the last of a lane, and the first
pub near_last : (ms : List Mark) (low high : ℕ) (w : Option Mark) → HasRisingNumbers ms → IsLastBetween low high ms w → AreMarks (IsLastIn ms low high) (option_to_list w)
near_last ms low high None num l = record { numbered = tt; members = λ m. (λ h. absurd h, λ p. absurd (l m p.0 p.1)) }
near_last ms low high (Some w) num l = record {
  numbered = (tt, tt);
  members = λ m. (
    λ h. elim h [ inl e ↦ subst (IsLastIn ms low high) e (l.0, l.1, λ k g b. after k (l.2 k g (lt_trans l.1.0 b.0, b.1)) b.0) | inr g ↦ absurd g ],
    λ p. inl (same_mark ms num w m l.0 p.0 (elim (cases_order w.number m.number) [
      | inl e ↦ e
      | inr other ↦ absurd (elim other [ inl less ↦ after m (l.2 m p.0 p.1) less | inr gt ↦ p.2 w l.0 (gt, l.1.1) ])
    ])),
  );
}
  where
    after : (k : Mark) → k.number ≤ w.number → w.number < k.number → ⊥
    after k le lt = omega (arith, le, lt)

pub next_first : (ms : List Mark) (low high : ℕ) (w : Option Mark) → HasRisingNumbers ms → IsFirstBetween low high ms w → (m : Mark) → IsFirstIn ms low high m ↔ (w ≡ Some m)
next_first ms low high None num l m = (λ p. absurd (l m p.0 p.1), λ e. cc)
next_first ms low high (Some w) num l m = (
  λ p. ap Some (same_mark ms num w m l.0 p.0 (elim (cases_order w.number m.number) [
    | inl e ↦ e
    | inr other ↦ absurd (elim other [ inl less ↦ p.2 w l.0 (l.1.0, less) | inr gt ↦ before m (l.2 m p.0 p.1) gt ])
  ])),
  λ e. subst (IsFirstIn ms low high) (some_same e) (l.0, l.1, λ k g b. before k (l.2 k g (b.0, lt_trans b.1 l.1.1)) b.1),
)
  where
    before : (k : Mark) → w.number ≤ k.number → k.number < w.number → ⊥
    before k le lt = omega (arith, le, lt)
