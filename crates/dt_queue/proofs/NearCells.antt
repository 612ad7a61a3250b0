-- The marks of the nearest cells before a cell that clash with it, as they are found in the lanes.
use Rattle.std.proofs.Common.{◌≡◌, ◌⊎◌, ℕ, ◌<◌, ◌≤◌, List, []}
use Rattle.std.proofs.Common.{◌∷◌, Option, Some, None, option_to_list, refl, ap, sym, subst, inl, inr, arith, ◌∙◌}
use Rattle.std.proofs.lemmas.Bool.{cases_order, false≢true}
use Rattle.std.specs.List.{filter}
use Rattle.std.specs.Option.{option_or}
use Rattle.std.proofs.Math.Nat.{lt_trans}
use Rattle.slab.specs.Slab.{get}
use Rattle.dt_lists.specs.Lists.{Has}
use Rattle.dt_lists.proofs.Callers.{all_get, any_get, any_put}
use Rattle.dt_access.specs.Clash.{is_whole}
use Rattle.dt_access.specs.declared.access.Mode.{Mode}
use Rattle.dt_access.specs.declared.access.Mode.TheVariants.{Read, Write, Whole}
use Rattle.dt_queue.specs.declared.cell.Cell.{Cell}
use Rattle.dt_queue.specs.declared.mark.Mark.{Mark}
use Rattle.dt_queue.specs.declared.kept.Kept.{Kept}
use Rattle.dt_queue.specs.KeptInner.{CellsClash, AreQueuesKept, HasOneNear, IsNearInMode, IsNearMark, IsNearOf, IsTakenWhole, lane, mark_of}
use Rattle.dt_queue.specs.LanesInner.{AreMarks, HasRisingNumbers, IsBetween, IsLastBetween, IsLastIn, IsNearInRow, is_between, number_or}
use Rattle.dt_queue.specs.ListedInner.{rows_between}
use Rattle.dt_queue.specs.RowsInner.{granule_at, links}
use Rattle.dt_queue.proofs.NearMarks.{AreLanesOfRow, either_between, in_between, near_reads, near_write, row_of, same_mark}
use Rattle.dt_queue.proofs.RowsUsed.{marks_found}
use Rattle.dt_queue.proofs.CellUses.{InUseOf, IsMarkOf, IsNarrow, apart_lanes, cell_in_row, cell_of, clash_turned, clash_uses, lane_tells, one_use}
use Rattle.dt_queue.proofs.CellUses.{number_of_mark, on_one_row, one_cell, one_granule, narrow_cell, reads_agree, row_in_granule, taker_of, use_clashes, whole_clashes, write_clashes}

-- ---- a row where no mark is nearest has none

-- a lane has a last mark between two numbers, or none
pub last_there : (low high : ℕ) (ms : List Mark) → HasRisingNumbers ms → (o : Option Mark) × IsLastBetween low high ms o
last_there low high [] num = (None, λ m h. absurd h)
last_there low high (x ∷ xs) num = by (last_there low high xs num.1)
  where
    by : (o : Option Mark) × IsLastBetween low high xs o → (o : Option Mark) × IsLastBetween low high (x ∷ xs) o
    by (Some k, l) = (
      Some k,
      (inr l.0, l.1, λ j h b. elim h [ inl e ↦ subst (λ (y : Mark). y.number ≤ k.number) e (below l.0) | inr g ↦ l.2 j g b ]),
    )
      where
        below : Has xs k → x.number ≤ k.number
        below h = omega (arith, all_get (λ (y : Mark). x.number < y.number) xs num.0 k h)
    by (None, l) = elim (either_between low high x) [
      | inl b ↦ (Some x, (inl refl, b, λ j h c. elim h [ inl e ↦ subst (λ (y : Mark). y.number ≤ x.number) e (omega arith) | inr g ↦ absurd (l j g c) ]))
      | inr ne ↦ (None, λ j h c. elim h [ inl e ↦ ne (subst (IsBetween low high) (sym e) c) | inr g ↦ l j g c ])
    ]

either_empty : (ms : List Mark) → (ms ≡ []) ⊎ ((m : Mark) × Has ms m)
either_empty [] = inl refl
either_empty (m ∷ ms) = inr (m, inl refl)

pub row_empty : (reads writes : List Mark) (low high : ℕ) → AreLanesOfRow reads writes → ((m : Mark) → ¬ (IsNearInRow reads writes low high m)) → (m : Mark) → IsBetween low high m → Has reads m ⊎ Has writes m → ⊥
row_empty reads writes low high row none m b h = by (last_there low high writes row.writes_numbered)
  where
    by : (o : Option Mark) × IsLastBetween low high writes o → ⊥
    by (o, l) = elim (either_empty (filter (is_between (number_or o low) high) reads)) [
      | inr r ↦ none r.0 (((near_reads reads writes low high o row l r.0 r.1).members r.0).0 r.1)
      | inl e ↦ left o l e
    ]
      where
        left : (o : Option Mark) → IsLastBetween low high writes o → filter (is_between (number_or o low) high) reads ≡ [] → ⊥
        left (Some w) l e = none w (((near_write reads writes low high (Some w) row l e).members w).0 (inl refl))
        left None l e = elim h [ inl r ↦ subst (λ ms. Has ms m) e (in_between low high reads m r b) | inr w ↦ l m w b ]

-- ---- what is near is in use, and clashes with nothing in use after it

-- nothing in use after a mark clashes with it
abbrev pub IsClearAfter : Mode → Kept → Cell → Mark → Cell → Type 0
IsClearAfter mode k x m c = (j : Mark) (d : Cell) → IsMarkOf k j d → InUseOf mode k x.row j → m.number < j.number → j.number < x.number → ¬ (CellsClash (links k.rows) c d)

clear_row : (k : Kept) → AreQueuesKept k → (x : Cell) (row low : ℕ) (m : Mark) (c : Cell) → IsMarkOf k m c → IsNearInRow (lane k Read row) (lane k Write row) low x.number m
    → (j : Mark) (d : Cell) → IsMarkOf k j d → Has (lane k Read row) j ⊎ Has (lane k Write row) j → m.number < j.number → j.number < x.number → ¬ (CellsClash (links k.rows) c d)
clear_row k kept x row low m c a near j d b used lt le clash = elim near.1 [
  | inl read ↦ elim used [
    | inl r ↦ reads_agree (links k.rows) c d (lane_tells k kept Read row m c a read.0).0 (lane_tells k kept Read row j d b r).0 clash
    | inr w ↦ read.1 j w (lt, le)
  ]
  | inr write ↦ elim used [ inl r ↦ write.2 j r (lt, le) | inr w ↦ write.1 j w (lt, le) ]
]

pub near_is_clear : (mode : Mode) (k : Kept) → AreQueuesKept k → (x : Cell) (low : ℕ) (m : Mark) (c : Cell) → IsMarkOf k m c → IsNearOf mode k x.row low x.number m
    → InUseOf mode k x.row m × IsBetween low x.number m × IsClearAfter mode k x m c
near_is_clear Read k kept x low m c a near = (near.0, near.1, λ j d b used lt le clash. near.2 j used (lt, le))
near_is_clear Write k kept x low m c a near = (one_use near.1, near.0, λ j d b used lt le clash. clear_row k kept x x.row low m c a near j d b used lt le clash)
near_is_clear Whole k kept x low m c a near =
    let r = any_get (λ row. IsNearInRow (lane k Read row) (lane k Write row) low x.number m) (rows_between k.listed (granule_at (links k.rows) x.row) low x.number) near in (
      (r.0, row_in_granule k kept (granule_at (links k.rows) x.row) low x.number r.0 r.1, one_use r.2.1),
      r.2.0,
      λ j d b used lt le clash. clear r.0 r.2 j d b used lt le clash,
    )
  where
    clear : (row : ℕ) → IsNearInRow (lane k Read row) (lane k Write row) low x.number m → (j : Mark) (d : Cell) → IsMarkOf k j d
        → (s : ℕ) × (granule_at (links k.rows) s ≡ granule_at (links k.rows) x.row) × (Has (lane k Read s) j ⊎ Has (lane k Write s) j) → m.number < j.number → j.number < x.number → ¬ (CellsClash (links k.rows) c d)
    clear row near j d b s lt le clash =
        let p = narrow_cell k kept row m c a (one_use near.1) in
        let q = narrow_cell k kept s.0 j d b s.2 in
        let one : s.0 ≡ row = sym q.1 ∙ sym (on_one_row (links k.rows) c d p.0 q.0 clash) ∙ p.1 in
        clear_row k kept x row low m c a near j d b (subst (λ r. Has (lane k Read r) j ⊎ Has (lane k Write r) j) one s.2) lt le clash

-- and the other way round
near_in_row : (k : Kept) → AreQueuesKept k → (x : Cell) (row low : ℕ) (m : Mark) (c : Cell) → IsMarkOf k m c → Has (lane k Read row) m ⊎ Has (lane k Write row) m → IsBetween low x.number m
    → ((j : Mark) (d : Cell) → IsMarkOf k j d → Has (lane k Read row) j ⊎ Has (lane k Write row) j → m.number < j.number → j.number < x.number → ¬ (CellsClash (links k.rows) c d))
    → IsNearInRow (lane k Read row) (lane k Write row) low x.number m
near_in_row k kept x row low m c a (inl r) b clear = (b, inl (r, λ j w e. meets j w e))
  where
    meets : (j : Mark) → Has (lane k Write row) j → IsBetween m.number x.number j → ⊥
    meets j w e =
        let d = cell_of k kept Write row j w in
        let q = lane_tells k kept Read row m c a r in
        clear j d.0 d.1 (inr w) e.0 e.1 (clash_turned (links k.rows) d.0 c (write_clashes (links k.rows) d.0 c d.2.0 (d.2.1 ∙ sym q.1)))
near_in_row k kept x row low m c a (inr w) b clear = (b, inr (w, (λ j h e. meets Write j h (inr h) e), (λ j h e. meets Read j h (inl h) e)))
  where
    meets : (mode : Mode) (j : Mark) → Has (lane k mode row) j → Has (lane k Read row) j ⊎ Has (lane k Write row) j → IsBetween m.number x.number j → ⊥
    meets mode j h used e =
        let d = cell_in_row k kept row j used in
        let q = lane_tells k kept Write row m c a w in
        clear j d.0 d.1 used e.0 e.1 (write_clashes (links k.rows) c d.0 q.0 (q.1 ∙ sym d.2))

pub clear_is_near : (mode : Mode) (k : Kept) → AreQueuesKept k → (x : Cell) (low : ℕ) → IsTakenWhole k (granule_at (links k.rows) x.row) low
    → (m : Mark) (c : Cell) → IsMarkOf k m c → InUseOf mode k x.row m → IsBetween low x.number m → IsClearAfter mode k x m c
    → IsNearOf mode k x.row low x.number m
clear_is_near Read k kept x low taken m c a used b clear = (used, b, λ j w e. meets j w e)
  where
    meets : (j : Mark) → Has (lane k Write x.row) j → IsBetween m.number x.number j → ⊥
    meets j w e =
        let d = cell_of k kept Write x.row j w in
        let q = lane_tells k kept Write x.row m c a used in
        clear j d.0 d.1 w e.0 e.1 (write_clashes (links k.rows) c d.0 q.0 (q.1 ∙ sym d.2.1))
clear_is_near Write k kept x low taken m c a used b clear = near_in_row k kept x x.row low m c a used b clear
clear_is_near Whole k kept x low taken m c a used b clear =
    any_put (λ row. IsNearInRow (lane k Read row) (lane k Write row) low x.number m) (rows_between k.listed (granule_at (links k.rows) x.row) low x.number) used.0
    (marks_found k kept.listed (granule_at (links k.rows) x.row) used.0 low x.number m taken used.1 used.2 b.0 b.1)
    (near_in_row k kept x used.0 low m c a used.2 b (λ j d f u lt le. clear j d f (used.0, used.1, u) lt le))

-- where none is near, none is in use
pub none_in_use : (mode : Mode) (k : Kept) → AreQueuesKept k → (x : Cell) (low : ℕ) → IsTakenWhole k (granule_at (links k.rows) x.row) low
    → ((m : Mark) → ¬ (IsNearOf mode k x.row low x.number m)) → (m : Mark) → InUseOf mode k x.row m → ¬ (IsBetween low x.number m)
none_in_use Read k kept x low taken none m used b = by (last_there low x.number (lane k Write x.row) (kept.lanes Write x.row).numbered)
  where
    by : (o : Option Mark) × IsLastBetween low x.number (lane k Write x.row) o → ⊥
    by (None, l) = l m used b
    by (Some w, l) = none w (l.0, l.1, λ j h e. after j (l.2 j h (lt_trans l.1.0 e.0, e.1)) e.0)
      where
        after : (j : Mark) → j.number ≤ w.number → w.number < j.number → ⊥
        after j le lt = omega (arith, le, lt)
none_in_use Write k kept x low taken none m used b = row_empty (lane k Read x.row) (lane k Write x.row) low x.number (row_of _ _ (apart_lanes k kept) x.row) none m b used
none_in_use Whole k kept x low taken none m used b =
    row_empty (lane k Read used.0) (lane k Write used.0) low x.number (row_of _ _ (apart_lanes k kept) used.0)
    (λ j near. none j (any_put (λ row. IsNearInRow (lane k Read row) (lane k Write row) low x.number j) (rows_between k.listed (granule_at (links k.rows) x.row) low x.number) used.0
    (marks_found k kept.listed (granule_at (links k.rows) x.row) used.0 low x.number m taken used.1 used.2 b.0 b.1) near)) m b used.2

-- the number of the last that takes the granule, or 0
pub taken_low : (k : Kept) (g top : ℕ) (o : Option Mark) → IsLastBetween 0 top (lane k Whole g) o → IsTakenWhole k g (number_or o 0)
taken_low k g top None last = inl refl
taken_low k g top (Some w) last = inr (w, last.0, refl)

-- ---- the nearest cells before a cell

module _ (k : Kept) (kept : AreQueuesKept k) (x : Cell) (o : Option Mark) (last : IsLastBetween 0 x.number (lane k Whole (granule_at (links k.rows) x.row)) o) where
  abbrev taken : List Mark
  taken = lane k Whole (granule_at (links k.rows) x.row)

  -- what takes the granule stands not after the last that does
  not_later : (m : Mark) (c : Cell) → IsMarkOf k m c → Has taken m → m.number < x.number → m.number ≤ number_or o 0
  not_later m c a h lt = by o last
    where
      positive : 0 < m.number
      positive = let b = kept.counted m.slot c a.there in omega (arith, b.0, number_of_mark k m c a)

      by : (o : Option Mark) → IsLastBetween 0 x.number taken o → m.number ≤ number_or o 0
      by None l = absurd (l m h (positive, lt))
      by (Some w) l = l.2 m h (positive, lt)

  -- a near mark that is in use stands after the last that takes the granule
  later : (m : Mark) (c : Cell) → IsMarkOf k m c → IsNarrow c.mode → CellsClash (links k.rows) c x → m.number < x.number
      → ((t : ℕ) (d : Cell) → get k.cells t ≡ Some d → c.number < d.number → d.number < x.number → CellsClash (links k.rows) c d → ¬ (CellsClash (links k.rows) d x)) → number_or o 0 < m.number
  later m c a part clash lt free = by o last
    where
      positive : 0 < m.number
      positive = let b = kept.counted m.slot c a.there in omega (arith, b.0, number_of_mark k m c a)

      by : (o : Option Mark) → IsLastBetween 0 x.number taken o → number_or o 0 < m.number
      by None l = positive
      by (Some w) l =
          let d = cell_of k kept Whole (granule_at (links k.rows) x.row) w l.0 in
          elim (cases_order w.number m.number) [
            | inl e ↦ absurd (differ d.0 d.2.0 (one_cell k kept w m d.0 c d.1 a e))
            | inr other ↦ elim other [
              | inl less ↦ less
              | inr gt ↦ absurd (free w.slot d.0 d.1.there (up d.0 d.1 gt) (below d.0 d.1 l.1.1)
                  (clash_turned (links k.rows) d.0 c (whole_clashes (links k.rows) d.0 c d.2.0 (d.2.1 ∙ sym (one_granule (links k.rows) c x clash))))
                  (whole_clashes (links k.rows) d.0 x d.2.0 d.2.1))
            ]
          ]
        where
          differ : (d : Cell) → d.mode ≡ Whole → d ≡ c → ⊥
          differ d e f = false≢true (sym part ∙ ap (λ (y : Cell). is_whole y.mode) (sym f) ∙ ap is_whole e)

          up : (d : Cell) → IsMarkOf k w d → m.number < w.number → c.number < d.number
          up d b gt = omega (arith, gt, number_of_mark k w d b, number_of_mark k m c a)

          below : (d : Cell) → IsMarkOf k w d → w.number < x.number → d.number < x.number
          below d b lt = omega (arith, lt, number_of_mark k w d b)

  -- what is near by its mode is near
  pub near_of_mode : (m : Mark) → IsNearInMode k x (number_or o 0) m → IsNearMark k x m
  near_of_mode m near =
      let c = near_cell x.mode near in
      let b = near_is_clear x.mode k kept x (number_or o 0) m c.0 c.1 near in
      let u = use_clashes x.mode k kept x refl m c.0 c.1 b.0 in
      (c.0, c.1.there, c.1.is, below c.0 c.1 b.1.1, u.1, λ t d e lt le clash other. free c.0 c.1 b.1.0 b.2 t d e lt le clash other)
    where
      near_cell : (mode : Mode) → IsNearOf mode k x.row (number_or o 0) x.number m → (c : Cell) × IsMarkOf k m c
      near_cell Read n = let d = cell_of k kept Write x.row m n.0 in (d.0, d.1)
      near_cell Write n = let d = cell_in_row k kept x.row m (one_use n.1) in (d.0, d.1)
      near_cell Whole n =
          let r = any_get (λ row. IsNearInRow (lane k Read row) (lane k Write row) (number_or o 0) x.number m) (rows_between k.listed (granule_at (links k.rows) x.row) (number_or o 0) x.number) n in
          let d = cell_in_row k kept r.0 m (one_use r.2.1) in
          (d.0, d.1)

      below : (c : Cell) → IsMarkOf k m c → m.number < x.number → c.number < x.number
      below c a lt = omega (arith, lt, number_of_mark k m c a)

      free : (c : Cell) → IsMarkOf k m c → number_or o 0 < m.number → IsClearAfter x.mode k x m c
          → (t : ℕ) (d : Cell) → get k.cells t ≡ Some d → c.number < d.number → d.number < x.number → CellsClash (links k.rows) c d → ¬ (CellsClash (links k.rows) d x)
      free c a low clear t d e lt le clash other =
          let b : IsMarkOf k (mark_of t d) d = record { there = e; is = refl } in
          elim (clash_uses x.mode k kept x refl (mark_of t d) d b other d.mode refl) [
            | inl h ↦ past (not_later (mark_of t d) d b h le)
            | inr used ↦ clear (mark_of t d) d b used (omega (arith, lt, number_of_mark k m c a)) le clash
          ]
        where
          past : d.number ≤ number_or o 0 → ⊥
          past h = omega (arith, h, low, lt, number_of_mark k m c a)

  -- a near mark is near by its mode, or takes the granule as a whole
  pub mode_of_near : (m : Mark) → IsNearMark k x m → Has taken m ⊎ IsNearInMode k x (number_or o 0) m
  mode_of_near m n =
      let c = n.0 in
      let a : IsMarkOf k m c = record { there = n.1; is = n.2 } in
      elim (clash_uses x.mode k kept x refl m c a n.4 c.mode refl) [
        | inl h ↦ inl h
        | inr used ↦ inr (clear_is_near x.mode k kept x (number_or o 0) (taken_low k (granule_at (links k.rows) x.row) x.number o last) m c a used
            (later m c a (use_clashes x.mode k kept x refl m c a used).0 n.4 (below c a n.3) n.5, below c a n.3)
            (λ j d b u lt le clash. n.5 j.slot d b.there (omega (arith, lt, number_of_mark k m c a, number_of_mark k j d b)) (omega (arith, le, number_of_mark k j d b)) clash (use_clashes x.mode k kept x refl j d b u).1))
      ]
    where
      below : (c : Cell) → IsMarkOf k m c → c.number < x.number → m.number < x.number
      below c a lt = omega (arith, lt, number_of_mark k m c a)

  -- where some are near by their mode, nothing else is
  pub near_marks : (ms : List Mark) (r : Mark) → Has ms r → AreMarks (IsNearInMode k x (number_or o 0)) ms → AreMarks (IsNearMark k x) ms
  near_marks ms r here marks = record {
    numbered = marks.numbered;
    members = λ m. (
      λ h. near_of_mode m ((marks.members m).0 h),
      λ n. (marks.members m).1 (elim (mode_of_near m n) [ inl h ↦ absurd (taker m n h) | inr g ↦ g ]),
    );
  }
    where
      taker : (m : Mark) → IsNearMark k x m → Has taken m → ⊥
      taker m n h =
          let c = n.0 in
          let a : IsMarkOf k m c = record { there = n.1; is = n.2 } in
          let near = near_of_mode r ((marks.members r).0 here) in
          let d = near.0 in
          let b : IsMarkOf k r d = record { there = near.1; is = near.2 } in
          let clear = near_is_clear x.mode k kept x (number_or o 0) r d b ((marks.members r).0 here) in
          let t = taker_of k kept x m c a h in
          n.5 r.slot d near.1 (up c a d b (not_later m c a h (omega (arith, n.3, number_of_mark k m c a))) clear.1.0) near.3
          (whole_clashes (links k.rows) c d t.0 (t.1 ∙ sym (one_granule (links k.rows) d x near.4))) near.4
        where
          up : (c : Cell) → IsMarkOf k m c → (d : Cell) → IsMarkOf k r d → m.number ≤ number_or o 0 → number_or o 0 < r.number → c.number < d.number
          up c a d b le lt = omega (arith, le, lt, number_of_mark k m c a, number_of_mark k r d b)

  -- where none is, the last that takes the granule as a whole is near
  pub near_taker : AreMarks (IsNearInMode k x (number_or o 0)) [] → AreMarks (IsNearMark k x) (option_to_list o)
  near_taker marks = by o last (λ m u. none_in_use x.mode k kept x (number_or o 0) (taken_low k (granule_at (links k.rows) x.row) x.number o last) (λ j n. (marks.members j).1 n) m u)
      (λ m n. elim (mode_of_near m n) [ inl h ↦ h | inr g ↦ absurd ((marks.members m).1 g) ])
    where
      by : (o : Option Mark) → IsLastBetween 0 x.number taken o → ((m : Mark) → InUseOf x.mode k x.row m → ¬ (IsBetween (number_or o 0) x.number m)) → ((m : Mark) → IsNearMark k x m → Has taken m)
          → AreMarks (IsNearMark k x) (option_to_list o)
      by None l none all = record {
        numbered = tt;
        members = λ m. (λ h. absurd h, λ n. l m (all m n) (positive m n, omega (arith, n.3, number_of_mark k m n.0 (record { there = n.1; is = n.2 }))));
      }
        where
          positive : (m : Mark) → IsNearMark k x m → 0 < m.number
          positive m n = let b = kept.counted m.slot n.0 n.1 in omega (arith, b.0, number_of_mark k m n.0 (record { there = n.1; is = n.2 }))
      by (Some w) l none all = record {
        numbered = (tt, tt);
        members = λ m. (λ h. elim h [ inl e ↦ subst (IsNearMark k x) e near_w | inr g ↦ absurd g ], λ n. inl (is_w m n));
      }
        where
          near_w : IsNearMark k x w
          near_w =
              let d = cell_of k kept Whole (granule_at (links k.rows) x.row) w l.0 in
              (d.0, d.1.there, d.1.is, below d.0 d.1, whole_clashes (links k.rows) d.0 x d.2.0 d.2.1, λ t y e lt le clash other. free d.0 d.1 t y e lt le other)
            where
              below : (d : Cell) → IsMarkOf k w d → d.number < x.number
              below d a = omega (arith, l.1.1, number_of_mark k w d a)

              free : (d : Cell) → IsMarkOf k w d → (t : ℕ) (y : Cell) → get k.cells t ≡ Some y → d.number < y.number → y.number < x.number → CellsClash (links k.rows) y x → ⊥
              free d a t y e lt le other =
                  let b : IsMarkOf k (mark_of t y) y = record { there = e; is = refl } in
                  elim (clash_uses x.mode k kept x refl (mark_of t y) y b other y.mode refl) [
                    | inl h ↦ after (l.2 (mark_of t y) h (omega (arith, lt), le))
                    | inr used ↦ none (mark_of t y) used (omega (arith, lt, number_of_mark k w d a), le)
                  ]
                where
                  after : y.number ≤ w.number → ⊥
                  after h = omega (arith, h, lt, number_of_mark k w d a)

          is_w : (m : Mark) → IsNearMark k x m → w ≡ m
          is_w m n =
              let c = n.0 in
              let a : IsMarkOf k m c = record { there = n.1; is = n.2 } in
              let h = all m n in
              let t = taker_of k kept x m c a h in
              let d = cell_of k kept Whole (granule_at (links k.rows) x.row) w l.0 in
              let le : m.number ≤ w.number = l.2 m h (positive c a, omega (arith, n.3, number_of_mark k m c a)) in
              same_mark taken (kept.lanes Whole (granule_at (links k.rows) x.row)).numbered w m l.0 h
              (elim (cases_order w.number m.number) [
                | inl e ↦ e
                | inr other ↦ elim other [
                  | inl less ↦ absurd (omega (arith, less, le))
                  | inr gt ↦ absurd (n.5 w.slot d.0 d.1.there (up c a d.0 d.1 gt) (below d.0 d.1) (whole_clashes (links k.rows) c d.0 t.0 (t.1 ∙ sym d.2.1)) (whole_clashes (links k.rows) d.0 x d.2.0 d.2.1))
                ]
              ])
            where
              positive : (c : Cell) → IsMarkOf k m c → 0 < m.number
              positive c a = let b = kept.counted m.slot c a.there in omega (arith, b.0, number_of_mark k m c a)

              up : (c : Cell) → IsMarkOf k m c → (d : Cell) → IsMarkOf k w d → m.number < w.number → c.number < d.number
              up c a d b gt = omega (arith, gt, number_of_mark k m c a, number_of_mark k w d b)

              below : (d : Cell) → IsMarkOf k w d → d.number < x.number
              below d b = omega (arith, l.1.1, number_of_mark k w d b)

-- ---- where one mark at most is near

-- of a lane that is not read the last mark between two numbers is near
last_in_row : (reads writes ms : List Mark) (low high : ℕ) → reads ≡ [] → AreMarks (IsLastIn writes low high) ms → AreMarks (IsNearInRow reads writes low high) ms
last_in_row reads writes ms low high none last = record {
  numbered = last.numbered;
  members = λ m. (
    λ h. let l = (last.members m).0 h in (l.1, inr (l.0, l.2, λ j g b. subst (λ rs. Has rs j) none g)),
    λ n. (last.members m).1 (elim n.1 [ inl r ↦ absurd (subst (λ rs. Has rs m) none r.0) | inr w ↦ (w.0, n.0, w.1) ]),
  );
}

pub one_in_mode : (k : Kept) (x : Cell) (low : ℕ) (ms : List Mark) → HasOneNear k x → AreMarks (IsLastIn (lane k Write x.row) low x.number) ms → AreMarks (IsNearInMode k x low) ms
one_in_mode k x low ms (inl read) last = subst (λ mode. AreMarks (IsNearOf mode k x.row low x.number) ms) (sym read) last
one_in_mode k x low ms (inr write) last =
    subst (λ mode. AreMarks (IsNearOf mode k x.row low x.number) ms) (sym write.0) (last_in_row (lane k Read x.row) (lane k Write x.row) ms low x.number write.1 last)

-- it is the one that is found, or else the last that takes the granule as a whole
pub near_or_taker : (k : Kept) → AreQueuesKept k → (x : Cell) (o : Option Mark) → IsLastBetween 0 x.number (lane k Whole (granule_at (links k.rows) x.row)) o
    → (w : Option Mark) → AreMarks (IsNearInMode k x (number_or o 0)) (option_to_list w) → AreMarks (IsNearMark k x) (option_to_list (option_or w o))
near_or_taker k kept x o last None marks = near_taker k kept x o last marks
near_or_taker k kept x o last (Some w) marks = near_marks k kept x o last (w ∷ []) w (inl refl) marks
