-- The marks of the nearest cells after a cell that clash with it, as they are found in the lanes.
use Rattle.std.proofs.Common.{◌≡◌, ◌⊎◌, ◌↔◌, ℕ, ◌<◌, ◌≤◌, List, []}
use Rattle.std.proofs.Common.{◌∷◌, Option, Some, None, refl, ap, sym, subst, inl, inr, arith, ◌∙◌}
use Rattle.std.proofs.lemmas.Bool.{cases_order, false≢true}
use Rattle.std.proofs.lemmas.Option.{none-some}
use Rattle.std.proofs.Math.Nat.{lt_trans}
use Rattle.slab.specs.Slab.{get}
use Rattle.dt_lists.specs.Lists.{Has}
use Rattle.dt_lists.proofs.Callers.{any_get, any_put, some_same}
use Rattle.dt_access.specs.Clash.{is_whole}
use Rattle.dt_access.specs.declared.access.Mode.{Mode}
use Rattle.dt_access.specs.declared.access.Mode.TheVariants.{Read, Write, Whole}
use Rattle.dt_queue.specs.declared.cell.Cell.{Cell}
use Rattle.dt_queue.specs.declared.mark.Mark.{Mark}
use Rattle.dt_queue.specs.declared.kept.Kept.{Kept}
use Rattle.dt_queue.specs.KeptInner.{CellsClash, AreQueuesKept, IsKeptCell, IsNextInMode, IsNextMark, IsNextOfMode, IsTakenWhole, lane, mark_of}
use Rattle.dt_queue.specs.LanesInner.{IsBetween, IsFirstBetween, IsNextInRow, number_or}
use Rattle.dt_queue.specs.NextInner.{AreEachOnce, or_else_one}
use Rattle.dt_queue.specs.ListedInner.{rows_between}
use Rattle.dt_queue.specs.RowsInner.{granule_at, links}
use Rattle.dt_queue.proofs.NearMarks.{AreLanesOfRow, next_reads, next_write, row_of, same_mark}
use Rattle.dt_queue.proofs.FollowerMarks.{first_there, once_of_one}
use Rattle.dt_queue.proofs.RowsUsed.{marks_found}
use Rattle.dt_queue.proofs.CellUses.{InUseOf, IsMarkOf, IsNarrow, apart_lanes, cell_in_row, cell_of, clash_turned, clash_uses, in_lane, lane_tells, one_use}
use Rattle.dt_queue.proofs.CellUses.{number_of_mark, on_one_row, one_cell, one_granule, narrow_cell, reads_agree, row_in_granule, taker_of, use_clashes, whole_clashes, write_clashes}

-- ---- a row where no mark is next has none

row_empty : (reads writes : List Mark) (low high : ℕ) → AreLanesOfRow reads writes → ((m : Mark) → ¬ (IsNextInRow reads writes low high m)) → (m : Mark) → IsBetween low high m → Has reads m ⊎ Has writes m → ⊥
row_empty reads writes low high row none m b h = by (first_there low high writes row.writes_numbered)
  where
    by : (o : Option Mark) × IsFirstBetween low high writes o → ⊥
    by (o, l) = lanes_read (first_there low (number_or o high) reads row.reads_numbered)
      where
        lanes_read : (r : Option Mark) × IsFirstBetween low (number_or o high) reads r → ⊥
        lanes_read (Some r, f) = none r ((next_reads reads writes low high o row l r f.0 f.1 r).1 (f.0, f.1))
        lanes_read (None, f) = left o l f
          where
            left : (o : Option Mark) → IsFirstBetween low high writes o → ((r : Mark) → Has reads r → ¬ (IsBetween low (number_or o high) r)) → ⊥
            left (Some w) l f = none w ((next_write reads writes low high (Some w) row l f w).1 refl)
            left None l f = elim h [ inl r ↦ f m r b | inr w ↦ l m w b ]

-- ---- what is next is in use, and clashes with nothing in use before it

-- nothing in use before a mark clashes with it
abbrev pub IsClearBefore : Mode → Kept → Cell → Mark → Cell → Type 0
IsClearBefore mode k x m c = (j : Mark) (d : Cell) → IsMarkOf k j d → InUseOf mode k x.row j → x.number < j.number → j.number < m.number → ¬ (CellsClash (links k.rows) d c)

clear_row : (k : Kept) → AreQueuesKept k → (x : Cell) (row high : ℕ) (m : Mark) (c : Cell) → IsMarkOf k m c → IsNextInRow (lane k Read row) (lane k Write row) x.number high m
    → (j : Mark) (d : Cell) → IsMarkOf k j d → Has (lane k Read row) j ⊎ Has (lane k Write row) j → x.number < j.number → j.number < m.number → ¬ (CellsClash (links k.rows) d c)
clear_row k kept x row high m c a near j d b used lt le clash = elim near.1 [
  | inl read ↦ elim used [
    | inl r ↦ reads_agree (links k.rows) d c (lane_tells k kept Read row j d b r).0 (lane_tells k kept Read row m c a read.0).0 clash
    | inr w ↦ read.1 j w (lt, le)
  ]
  | inr write ↦ elim used [ inl r ↦ write.2 j r (lt, le) | inr w ↦ write.1 j w (lt, le) ]
]

next_is_clear : (mode : Mode) (k : Kept) → AreQueuesKept k → (x : Cell) (high : ℕ) (m : Mark) (c : Cell) → IsMarkOf k m c → IsNextOfMode mode k x.row x.number high m
    → InUseOf mode k x.row m × IsBetween x.number high m × IsClearBefore mode k x m c
next_is_clear Read k kept x high m c a near = (near.0, near.1, λ j d b used lt le clash. near.2 j used (lt, le))
next_is_clear Write k kept x high m c a near = (one_use near.1, near.0, λ j d b used lt le clash. clear_row k kept x x.row high m c a near j d b used lt le clash)
next_is_clear Whole k kept x high m c a near =
    let r = any_get (λ row. IsNextInRow (lane k Read row) (lane k Write row) x.number high m) (rows_between k.listed (granule_at (links k.rows) x.row) x.number high) near in (
      (r.0, row_in_granule k kept (granule_at (links k.rows) x.row) x.number high r.0 r.1, one_use r.2.1),
      r.2.0,
      λ j d b used lt le clash. clear r.0 r.2 j d b used lt le clash,
    )
  where
    clear : (row : ℕ) → IsNextInRow (lane k Read row) (lane k Write row) x.number high m → (j : Mark) (d : Cell) → IsMarkOf k j d
        → (s : ℕ) × (granule_at (links k.rows) s ≡ granule_at (links k.rows) x.row) × (Has (lane k Read s) j ⊎ Has (lane k Write s) j) → x.number < j.number → j.number < m.number → ¬ (CellsClash (links k.rows) d c)
    clear row near j d b s lt le clash =
        let p = narrow_cell k kept row m c a (one_use near.1) in
        let q = narrow_cell k kept s.0 j d b s.2 in
        let one : s.0 ≡ row = sym q.1 ∙ on_one_row (links k.rows) d c q.0 p.0 clash ∙ p.1 in
        clear_row k kept x row high m c a near j d b (subst (λ r. Has (lane k Read r) j ⊎ Has (lane k Write r) j) one s.2) lt le clash

-- and the other way round
next_in_row : (k : Kept) → AreQueuesKept k → (x : Cell) (row high : ℕ) (m : Mark) (c : Cell) → IsMarkOf k m c → Has (lane k Read row) m ⊎ Has (lane k Write row) m → IsBetween x.number high m
    → ((j : Mark) (d : Cell) → IsMarkOf k j d → Has (lane k Read row) j ⊎ Has (lane k Write row) j → x.number < j.number → j.number < m.number → ¬ (CellsClash (links k.rows) d c))
    → IsNextInRow (lane k Read row) (lane k Write row) x.number high m
next_in_row k kept x row high m c a (inl r) b clear = (b, inl (r, λ j w e. meets j w e))
  where
    meets : (j : Mark) → Has (lane k Write row) j → IsBetween x.number m.number j → ⊥
    meets j w e =
        let d = cell_of k kept Write row j w in
        let q = lane_tells k kept Read row m c a r in
        clear j d.0 d.1 (inr w) e.0 e.1 (write_clashes (links k.rows) d.0 c d.2.0 (d.2.1 ∙ sym q.1))
next_in_row k kept x row high m c a (inr w) b clear = (b, inr (w, (λ j h e. meets j (inr h) e), (λ j h e. meets j (inl h) e)))
  where
    meets : (j : Mark) → Has (lane k Read row) j ⊎ Has (lane k Write row) j → IsBetween x.number m.number j → ⊥
    meets j used e =
        let d = cell_in_row k kept row j used in
        let q = lane_tells k kept Write row m c a w in
        clear j d.0 d.1 used e.0 e.1 (clash_turned (links k.rows) c d.0 (write_clashes (links k.rows) c d.0 q.0 (q.1 ∙ sym d.2)))

clear_is_next : (mode : Mode) (k : Kept) → AreQueuesKept k → (x : Cell) → (mode ≡ Whole → IsTakenWhole k (granule_at (links k.rows) x.row) x.number)
    → (high : ℕ) (m : Mark) (c : Cell) → IsMarkOf k m c → InUseOf mode k x.row m → IsBetween x.number high m → IsClearBefore mode k x m c
    → IsNextOfMode mode k x.row x.number high m
clear_is_next Read k kept x taken high m c a used b clear = (used, b, λ j w e. meets j w e)
  where
    meets : (j : Mark) → Has (lane k Write x.row) j → IsBetween x.number m.number j → ⊥
    meets j w e =
        let d = cell_of k kept Write x.row j w in
        let q = lane_tells k kept Write x.row m c a used in
        clear j d.0 d.1 w e.0 e.1 (write_clashes (links k.rows) d.0 c d.2.0 (d.2.1 ∙ sym q.1))
clear_is_next Write k kept x taken high m c a used b clear = next_in_row k kept x x.row high m c a used b clear
clear_is_next Whole k kept x taken high m c a used b clear =
    any_put (λ row. IsNextInRow (lane k Read row) (lane k Write row) x.number high m) (rows_between k.listed (granule_at (links k.rows) x.row) x.number high) used.0
    (marks_found k kept.listed (granule_at (links k.rows) x.row) used.0 x.number high m (taken refl) used.1 used.2 b.0 b.1)
    (next_in_row k kept x used.0 high m c a used.2 b (λ j d f u lt le. clear j d f (used.0, used.1, u) lt le))

-- where none is next, none is in use
none_in_use : (mode : Mode) (k : Kept) → AreQueuesKept k → (x : Cell) → (mode ≡ Whole → IsTakenWhole k (granule_at (links k.rows) x.row) x.number) → (high : ℕ)
    → ((m : Mark) → ¬ (IsNextOfMode mode k x.row x.number high m)) → (m : Mark) → InUseOf mode k x.row m → ¬ (IsBetween x.number high m)
none_in_use Read k kept x taken high none m used b = by (first_there x.number high (lane k Write x.row) (kept.lanes Write x.row).numbered)
  where
    by : (o : Option Mark) × IsFirstBetween x.number high (lane k Write x.row) o → ⊥
    by (None, l) = l m used b
    by (Some w, l) = none w (l.0, l.1, λ j h e. before j (l.2 j h (e.0, lt_trans e.1 l.1.1)) e.1)
      where
        before : (j : Mark) → w.number ≤ j.number → j.number < w.number → ⊥
        before j le lt = omega (arith, le, lt)
none_in_use Write k kept x taken high none m used b = row_empty (lane k Read x.row) (lane k Write x.row) x.number high (row_of _ _ (apart_lanes k kept) x.row) none m b used
none_in_use Whole k kept x taken high none m used b =
    row_empty (lane k Read used.0) (lane k Write used.0) x.number high (row_of _ _ (apart_lanes k kept) used.0)
    (λ j near. none j (any_put (λ row. IsNextInRow (lane k Read row) (lane k Write row) x.number high j) (rows_between k.listed (granule_at (links k.rows) x.row) x.number high) used.0
    (marks_found k kept.listed (granule_at (links k.rows) x.row) used.0 x.number high m (taken refl) used.1 used.2 b.0 b.1) near)) m b used.2

-- a cell that waits to take a granule whole has its number
taken_here : (k : Kept) → AreQueuesKept k → (x : Cell) → IsKeptCell k x → x.mode ≡ Whole → IsTakenWhole k (granule_at (links k.rows) x.row) x.number
taken_here k kept x (slot, there) whole =
    inr (mark_of slot x, in_lane k kept (mark_of slot x) x (record { there = there; is = refl }) Whole (granule_at (links k.rows) x.row) (whole, refl), refl)

-- ---- the nearest cells after a cell; no number reaches the top

module _ (k : Kept) (kept : AreQueuesKept k) (x : Cell) (waits : IsKeptCell k x) (top : ℕ) (within : k.next_number ≤ top) (o : Option Mark) (first : IsFirstBetween x.number top (lane k Whole (granule_at (links k.rows) x.row)) o) where
  abbrev taken : List Mark
  taken = lane k Whole (granule_at (links k.rows) x.row)

  below_top : (m : Mark) (c : Cell) → IsMarkOf k m c → m.number < top
  below_top m c a = let b = kept.counted m.slot c a.there in omega (arith, b.1, within, number_of_mark k m c a)

  -- what takes the granule stands not before the first that does
  not_earlier : (m : Mark) (c : Cell) → IsMarkOf k m c → Has taken m → x.number < m.number → number_or o top ≤ m.number
  not_earlier m c a h lt = by o first
    where
      by : (o : Option Mark) → IsFirstBetween x.number top taken o → number_or o top ≤ m.number
      by None l = absurd (l m h (lt, below_top m c a))
      by (Some w) l = l.2 m h (lt, below_top m c a)

  -- a near mark that is in use stands before the first that takes the granule
  earlier : (m : Mark) (c : Cell) → IsMarkOf k m c → IsNarrow c.mode → CellsClash (links k.rows) x c → x.number < m.number
      → ((t : ℕ) (d : Cell) → get k.cells t ≡ Some d → x.number < d.number → d.number < c.number → CellsClash (links k.rows) x d → ¬ (CellsClash (links k.rows) d c)) → m.number < number_or o top
  earlier m c a part clash lt free = by o first
    where
      by : (o : Option Mark) → IsFirstBetween x.number top taken o → m.number < number_or o top
      by None l = below_top m c a
      by (Some w) l =
          let d = cell_of k kept Whole (granule_at (links k.rows) x.row) w l.0 in
          elim (cases_order m.number w.number) [
            | inl e ↦ absurd (differ d.0 d.2.0 (one_cell k kept w m d.0 c d.1 a (sym e)))
            | inr other ↦ elim other [
              | inl less ↦ less
              | inr gt ↦ absurd (free w.slot d.0 d.1.there (above d.0 d.1 l.1.0) (down d.0 d.1 gt)
                  (clash_turned (links k.rows) d.0 x (whole_clashes (links k.rows) d.0 x d.2.0 d.2.1))
                  (whole_clashes (links k.rows) d.0 c d.2.0 (d.2.1 ∙ one_granule (links k.rows) x c clash)))
            ]
          ]
        where
          differ : (d : Cell) → d.mode ≡ Whole → d ≡ c → ⊥
          differ d e f = false≢true (sym part ∙ ap (λ (y : Cell). is_whole y.mode) (sym f) ∙ ap is_whole e)

          down : (d : Cell) → IsMarkOf k w d → w.number < m.number → d.number < c.number
          down d b gt = omega (arith, gt, number_of_mark k w d b, number_of_mark k m c a)

          above : (d : Cell) → IsMarkOf k w d → x.number < w.number → x.number < d.number
          above d b lt = omega (arith, lt, number_of_mark k w d b)

  -- what is next by its mode is next
  next_of_mode : (m : Mark) → IsNextInMode k x (number_or o top) m → IsNextMark k x m
  next_of_mode m near =
      let c = near_cell x.mode near in
      let b = next_is_clear x.mode k kept x (number_or o top) m c.0 c.1 near in
      let u = use_clashes x.mode k kept x refl m c.0 c.1 b.0 in
      (c.0, c.1.there, c.1.is, above c.0 c.1 b.1.0, clash_turned (links k.rows) c.0 x u.1, λ t d e lt le clash other. free c.0 c.1 b.1.1 b.2 t d e lt le clash other)
    where
      near_cell : (mode : Mode) → IsNextOfMode mode k x.row x.number (number_or o top) m → (c : Cell) × IsMarkOf k m c
      near_cell Read n = let d = cell_of k kept Write x.row m n.0 in (d.0, d.1)
      near_cell Write n = let d = cell_in_row k kept x.row m (one_use n.1) in (d.0, d.1)
      near_cell Whole n =
          let r = any_get (λ row. IsNextInRow (lane k Read row) (lane k Write row) x.number (number_or o top) m) (rows_between k.listed (granule_at (links k.rows) x.row) x.number (number_or o top)) n in
          let d = cell_in_row k kept r.0 m (one_use r.2.1) in
          (d.0, d.1)

      above : (c : Cell) → IsMarkOf k m c → x.number < m.number → x.number < c.number
      above c a lt = omega (arith, lt, number_of_mark k m c a)

      free : (c : Cell) → IsMarkOf k m c → m.number < number_or o top → IsClearBefore x.mode k x m c
          → (t : ℕ) (d : Cell) → get k.cells t ≡ Some d → x.number < d.number → d.number < c.number → CellsClash (links k.rows) x d → ¬ (CellsClash (links k.rows) d c)
      free c a high clear t d e lt le clash other =
          let b : IsMarkOf k (mark_of t d) d = record { there = e; is = refl } in
          elim (clash_uses x.mode k kept x refl (mark_of t d) d b (clash_turned (links k.rows) x d clash) d.mode refl) [
            | inl h ↦ past (not_earlier (mark_of t d) d b h lt)
            | inr used ↦ clear (mark_of t d) d b used lt (omega (arith, le, number_of_mark k m c a)) other
          ]
        where
          past : number_or o top ≤ d.number → ⊥
          past h = omega (arith, h, high, le, number_of_mark k m c a)

  -- a next mark is next by its mode, or takes the granule as a whole
  mode_of_next : (m : Mark) → IsNextMark k x m → Has taken m ⊎ IsNextInMode k x (number_or o top) m
  mode_of_next m n =
      let c = n.0 in
      let a : IsMarkOf k m c = record { there = n.1; is = n.2 } in
      elim (clash_uses x.mode k kept x refl m c a (clash_turned (links k.rows) x c n.4) c.mode refl) [
        | inl h ↦ inl h
        | inr used ↦ inr (clear_is_next x.mode k kept x (taken_here k kept x waits) (number_or o top) m c a used (above c a n.3, earlier m c a (use_clashes x.mode k kept x refl m c a used).0 n.4 (above c a n.3) n.5)
            (λ j d b u lt le clash. n.5 j.slot d b.there (omega (arith, lt, number_of_mark k j d b)) (omega (arith, le, number_of_mark k m c a, number_of_mark k j d b))
            (clash_turned (links k.rows) d x (use_clashes x.mode k kept x refl j d b u).1) clash))
      ]
    where
      above : (c : Cell) → IsMarkOf k m c → x.number < c.number → x.number < m.number
      above c a lt = omega (arith, lt, number_of_mark k m c a)

  -- where some are next by their mode, nothing else is
  pub next_marks : (r : Mark) → IsNextInMode k x (number_or o top) r → (m : Mark) → IsNextInMode k x (number_or o top) m ↔ IsNextMark k x m
  next_marks r here m = (next_of_mode m, λ n. elim (mode_of_next m n) [ inl h ↦ absurd (taker n h) | inr g ↦ g ])
    where
      taker : IsNextMark k x m → Has taken m → ⊥
      taker n h =
          let c = n.0 in
          let a : IsMarkOf k m c = record { there = n.1; is = n.2 } in
          let near = next_of_mode r here in
          let d = near.0 in
          let b : IsMarkOf k r d = record { there = near.1; is = near.2 } in
          let clear = next_is_clear x.mode k kept x (number_or o top) r d b here in
          let t = taker_of k kept x m c a h in
          n.5 r.slot d near.1 near.3 (down c a d b (not_earlier m c a h (omega (arith, n.3, number_of_mark k m c a))) clear.1.1) near.4
          (clash_turned (links k.rows) c d (whole_clashes (links k.rows) c d t.0 (t.1 ∙ one_granule (links k.rows) x d near.4)))
        where
          down : (c : Cell) → IsMarkOf k m c → (d : Cell) → IsMarkOf k r d → number_or o top ≤ m.number → r.number < number_or o top → d.number < c.number
          down c a d b le lt = omega (arith, le, lt, number_of_mark k m c a, number_of_mark k r d b)

  -- where none is, the first that takes the granule as a whole is next
  pub next_taker : ((m : Mark) → ¬ (IsNextInMode k x (number_or o top) m)) → (m : Mark) → IsNextMark k x m ↔ (o ≡ Some m)
  next_taker nothing m = by o first (λ j u. none_in_use x.mode k kept x (taken_here k kept x waits) (number_or o top) nothing j u) (λ j n. elim (mode_of_next j n) [ inl h ↦ h | inr g ↦ absurd (nothing j g) ])
    where
      by : (o : Option Mark) → IsFirstBetween x.number top taken o → ((j : Mark) → InUseOf x.mode k x.row j → ¬ (IsBetween x.number (number_or o top) j)) → ((j : Mark) → IsNextMark k x j → Has taken j)
          → IsNextMark k x m ↔ (o ≡ Some m)
      by None l none all = (λ n. absurd (l m (all m n) (above n, below_top m n.0 (record { there = n.1; is = n.2 }))), λ e. absurd (none-some m e))
        where
          above : IsNextMark k x m → x.number < m.number
          above n = omega (arith, n.3, number_of_mark k m n.0 (record { there = n.1; is = n.2 }))
      by (Some w) l none all = (λ n. ap Some (is_w n), λ e. subst (IsNextMark k x) (some_same e) next_w)
        where
          next_w : IsNextMark k x w
          next_w =
              let d = cell_of k kept Whole (granule_at (links k.rows) x.row) w l.0 in
              (d.0, d.1.there, d.1.is, above d.0 d.1, clash_turned (links k.rows) d.0 x (whole_clashes (links k.rows) d.0 x d.2.0 d.2.1), λ t y e lt le clash other. free d.0 d.1 t y e lt le clash)
            where
              above : (d : Cell) → IsMarkOf k w d → x.number < d.number
              above d a = omega (arith, l.1.0, number_of_mark k w d a)

              free : (d : Cell) → IsMarkOf k w d → (t : ℕ) (y : Cell) → get k.cells t ≡ Some y → x.number < y.number → y.number < d.number → CellsClash (links k.rows) x y → ⊥
              free d a t y e lt le clash =
                  let b : IsMarkOf k (mark_of t y) y = record { there = e; is = refl } in
                  elim (clash_uses x.mode k kept x refl (mark_of t y) y b (clash_turned (links k.rows) x y clash) y.mode refl) [
                    | inl h ↦ before (l.2 (mark_of t y) h (lt, below_top (mark_of t y) y b))
                    | inr used ↦ none (mark_of t y) used (lt, omega (arith, le, number_of_mark k w d a))
                  ]
                where
                  before : w.number ≤ y.number → ⊥
                  before h = omega (arith, h, le, number_of_mark k w d a)

          is_w : IsNextMark k x m → w ≡ m
          is_w n =
              let c = n.0 in
              let a : IsMarkOf k m c = record { there = n.1; is = n.2 } in
              let h = all m n in
              let t = taker_of k kept x m c a h in
              let d = cell_of k kept Whole (granule_at (links k.rows) x.row) w l.0 in
              let le : w.number ≤ m.number = l.2 m h (omega (arith, n.3, number_of_mark k m c a), below_top m c a) in
              same_mark taken (kept.lanes Whole (granule_at (links k.rows) x.row)).numbered w m l.0 h
              (elim (cases_order m.number w.number) [
                | inl e ↦ sym e
                | inr other ↦ elim other [
                  | inl less ↦ absurd (omega (arith, less, le))
                  | inr gt ↦ absurd (n.5 w.slot d.0 d.1.there (above d.0 d.1) (down c a d.0 d.1 gt) (clash_turned (links k.rows) d.0 x (whole_clashes (links k.rows) d.0 x d.2.0 d.2.1))
                      (whole_clashes (links k.rows) d.0 c d.2.0 (d.2.1 ∙ sym t.1)))
                ]
              ])
            where
              down : (c : Cell) → IsMarkOf k m c → (d : Cell) → IsMarkOf k w d → w.number < m.number → d.number < c.number
              down c a d b gt = omega (arith, gt, number_of_mark k m c a, number_of_mark k w d b)

              above : (d : Cell) → IsMarkOf k w d → x.number < d.number
              above d b = omega (arith, l.1.0, number_of_mark k w d b)

  -- those that are next by their mode are next, or, where there are none, the first that takes the granule as a whole
  next_or_taker : (ms : List Mark) → AreEachOnce (IsNextInMode k x (number_or o top)) ms → AreEachOnce (IsNextMark k x) (or_else_one ms o)
  next_or_taker [] once = once_of_one (IsNextMark k x) o (λ m. next_taker (λ j n. (once.members j).1 n) m)
  next_or_taker (r ∷ ms) once = record {
    apart = once.apart;
    members = λ m. (λ h. (next_marks r here m).0 ((once.members m).0 h), λ n. (once.members m).1 ((next_marks r here m).1 n));
  }
    where
      here : IsNextInMode k x (number_or o top) r
      here = (once.members r).0 (inl refl)

  pub next_of_this : (mode : Mode) → x.mode ≡ mode → (ms : List Mark) → AreEachOnce (IsNextOfMode mode k x.row x.number (number_or o top)) ms → AreEachOnce (IsNextMark k x) (or_else_one ms o)
  next_of_this mode is ms once = next_or_taker ms (subst (λ d. AreEachOnce (IsNextOfMode d k x.row x.number (number_or o top)) ms) (sym is) once)
