-- What is shown of the cells: which entries wait, what their neighbours are, and what follows them.
use Rattle.std.proofs.Common.{◌≡◌, ◌⊎◌, ℕ, ◌<◌, Bool, true, false, cond, not, ◌||◌, ◌==◌, nat_lt, List, eq-eqb, eqb-true, ltb-true, lt-ltb}
use Rattle.std.proofs.Common.{[], ◌∷◌, ◌++◌, map, length, slice_get, Some, None, refl, ap, ap₂, sym, subst, inl, inr, arith, ◌∙◌}
use Rattle.std.specs.List.{filter}
use Rattle.std.specs.List.Sorted.{IsPermutation}
use Rattle.std.proofs.lemmas.List.Sorted.{IsPermutation-map}
use Rattle.std.proofs.lemmas.Simd.{map-map}
use Rattle.std.proofs.lemmas.Option.{same_Some, slice_get-get_or}
use Rattle.slab.specs.Slab.{Updates, get, entries, entries_from}
use Rattle.dt_lists.specs.Lists.{AnyIn, Distinct, EachThen, Has, IsFront}
use Rattle.dt_lists.proofs.Callers.{any_get, any_image, any_of_image, any_of_test, any_put, ascending_same, each_image, each_map, filter_each, has_filter, has_map, has_of_filtered, one_place}
use Rattle.dt_lists.proofs.Callers.{none_some, test_of_any}
use Rattle.dt_access.specs.Clash.{Bytes, is_whole, may_change}
use Rattle.dt_access.proofs.Callers.{clash_cases, uses_of_granule, uses_of_row}
use Rattle.dt_queue.specs.declared.cell.Cell.{Cell}
use Rattle.dt_queue.specs.declared.mark.Mark.{Mark}
use Rattle.dt_queue.specs.declared.kept.Kept.{Kept}
use Rattle.dt_access.specs.declared.access.Mode.{Mode}
use Rattle.std.proofs.lemmas.List.{get_or_append_left, map-append}
use Rattle.std.proofs.lemmas.Bool.{and_from, and_parts, or_cases, or_left, or_right}
use Rattle.dt_queue.specs.KeptInner.{AddsCell, CellsClash, AreQueuesKept, IsNearMark, IsNextMark, entry, in_order, mark_of, waiting_of}
use Rattle.dt_queue.specs.LanesInner.{AreMarks}
use Rattle.dt_queue.specs.NextInner.{AreEachOnce, follower_of_mark}
use Rattle.dt_queue.specs.Queues.{IsQueued, Waiting, follower_of, followers, is_at, is_neighbour, nearest, neighbours, taken_out}
use Rattle.dt_queue.specs.RowsInner.{RowLinks, granule_at, granule_name, links, name_at}
use Rattle.dt_queue.proofs.InOrder.{IsListed, Rise, listed, listed_less, listed_more, same_list}
use Rattle.dt_queue.proofs.FollowerMarks.{marks_differ, same_permuted}
use Rattle.dt_queue.proofs.EntryLists.{Slots, before_is, entry_is, lesser, meets, near_in, near_rises, nearest_is, of_near, slots_of_list, to_near, without_is}

or_one : (s t : Bool) → (s ≡ true) ⊎ (t ≡ true) → (s || t) ≡ true
or_one s t c = elim c [ inl e ↦ or_left s t e | inr e ↦ or_right s t e ]

module _ (k : Kept) (kept : AreQueuesKept k) where
  -- ---- cells clash where their entries do

  known_name : (row : ℕ) → row < length (links k.rows).names → slice_get (links k.rows).names row ≡ Some (name_at (links k.rows).names row)
  known_name row lt = slice_get-get_or (links k.rows).names row (0, []) lt

  one_row : (i j : ℕ) → i < length (links k.rows).names → j < length (links k.rows).names → name_at (links k.rows).names i ≡ name_at (links k.rows).names j → i ≡ j
  one_row i j a b e = one_place (links k.rows).names i j (name_at (links k.rows).names j) kept.linked.names_once (known_name i a ∙ ap Some e) (known_name j b)

  one_granule : (i j : ℕ) → i < length (links k.rows).names → j < length (links k.rows).names → granule_name (name_at (links k.rows).names i) ≡ granule_name (name_at (links k.rows).names j)
      → granule_at (links k.rows) i ≡ granule_at (links k.rows) j
  one_granule i j a b e =
      one_place (links k.rows).granules (granule_at (links k.rows) i) (granule_at (links k.rows) j) (granule_name (name_at (links k.rows).names j)) kept.linked.granules_once (kept.linked.granule i a ∙ ap Some e) (kept.linked.granule j b)

  same_name : (i j : ℕ) → i < length (links k.rows).names → j < length (links k.rows).names → granule_at (links k.rows) i ≡ granule_at (links k.rows) j
      → granule_name (name_at (links k.rows).names i) ≡ granule_name (name_at (links k.rows).names j)
  same_name i j a b e = same_Some _ _ (sym (kept.linked.granule i a) ∙ ap (slice_get (links k.rows).granules) e ∙ kept.linked.granule j b)

  meets_of : (p q : ℕ × Cell) → p.1.row < length (links k.rows).names → q.1.row < length (links k.rows).names → CellsClash (links k.rows) p.1 q.1 → meets (links k.rows).names p q ≡ true
  meets_of p q a b (inl c) =
      let name : name_at (links k.rows).names p.1.row ≡ name_at (links k.rows).names q.1.row = ap (name_at (links k.rows).names) c.0 in
      and_from _ _ (eq-eqb _ _ (ap (λ (n : ℕ × Bytes). n.0) name))
      (uses_of_row ((name_at (links k.rows).names p.1.row).1, p.1.mode) ((name_at (links k.rows).names q.1.row).1, q.1.mode) (ap (λ (n : ℕ × Bytes). n.1) name) (or_one (may_change p.1.mode) (may_change q.1.mode) c.1))
  meets_of p q a b (inr c) =
      let name = same_name p.1.row q.1.row a b c.0 in
      and_from _ _ (eq-eqb _ _ (ap (λ (n : ℕ × Bytes). n.0) name))
      (uses_of_granule ((name_at (links k.rows).names p.1.row).1, p.1.mode) ((name_at (links k.rows).names q.1.row).1, q.1.mode) (ap (λ (n : ℕ × Bytes). n.1) name) (or_one (is_whole p.1.mode) (is_whole q.1.mode) c.1))

  of_meets : (p q : ℕ × Cell) → p.1.row < length (links k.rows).names → q.1.row < length (links k.rows).names → meets (links k.rows).names p q ≡ true → CellsClash (links k.rows) p.1 q.1
  of_meets p q a b e =
      let home : (name_at (links k.rows).names p.1.row).0 ≡ (name_at (links k.rows).names q.1.row).0 = eqb-true _ _ (and_parts _ _ e).0 in
      elim (clash_cases ((name_at (links k.rows).names p.1.row).1, p.1.mode) ((name_at (links k.rows).names q.1.row).1, q.1.mode) (and_parts _ _ e).1) [
        | inl c ↦ inl (one_row p.1.row q.1.row a b (λ i. (home i, c.0 i)), or_cases (may_change p.1.mode) (may_change q.1.mode) c.1)
        | inr c ↦ inr (one_granule p.1.row q.1.row a b (λ i. (home i, c.0 i)), or_cases (is_whole p.1.mode) (is_whole q.1.mode) c.1)
      ]

  -- ---- the list of what waits

  the_list : IsListed k.cells (in_order (entries k.cells))
  the_list = listed k.cells kept.alone

  the_slots : Slots (in_order (entries k.cells))
  the_slots = slots_of_list k.cells (in_order (entries k.cells)) the_list

  cell_there : (p : ℕ × Cell) → Has (in_order (entries k.cells)) p → get k.cells p.0 ≡ Some p.1
  cell_there p h = (the_list.members p).0 h

  in_list : (slot : ℕ) (c : Cell) → get k.cells slot ≡ Some c → Has (in_order (entries k.cells)) (slot, c)
  in_list slot c e = (the_list.members (slot, c)).1 e

  row_known : (p : ℕ × Cell) → Has (in_order (entries k.cells)) p → p.1.row < length (links k.rows).names
  row_known p h = kept.known p.0 p.1 (cell_there p h)

  -- what waits has a cell
  pub waits : (slot : ℕ) → IsQueued (waiting_of k) slot → (c : Cell) × (get k.cells slot ≡ Some c)
  waits slot w =
      let r = any_get (λ (p : ℕ × Cell). p.0 ≡ slot) (in_order (entries k.cells)) (any_of_image (λ (v : Waiting). v.slot ≡ slot) (entry (links k.rows).names) (in_order (entries k.cells)) w) in
      (r.0.1, sym (ap (get k.cells) r.2) ∙ cell_there r.0 r.1)

  -- ---- neighbours

  earlier_rises : (n : ℕ) → EachThen Rise (lesser n (in_order (entries k.cells)))
  earlier_rises n = filter_each Rise (λ (p : ℕ × Cell). nat_lt p.1.number n) (in_order (entries k.cells)) the_list.numbered

  of_earlier : (n : ℕ) (p : ℕ × Cell) → Has (lesser n (in_order (entries k.cells))) p → Has (in_order (entries k.cells)) p × (p.1.number < n)
  of_earlier n p h = let b = has_of_filtered (λ (q : ℕ × Cell). nat_lt q.1.number n) (in_order (entries k.cells)) p h in (b.0, ltb-true _ _ b.1)

  to_earlier : (n : ℕ) (p : ℕ × Cell) → Has (in_order (entries k.cells)) p → p.1.number < n → Has (lesser n (in_order (entries k.cells))) p
  to_earlier n p h lt = has_filter (λ (q : ℕ × Cell). nat_lt q.1.number n) (in_order (entries k.cells)) p h (lt-ltb _ _ lt)

  -- the neighbours of an entry, as cells
  abbrev pub near_cells : ℕ × Cell → List (ℕ × Cell)
  near_cells p = near_in (links k.rows).names p (lesser p.1.number (in_order (entries k.cells)))

  neighbours_shown : (p : ℕ × Cell) → Has (in_order (entries k.cells)) p → neighbours (waiting_of k) p.0 ≡ map (entry (links k.rows).names) (near_cells p)
  neighbours_shown p h =
      ap₂ nearest (entry_is (links k.rows).names (in_order (entries k.cells)) p the_slots h) (before_is (links k.rows).names (in_order (entries k.cells)) p the_list.numbered the_slots h)
      ∙ nearest_is (links k.rows).names p (lesser p.1.number (in_order (entries k.cells)))

  -- a cell is among the neighbours where it is the nearest that clashes
  record IsNear (p q : ℕ × Cell) : Type 0 where
    pub there : Has (in_order (entries k.cells)) q
    pub before : q.1.number < p.1.number
    pub clash : CellsClash (links k.rows) q.1 p.1
    pub free : (t : ℕ) (d : Cell) → get k.cells t ≡ Some d → q.1.number < d.number → d.number < p.1.number → CellsClash (links k.rows) q.1 d → ¬ (CellsClash (links k.rows) d p.1)

  of_near_cells : (p q : ℕ × Cell) → Has (in_order (entries k.cells)) p → Has (near_cells p) q → IsNear p q
  of_near_cells p q own h =
      let r = of_near (links k.rows).names p (lesser p.1.number (in_order (entries k.cells))) (earlier_rises p.1.number) q h in
      let b = of_earlier p.1.number q r.0 in
      record {
        there = b.0;
        before = b.1;
        clash = of_meets q p (row_known q b.0) (row_known p own) r.1;
        free = λ t d e lt le s f. r.2 (t, d) (to_earlier p.1.number (t, d) (in_list t d e) le) lt (meets_of q (t, d) (row_known q b.0) (kept.known t d e) s) (meets_of (t, d) p (kept.known t d e) (row_known p own) f);
      }

  to_near_cells : (p q : ℕ × Cell) → Has (in_order (entries k.cells)) p → IsNear p q → Has (near_cells p) q
  to_near_cells p q own n =
      to_near (links k.rows).names p (lesser p.1.number (in_order (entries k.cells))) (earlier_rises p.1.number) q (to_earlier p.1.number q n.there n.before)
      (meets_of q p (row_known q n.there) (row_known p own) n.clash) (λ m h lt s f. clear m (of_earlier p.1.number m h) lt s f)
    where
      clear : (m : ℕ × Cell) → Has (in_order (entries k.cells)) m × (m.1.number < p.1.number) → q.1.number < m.1.number → meets (links k.rows).names q m ≡ true → meets (links k.rows).names m p ≡ true → ⊥
      clear m b lt s f = n.free m.0 m.1 (cell_there m b.0) lt b.1 (of_meets q m (row_known q n.there) (row_known m b.0) s) (of_meets m p (row_known m b.0) (row_known p own) f)

  near_cells_rise : (p : ℕ × Cell) → EachThen Rise (near_cells p)
  near_cells_rise p = near_rises (links k.rows).names p (lesser p.1.number (in_order (entries k.cells))) (earlier_rises p.1.number)

  abbrev mark : ℕ × Cell → Mark
  mark q = mark_of q.0 q.1

  -- the marks that were found are those of the neighbours
  pub neighbours_are : (slot : ℕ) (x : Cell) → get k.cells slot ≡ Some x → (ms : List Mark) → AreMarks (IsNearMark k x) ms → map (λ m. m.vertex) ms ≡ map (λ w. w.vertex) (neighbours (waiting_of k) slot)
  neighbours_are slot x e ms found =
      let p : ℕ × Cell = (slot, x) in
      let own = in_list slot x e in
      let same : ms ≡ map mark (near_cells p) =
      ascending_same (λ (m n : Mark). m.number < n.number) (λ m lt. omega (arith, lt)) (λ m n o lt le. omega (arith, lt, le)) ms (map mark (near_cells p)) found.numbered
      (each_image (λ (m n : Mark). m.number < n.number) mark (near_cells p) (near_cells_rise p)) (λ m h. down own m ((found.members m).0 h)) (λ m h. (found.members m).1 (up own m h)) in
      ap (map (λ m. m.vertex)) same ∙ map-map (λ m. m.vertex) mark (near_cells p)
      ∙ sym (map-map (λ w. w.vertex) (entry (links k.rows).names) (near_cells p)) ∙ ap (map (λ w. w.vertex)) (sym (neighbours_shown p own))
    where
      down : Has (in_order (entries k.cells)) (slot, x) → (m : Mark) → IsNearMark k x m → Has (map mark (near_cells (slot, x))) m
      down own m n =
          let q : ℕ × Cell = (m.slot, n.0) in
          subst (Has (map mark (near_cells (slot, x)))) (sym n.2)
          (has_map mark (near_cells (slot, x)) q (to_near_cells (slot, x) q own (record { there = in_list m.slot n.0 n.1; before = n.3; clash = n.4; free = n.5 })))

      up : Has (in_order (entries k.cells)) (slot, x) → (m : Mark) → Has (map mark (near_cells (slot, x))) m → IsNearMark k x m
      up own m h =
          let r = any_get (λ (q : ℕ × Cell). mark q ≡ m) (near_cells (slot, x)) (any_of_image (λ (n : Mark). n ≡ m) mark (near_cells (slot, x)) h) in
          let n = of_near_cells (slot, x) r.0 own r.1 in
          subst (IsNearMark k x) r.2 (r.0.1, cell_there r.0 n.there, refl, n.before, n.clash, n.free)

  -- ---- followers

  -- an entry is a follower where its mark is next
  next_of : (slot : ℕ) (x : Cell) → get k.cells slot ≡ Some x → (q : ℕ × Cell) → Has (in_order (entries k.cells)) q → is_neighbour (waiting_of k) slot q.0 ≡ true → IsNextMark k x (mark_of q.0 q.1)
  next_of slot x e q own t =
      let found : AnyIn (λ w. is_at slot w ≡ true) (map (entry (links k.rows).names) (near_cells q)) = subst (AnyIn (λ w. is_at slot w ≡ true)) (neighbours_shown q own) (any_of_test (is_at slot) (neighbours (waiting_of k) q.0) t) in
      let r = any_get (λ (p : ℕ × Cell). (p.0 == slot) ≡ true) (near_cells q) (any_of_image (λ w. is_at slot w ≡ true) (entry (links k.rows).names) (near_cells q) found) in
      let n = of_near_cells q r.0 own r.1 in
      let one : r.0.1 ≡ x = same_Some r.0.1 x (sym (cell_there r.0 n.there) ∙ ap (get k.cells) (eqb-true r.0.0 slot r.2) ∙ e) in (
        q.1,
        cell_there q own,
        refl,
        subst (λ (c : Cell). c.number < q.1.number) one n.before,
        subst (λ (c : Cell). CellsClash (links k.rows) c q.1) one n.clash,
        subst (λ (c : Cell). (t : ℕ) (d : Cell) → get k.cells t ≡ Some d → c.number < d.number → d.number < q.1.number → CellsClash (links k.rows) c d → ¬ (CellsClash (links k.rows) d q.1)) one n.free,
      )

  to_next : (slot : ℕ) (x : Cell) → get k.cells slot ≡ Some x → (q : ℕ × Cell) → Has (in_order (entries k.cells)) q → IsNextMark k x (mark_of q.0 q.1) → is_neighbour (waiting_of k) slot q.0 ≡ true
  to_next slot x e q own n =
      let one : n.0 ≡ q.1 = same_Some n.0 q.1 (sym n.1 ∙ cell_there q own) in
      let near : IsNear q (slot, x) = subst (λ (c : Cell). IsNear (q.0, c) (slot, x)) one (record { there = in_list slot x e; before = n.3; clash = n.4; free = n.5 }) in
      test_of_any (is_at slot) (neighbours (waiting_of k) q.0)
      (subst (AnyIn (λ w. is_at slot w ≡ true)) (sym (neighbours_shown q own))
      (any_image (λ w. is_at slot w ≡ true) (entry (links k.rows).names) (near_cells q) (any_put (λ (p : ℕ × Cell). (p.0 == slot) ≡ true) (near_cells q) (slot, x) (to_near_cells q (slot, x) own near) (eq-eqb slot slot refl))))

  -- the cell is a follower of an entry
  abbrev follows : ℕ → ℕ × Cell → Bool
  follows slot q = is_neighbour (waiting_of k) slot q.0

  -- the followers of an entry among these cells, as they are shown
  abbrev shown_followers : ℕ → List (ℕ × Cell) → List Waiting
  shown_followers slot G = filter (λ w. is_neighbour (waiting_of k) slot w.slot) (map (entry (links k.rows).names) G)

  filter_shown : (slot : ℕ) (G : List (ℕ × Cell)) → shown_followers slot G ≡ map (entry (links k.rows).names) (filter (follows slot) G)
  filter_shown slot [] = refl
  filter_shown slot (q ∷ G) = by (is_neighbour (waiting_of k) slot q.0) (filter_shown slot G)
    where
      by : (t : Bool) → shown_followers slot G ≡ map (entry (links k.rows).names) (filter (follows slot) G)
          → cond t (entry (links k.rows).names q ∷ shown_followers slot G) (shown_followers slot G) ≡ map (entry (links k.rows).names) (cond t (q ∷ filter (follows slot) G) (filter (follows slot) G))
      by true e = ap (λ l. entry (links k.rows).names q ∷ l) e
      by false e = e

  -- the marks that were found are those of the followers, in some order
  pub followers_are : (slot : ℕ) (x : Cell) → get k.cells slot ≡ Some x → (ms : List Mark) → AreEachOnce (IsNextMark k x) ms → IsPermutation (map follower_of (followers (waiting_of k) slot)) (map follower_of_mark ms)
  followers_are slot x e ms found = subst (λ l. IsPermutation l (map follower_of_mark ms)) (sym shown) (IsPermutation-map follower_of_mark (map mark own) ms (same_permuted (map mark own) ms differ (marks_differ ms found.apart) to back))
    where
      own : List (ℕ × Cell)
      own = filter (follows slot) (in_order (entries k.cells))

      shown : map follower_of (followers (waiting_of k) slot) ≡ map follower_of_mark (map mark own)
      shown = ap (map follower_of) (filter_shown slot (in_order (entries k.cells))) ∙ map-map follower_of (entry (links k.rows).names) own ∙ sym (map-map follower_of_mark mark own)

      differ : Distinct (map mark own)
      differ = marks_differ (map mark own) (each_image (λ (m n : Mark). ¬ (m.number ≡ n.number)) mark own (each_map Rise _ own (λ p q lt e. less p q lt e)
          (filter_each Rise (follows slot) (in_order (entries k.cells)) the_list.numbered)))
        where
          less : (p q : ℕ × Cell) → p.1.number < q.1.number → p.1.number ≡ q.1.number → ⊥
          less p q lt e = omega (arith, lt, e)

      to : (m : Mark) → Has (map mark own) m → Has ms m
      to m h =
          let r = any_get (λ (q : ℕ × Cell). mark q ≡ m) own (any_of_image (λ (n : Mark). n ≡ m) mark own h) in
          let a = has_of_filtered (follows slot) (in_order (entries k.cells)) r.0 r.1 in
          (found.members m).1 (subst (IsNextMark k x) r.2 (next_of slot x e r.0 a.0 a.1))

      back : (m : Mark) → Has ms m → Has (map mark own) m
      back m h =
          let n = (found.members m).0 h in
          let q : ℕ × Cell = (m.slot, n.0) in
          let there = in_list m.slot n.0 n.1 in
          subst (Has (map mark own)) (sym n.2)
          (has_map mark own q (has_filter (follows slot) (in_order (entries k.cells)) q there (to_next slot x e q there (subst (IsNextMark k x) n.2 n))))

-- ---- what is shown after a step

-- names that were known stay when rows are added
same_entries : (old new : List (ℕ × Bytes)) → IsFront old new → (K : List (ℕ × Cell)) → ((p : ℕ × Cell) → Has K p → p.1.row < length old) → map (entry new) K ≡ map (entry old) K
same_entries old new front [] known = refl
same_entries old new front (p ∷ K) known =
    let name : name_at new p.1.row ≡ name_at old p.1.row = ap (λ l. name_at l p.1.row) (sym front.1) ∙ get_or_append_left old front.0 (0, []) p.1.row (known p (inl refl)) in
    let first : entry new p ≡ entry old p = ap (λ (n : ℕ × Bytes). record { slot = p.0; home = n.0; key = n.1; mode = p.1.mode; vertex = p.1.vertex }) name in
    ap₂ (λ w ws. w ∷ ws) first (same_entries old new front K (λ q h. known q (inr h)))

row_of_cell : (k : Kept) → AreQueuesKept k → (p : ℕ × Cell) → Has (in_order (entries k.cells)) p → p.1.row < length (links k.rows).names
row_of_cell k kept p h = kept.known p.0 p.1 (((listed k.cells kept.alone).members p).0 h)

-- the same cells show the same
pub shown_same : (k n : Kept) → AreQueuesKept k → IsFront (links k.rows).names (links n.rows).names → n.cells.slots ≡ k.cells.slots → waiting_of n ≡ waiting_of k
shown_same k n kept front slots =
    ap (λ l. map (entry (links n.rows).names) (in_order (entries_from 0 l))) slots ∙ same_entries (links k.rows).names (links n.rows).names front (in_order (entries k.cells)) (row_of_cell k kept)

-- the entry at a slot, for this row and mode
abbrev entry_of : ℕ → ℕ × Bytes → Mode → ℕ → Waiting
entry_of slot name mode vertex = record { slot = slot; home = name.0; key = name.1; mode = mode; vertex = vertex }

-- a cell that was put behind all others shows its entry
pub shown_push : (k n : Kept) (slot : ℕ) (name : ℕ × Bytes) (mode : Mode) (vertex : ℕ) → AreQueuesKept k → AreQueuesKept n → IsFront (links k.rows).names (links n.rows).names → AddsCell k n slot name mode vertex
    → waiting_of n ≡ waiting_of k ++ entry_of slot name mode vertex ∷ []
shown_push k n slot name mode vertex kept later front adds =
    let K = in_order (entries k.cells) in
    let list : in_order (entries n.cells) ≡ K ++ (slot, adds.cell) ∷ [] = same_list n.cells n.cells (in_order (entries n.cells)) (K ++ (slot, adds.cell) ∷ []) (listed n.cells later.alone)
    (listed_more k.cells n.cells K slot adds.cell (listed k.cells kept.alone) adds.updates adds.vacant (λ p h. last p (((listed k.cells kept.alone).members p).0 h))) (λ s. refl) in
    ap (map (entry (links n.rows).names)) list ∙ map-append (entry (links n.rows).names) K ((slot, adds.cell) ∷ [])
    ∙ ap₂ (λ a b. a ++ b ∷ []) (same_entries (links k.rows).names (links n.rows).names front K (row_of_cell k kept)) own
  where
    last : (p : ℕ × Cell) → get k.cells p.0 ≡ Some p.1 → p.1.number < adds.cell.number
    last p e = let b = kept.counted p.0 p.1 e in omega (arith, b.1, adds.number)

    own : entry (links n.rows).names (slot, adds.cell) ≡ entry_of slot name mode vertex
    own = λ i. record { slot = slot; home = (adds.name i).0; key = (adds.name i).1; mode = adds.mode_is i; vertex = adds.vertex_is i }

-- no entry waited at the slot
pub shown_fresh : (k n : Kept) (slot : ℕ) (name : ℕ × Bytes) (mode : Mode) (vertex : ℕ) → AreQueuesKept k → AddsCell k n slot name mode vertex → ¬ (IsQueued (waiting_of k) slot)
shown_fresh k n slot name mode vertex kept adds w = let c = waits k kept slot w in none_some adds.vacant c.1

-- a cell that was taken out shows no more
pub shown_remove : (k n : Kept) (slot : ℕ) → AreQueuesKept k → AreQueuesKept n → Updates k.cells n.cells slot None → (links n.rows) ≡ (links k.rows) → waiting_of n ≡ taken_out (waiting_of k) slot
shown_remove k n slot kept later up rows =
    let K = in_order (entries k.cells) in
    let list : in_order (entries n.cells) ≡ filter (λ (p : ℕ × Cell). not (p.0 == slot)) K = same_list n.cells n.cells (in_order (entries n.cells)) (filter (λ (p : ℕ × Cell). not (p.0 == slot)) K) (listed n.cells later.alone)
    (listed_less k.cells n.cells K slot (listed k.cells kept.alone) up) (λ s. refl) in
    ap (λ (r : RowLinks). map (entry r.names) (in_order (entries n.cells))) rows ∙ ap (map (entry (links k.rows).names)) list ∙ sym (without_is (links k.rows).names K slot)
