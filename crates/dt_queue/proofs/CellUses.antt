-- Which cells clash, shown by the lanes that they have their marks in.
use Rattle.std.proofs.Common.{◌≡◌, ◌⊎◌, ℕ, false}
use Rattle.std.proofs.Common.{Some, refl, ap, sym, subst, inl, inr, ◌∙◌}
use Rattle.std.proofs.lemmas.Bool.{false≢true}
use Rattle.std.proofs.lemmas.Option.{same_Some}
use Rattle.slab.specs.Slab.{get}
use Rattle.dt_lists.specs.Lists.{Has}
use Rattle.dt_access.specs.Clash.{is_whole, may_change}
use Rattle.dt_access.specs.declared.access.Mode.{Mode}
use Rattle.dt_access.specs.declared.access.Mode.TheVariants.{Read, Write, Whole}
use Rattle.dt_queue.specs.declared.cell.Cell.{Cell}
use Rattle.dt_queue.specs.declared.mark.Mark.{Mark}
use Rattle.dt_queue.specs.declared.kept.Kept.{Kept}
use Rattle.dt_queue.specs.KeptInner.{CellsClash, IsInLane, AreQueuesKept, lane, mark_of, place_at}
use Rattle.dt_queue.specs.LanesInner.{AreApart}
use Rattle.dt_queue.specs.TableInner.{lanes_read, lanes_written}
use Rattle.dt_queue.specs.ListedInner.{rows_between}
use Rattle.dt_queue.specs.RowsInner.{RowLinks, granule_at, links}
use Rattle.dt_queue.proofs.Listings.{listed_between}

-- a mark that has its cell
pub record IsMarkOf (k : Kept) (m : Mark) (c : Cell) : Type 0 where
  pub there : get k.cells m.slot ≡ Some c
  pub is : m ≡ mark_of m.slot c

pub number_of_mark : (k : Kept) (m : Mark) (c : Cell) → IsMarkOf k m c → m.number ≡ c.number
number_of_mark k m c a = ap (λ (x : Mark). x.number) a.is

-- a mark of a lane has a cell of its mode and place
pub cell_of : (k : Kept) → AreQueuesKept k → (mode : Mode) (p : ℕ) (m : Mark) → Has (lane k mode p) m → (c : Cell) × IsMarkOf k m c × IsInLane (links k.rows) mode p c
cell_of k kept mode p m h = let r = ((kept.lanes mode p).members m).0 h in (r.0, record { there = r.1; is = r.3 }, r.2)

-- a read or a write of a row has a cell of the row
pub cell_in_row : (k : Kept) → AreQueuesKept k → (row : ℕ) (m : Mark) → Has (lane k Read row) m ⊎ Has (lane k Write row) m → (c : Cell) × IsMarkOf k m c × (c.row ≡ row)
cell_in_row k kept row m (inl h) = let d = cell_of k kept Read row m h in (d.0, d.1, d.2.1)
cell_in_row k kept row m (inr h) = let d = cell_of k kept Write row m h in (d.0, d.1, d.2.1)

-- of two ways of use one is given, whatever else is known
pub one_use : {A B P Q R : Type 0} → (A × P) ⊎ (B × Q × R) → A ⊎ B
one_use (inl h) = inl h.0
one_use (inr h) = inr h.0

-- and the other way round
pub in_lane : (k : Kept) → AreQueuesKept k → (m : Mark) (c : Cell) → IsMarkOf k m c → (mode : Mode) (p : ℕ) → IsInLane (links k.rows) mode p c → Has (lane k mode p) m
in_lane k kept m c a mode p b = ((kept.lanes mode p).members m).1 (c, a.there, b, a.is)

pub same_cell : (k : Kept) (m : Mark) (c d : Cell) → IsMarkOf k m c → IsMarkOf k m d → c ≡ d
same_cell k m c d a b = same_Some c d (sym a.there ∙ b.there)

-- the cell of a mark of a lane is of its mode and place
pub lane_tells : (k : Kept) → AreQueuesKept k → (mode : Mode) (p : ℕ) (m : Mark) (c : Cell) → IsMarkOf k m c → Has (lane k mode p) m → IsInLane (links k.rows) mode p c
lane_tells k kept mode p m c a h = let r = cell_of k kept mode p m h in subst (IsInLane (links k.rows) mode p) (same_cell k m r.0 c r.1 a) r.2

-- marks with one number have one cell
pub one_cell : (k : Kept) → AreQueuesKept k → (m n : Mark) (c d : Cell) → IsMarkOf k m c → IsMarkOf k n d → m.number ≡ n.number → c ≡ d
one_cell k kept m n c d a b e =
    let slots : m.slot ≡ n.slot = kept.alone m.slot n.slot c d a.there b.there (sym (number_of_mark k m c a) ∙ e ∙ number_of_mark k n d b) in
    same_Some c d (sym a.there ∙ ap (get k.cells) slots ∙ b.there)

read_write : Read ≡ Write → ⊥
read_write e = cc

-- the lanes of reads and writes are numbered, and have no number twice
pub apart_lanes : (k : Kept) → AreQueuesKept k → AreApart (lanes_read k.rows.table.items) (lanes_written k.rows.table.items)
apart_lanes k kept = record {
  reads_numbered = λ row. (kept.lanes Read row).numbered;
  writes_numbered = λ row. (kept.lanes Write row).numbered;
  of_reads = λ r s m n h g e. same Read r s m n h g e;
  of_writes = λ r s m n h g e. same Write r s m n h g e;
  of_both = λ r s m n h g e. read_write (both r s m n h g e);
}
  where
    rows : (mode : Mode) (r s : ℕ) (c : Cell) → place_at (links k.rows) mode c.row ≡ r → place_at (links k.rows) mode c.row ≡ s → r ≡ s
    rows mode r s c a b = sym a ∙ b

    same : (mode : Mode) (r s : ℕ) (m n : Mark) → Has (lane k mode r) m → Has (lane k mode s) n → m.number ≡ n.number → r ≡ s
    same mode r s m n h g e =
        let a = cell_of k kept mode r m h in
        let b = cell_of k kept mode s n g in
        let one : a.0 ≡ b.0 = one_cell k kept m n a.0 b.0 a.1 b.1 e in
        rows mode r s a.0 a.2.1 (subst (λ c. place_at (links k.rows) mode c.row ≡ s) (sym one) b.2.1)

    both : (r s : ℕ) (m n : Mark) → Has (lane k Read r) m → Has (lane k Write s) n → m.number ≡ n.number → Read ≡ Write
    both r s m n h g e =
        let a = cell_of k kept Read r m h in
        let b = cell_of k kept Write s n g in
        let one : a.0 ≡ b.0 = one_cell k kept m n a.0 b.0 a.1 b.1 e in
        sym a.2.0 ∙ ap (λ (c : Cell). c.mode) one ∙ b.2.0

-- ---- what clashes

-- a mark is of a read or a write that clashes with a use of a row, of this mode
abbrev pub InUseOf : Mode → Kept → ℕ → Mark → Type 0
InUseOf Read k row m = Has (lane k Write row) m
InUseOf Write k row m = Has (lane k Read row) m ⊎ Has (lane k Write row) m
InUseOf Whole k row m = (r : ℕ) × (granule_at (links k.rows) r ≡ granule_at (links k.rows) row) × (Has (lane k Read r) m ⊎ Has (lane k Write r) m)

pub clash_turned : (r : RowLinks) (c d : Cell) → CellsClash r c d → CellsClash r d c
clash_turned r c d (inl b) = inl (sym b.0, elim b.1 [ inl e ↦ inr e | inr e ↦ inl e ])
clash_turned r c d (inr b) = inr (sym b.0, elim b.1 [ inl e ↦ inr e | inr e ↦ inl e ])

pub one_granule : (r : RowLinks) (c d : Cell) → CellsClash r c d → granule_at r c.row ≡ granule_at r d.row
one_granule r c d (inl b) = ap (granule_at r) b.0
one_granule r c d (inr b) = b.0

-- two reads do not clash
pub reads_agree : (r : RowLinks) (c d : Cell) → c.mode ≡ Read → d.mode ≡ Read → ¬ (CellsClash r c d)
reads_agree r c d a b (inl e) = elim e.1 [ inl f ↦ false≢true (sym (ap may_change a) ∙ f) | inr f ↦ false≢true (sym (ap may_change b) ∙ f) ]
reads_agree r c d a b (inr e) = elim e.1 [ inl f ↦ false≢true (sym (ap is_whole a) ∙ f) | inr f ↦ false≢true (sym (ap is_whole b) ∙ f) ]

-- the mode takes no granule as a whole
abbrev pub IsNarrow : Mode → Type 0
IsNarrow mode = is_whole mode ≡ false

-- reads and writes clash on one row alone
pub on_one_row : (r : RowLinks) (c d : Cell) → IsNarrow c.mode → IsNarrow d.mode → CellsClash r c d → c.row ≡ d.row
on_one_row r c d a b (inl e) = e.0
on_one_row r c d a b (inr e) = absurd (elim e.1 [ inl f ↦ false≢true (sym a ∙ f) | inr f ↦ false≢true (sym b ∙ f) ])

-- a write clashes with each use of its row
pub write_clashes : (r : RowLinks) (c d : Cell) → c.mode ≡ Write → c.row ≡ d.row → CellsClash r c d
write_clashes r c d a b = inl (b, inl (ap may_change a))

pub whole_clashes : (r : RowLinks) (c d : Cell) → c.mode ≡ Whole → granule_at r c.row ≡ granule_at r d.row → CellsClash r c d
whole_clashes r c d a b = inr (b, inl (ap is_whole a))

-- the cell of a read or a write
pub narrow_cell : (k : Kept) → AreQueuesKept k → (row : ℕ) (m : Mark) (c : Cell) → IsMarkOf k m c → Has (lane k Read row) m ⊎ Has (lane k Write row) m → IsNarrow c.mode × (c.row ≡ row)
narrow_cell k kept row m c a (inl h) = let b = lane_tells k kept Read row m c a h in (ap is_whole b.0, b.1)
narrow_cell k kept row m c a (inr h) = let b = lane_tells k kept Write row m c a h in (ap is_whole b.0, b.1)

-- the rows that are listed between two pushes are of the granule
pub row_in_granule : (k : Kept) → AreQueuesKept k → (g low high row : ℕ) → Has (rows_between k.listed g low high) row → granule_at (links k.rows) row ≡ g
row_in_granule k kept g low high row h = (kept.listed.own g row (listed_between k.listed g low high row h)).1

-- a cell that is in use clashes with the use
pub use_clashes : (mode : Mode) (k : Kept) → AreQueuesKept k → (x : Cell) → x.mode ≡ mode → (m : Mark) (c : Cell) → IsMarkOf k m c → InUseOf mode k x.row m → IsNarrow c.mode × CellsClash (links k.rows) c x
use_clashes Read k kept x e m c a h = let b = lane_tells k kept Write x.row m c a h in (ap is_whole b.0, write_clashes (links k.rows) c x b.0 b.1)
use_clashes Write k kept x e m c a h = let b = narrow_cell k kept x.row m c a h in (b.0, clash_turned (links k.rows) x c (write_clashes (links k.rows) x c e (sym b.1)))
use_clashes Whole k kept x e m c a h =
    let b = narrow_cell k kept h.0 m c a h.2 in
    let g : granule_at (links k.rows) c.row ≡ granule_at (links k.rows) x.row = ap (granule_at (links k.rows)) b.1 ∙ h.1 in
    (b.0, clash_turned (links k.rows) x c (whole_clashes (links k.rows) x c e (sym g)))

-- a read or a write of a granule is in a row of it
in_own_row : (k : Kept) → AreQueuesKept k → (x : Cell) (m : Mark) (c : Cell) → CellsClash (links k.rows) c x → Has (lane k Read c.row) m ⊎ Has (lane k Write c.row) m → InUseOf Whole k x.row m
in_own_row k kept x m c clash h = (c.row, one_granule (links k.rows) c x clash, h)

-- a read or a write that clashes with the use is in use
pub clash_uses : (mode : Mode) (k : Kept) → AreQueuesKept k → (x : Cell) → x.mode ≡ mode → (m : Mark) (c : Cell) → IsMarkOf k m c → CellsClash (links k.rows) c x → (own : Mode) → c.mode ≡ own
    → Has (lane k Whole (granule_at (links k.rows) x.row)) m ⊎ InUseOf mode k x.row m
clash_uses mode k kept x e m c a clash Whole f = inl (in_lane k kept m c a Whole (granule_at (links k.rows) x.row) (f, one_granule (links k.rows) c x clash))
clash_uses Read k kept x e m c a clash Read f = absurd (reads_agree (links k.rows) c x f e clash)
clash_uses Read k kept x e m c a clash Write f = inr (in_lane k kept m c a Write x.row (f, on_one_row (links k.rows) c x (ap is_whole f) (ap is_whole e) clash))
clash_uses Write k kept x e m c a clash Read f = inr (inl (in_lane k kept m c a Read x.row (f, on_one_row (links k.rows) c x (ap is_whole f) (ap is_whole e) clash)))
clash_uses Write k kept x e m c a clash Write f = inr (inr (in_lane k kept m c a Write x.row (f, on_one_row (links k.rows) c x (ap is_whole f) (ap is_whole e) clash)))
clash_uses Whole k kept x e m c a clash Read f = inr (in_own_row k kept x m c clash (inl (in_lane k kept m c a Read c.row (f, refl))))
clash_uses Whole k kept x e m c a clash Write f = inr (in_own_row k kept x m c clash (inr (in_lane k kept m c a Write c.row (f, refl))))

-- the cell of a mark that takes the granule of a use as a whole
pub taker_of : (k : Kept) → AreQueuesKept k → (x : Cell) (m : Mark) (c : Cell) → IsMarkOf k m c → Has (lane k Whole (granule_at (links k.rows) x.row)) m → (c.mode ≡ Whole) ×
    (granule_at (links k.rows) c.row ≡ granule_at (links k.rows) x.row)
taker_of k kept x m c a h = lane_tells k kept Whole (granule_at (links k.rows) x.row) m c a h
