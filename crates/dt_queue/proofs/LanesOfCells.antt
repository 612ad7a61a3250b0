-- How lanes follow the cells: a mark is added where a cell is, and taken out where it is taken out.
use Rattle.std.proofs.Common.{◌≡◌, ◌≢◌, ◌⊎◌, ◌↔◌, ℕ, ◌+◌, ◌<◌, ◌≤◌, ◌^◌, Bool, true, false, not, ◌==◌, List, [], ◌∷◌, ◌++◌}
use Rattle.std.proofs.Common.{length, get_or, map, slice_index_or, Some, None, Result, Ok, Err, OnErr, refl, ap, sym, subst, inl, inr, arith, ◌∙◌}
use Rattle.std.proofs.lemmas.Option.{none-some, same_Some}
use Rattle.std.specs.List.{filter}
use Rattle.slab.specs.Slab.{Slab, Updates, get}
use Rattle.dt_lists.specs.Lists.{AllIn, EachThen, Has}
use Rattle.dt_lists.proofs.Callers.{all_put, any_append, any_append_left, any_append_right, either_nat, filter_each, front_refl, has_filter, has_of_filtered, front_length}
use Rattle.dt_access.specs.Clash.{Bytes}
use Rattle.dt_access.specs.declared.access.Mode.{Mode}
use Rattle.dt_access.specs.declared.access.Mode.TheVariants.{Read, Write, Whole}
use Rattle.dt_queue.specs.declared.cell.Cell.{Cell}
use Rattle.dt_queue.specs.declared.mark.Mark.{Mark}
use Rattle.dt_queue.specs.declared.kept.Kept.{Kept}
use Rattle.dt_queue.specs.declared.rows.Rows.{Rows}
use Rattle.dt_queue.specs.declared.row.Way.{Way}
use Rattle.dt_queue.specs.declared.row.Way.TheVariants as way
use Rattle.dt_queue.specs.KeptInner.{AreRowsListed, ChangesLaneOf, IsInLane, AreQueuesKept, IsLane, KeepsLanes, lane, mark_of, place_at}
use Rattle.dt_queue.specs.declared.listed.ListedRows.{ListedRows}
use Rattle.dt_queue.specs.declared.listed.Log.{Log}
use Rattle.dt_queue.specs.LanesInner.{ChangesLane, SameLanes}
use Rattle.dt_queue.specs.ListedInner.{IsListedRow, last_listing, listings_at}
use Rattle.dt_queue.specs.TableInner.{heads_of, lanes_of, lanes_read, lanes_written}
use Rattle.dt_queue.specs.RowsInner.{AreRowsLinked, KeepsRows, RowLinks, granule_at, links}
use Rattle.dt_queue.proofs.Marks.{numbered_more}
use Rattle.dt_queue.proofs.InOrder.{AreAlone}

-- what a lane has depends on P at the cells that there are
pub lane_map : (cells : Slab Cell) (P Q : Cell → Type 0) (ms : List Mark) → ((s : ℕ) (c : Cell) → get cells s ≡ Some c → P c ↔ Q c) → IsLane cells P ms → IsLane cells Q ms
lane_map cells P Q ms f l = record {
  numbered = l.numbered;
  members = λ m. (
    λ h. let r = (l.members m).0 h in (r.0, r.1, (f m.slot r.0 r.1).0 r.2, r.3),
    λ r. (l.members m).1 (r.0, r.1, (f m.slot r.0 r.1).1 r.2, r.3),
  );
}

-- the same cells have the same lanes
pub lane_as : (a b : Slab Cell) (P : Cell → Type 0) (ms : List Mark) → ((s : ℕ) → get b s ≡ get a s) → IsLane a P ms → IsLane b P ms
lane_as a b P ms same l = record {
  numbered = l.numbered;
  members = λ m. (
    λ h. let r = (l.members m).0 h in (r.0, same m.slot ∙ r.1, r.2, r.3),
    λ r. (l.members m).1 (r.0, sym (same m.slot) ∙ r.1, r.2, r.3),
  );
}

-- a cell of the lane was put behind all others
pub lane_more : (a b : Slab Cell) (P : Cell → Type 0) (ms : List Mark) (slot : ℕ) (c : Cell) → IsLane a P ms → Updates a b slot (Some c) → get a slot ≡ None → P c → AllIn (λ m. m.number < c.number) ms
    → IsLane b P (ms ++ mark_of slot c ∷ [])
lane_more a b P ms slot c l up vacant p all = record {
  numbered = numbered_more ms (mark_of slot c) l.numbered all;
  members = λ m. (
    λ h. elim (any_append _ ms (mark_of slot c ∷ []) h) [
      | inl g ↦ let r = (l.members m).0 g in (r.0, up.others m.slot (λ s. none-some r.0 (sym vacant ∙ ap (get a) (sym s) ∙ r.1)) ∙ r.1, r.2, r.3)
      | inr g ↦ elim g [ inl e ↦ subst (λ (k : Mark). (d : Cell) × (get b k.slot ≡ Some d) × P d × (k ≡ mark_of k.slot d)) e (c, up.changed, p, refl) | inr f ↦ absurd f ]
    ],
    λ r. elim (either_nat m.slot slot) [
      | inl s ↦ any_append_right _ ms (mark_of slot c ∷ []) (inl (here m r.0 s r.1 r.3))
      | inr ne ↦ any_append_left _ ms (mark_of slot c ∷ []) ((l.members m).1 (r.0, sym (up.others m.slot ne) ∙ r.1, r.2, r.3))
    ],
  );
}
  where
    here : (m : Mark) (d : Cell) → m.slot ≡ slot → get b m.slot ≡ Some d → m ≡ mark_of m.slot d → mark_of slot c ≡ m
    here m d s e is = let v : c ≡ d = same_Some c d (sym up.changed ∙ ap (get b) (sym s) ∙ e) in (λ i. mark_of (sym s i) (v i)) ∙ sym is

-- a cell of another lane was put
pub lane_same : (a b : Slab Cell) (P : Cell → Type 0) (ms : List Mark) (slot : ℕ) (c : Cell) → IsLane a P ms → Updates a b slot (Some c) → get a slot ≡ None → ¬ (P c) → IsLane b P ms
lane_same a b P ms slot c l up vacant other = record {
  numbered = l.numbered;
  members = λ m. (
    λ h. let r = (l.members m).0 h in (r.0, up.others m.slot (λ s. none-some r.0 (sym vacant ∙ ap (get a) (sym s) ∙ r.1)) ∙ r.1, r.2, r.3),
    λ r. elim (either_nat m.slot slot) [
      | inl s ↦ absurd (other (subst P (sym (same_Some c r.0 (sym up.changed ∙ ap (get b) (sym s) ∙ r.1))) r.2))
      | inr ne ↦ (l.members m).1 (r.0, sym (up.others m.slot ne) ∙ r.1, r.2, r.3)
    ],
  );
}

-- a cell was taken out: its lane loses its mark
pub lane_less : (a b : Slab Cell) (P : Cell → Type 0) (ms : List Mark) (slot : ℕ) (c : Cell) → IsLane a P ms → AreAlone a → get a slot ≡ Some c → Updates a b slot None
    → IsLane b P (filter (λ m. not (m.number == c.number)) ms)
lane_less a b P ms slot c l alone there up = record {
  numbered = filter_each (λ m k. m.number < k.number) (λ m. not (m.number == c.number)) ms l.numbered;
  members = λ m. (
    λ h. let both = has_of_filtered (λ (k : Mark). not (k.number == c.number)) ms m h in
        let r = (l.members m).0 both.0 in
        (r.0, up.others m.slot (λ s. differs m both.1 (number m r.0 s r.1 r.3)) ∙ r.1, r.2, r.3),
    λ r. has_filter (λ (k : Mark). not (k.number == c.number)) ms m ((l.members m).1 (r.0, old m r.0 r.1, r.2, r.3))
        (passes m (λ e. apart m r.0 r.1 (alone m.slot slot r.0 c (old m r.0 r.1) there (sym (ap (λ (k : Mark). k.number) r.3) ∙ e)))),
  );
}
  where
    differs : (m : Mark) → not (m.number == c.number) ≡ true → m.number ≢ c.number
    differs m t e = absurd (grind (arith, t, e))

    passes : (m : Mark) → m.number ≢ c.number → not (m.number == c.number) ≡ true
    passes m ne = grind (arith, ne)

    number : (m : Mark) (d : Cell) → m.slot ≡ slot → get a m.slot ≡ Some d → m ≡ mark_of m.slot d → m.number ≡ c.number
    number m d s e is = ap (λ (k : Mark). k.number) is ∙ ap (λ (x : Cell). x.number) (same_Some d c (sym e ∙ ap (get a) s ∙ there))

    apart : (m : Mark) (d : Cell) → get b m.slot ≡ Some d → m.slot ≢ slot
    apart m d e s = none-some d (sym up.changed ∙ ap (get b) (sym s) ∙ e)

    old : (m : Mark) (d : Cell) → get b m.slot ≡ Some d → get a m.slot ≡ Some d
    old m d e = sym (up.others m.slot (apart m d e)) ∙ e

-- a cell of another lane was taken out
pub lane_kept : (a b : Slab Cell) (P : Cell → Type 0) (ms : List Mark) (slot : ℕ) (c : Cell) → IsLane a P ms → get a slot ≡ Some c → ¬ (P c) → Updates a b slot None → IsLane b P ms
lane_kept a b P ms slot c l there other up = record {
  numbered = l.numbered;
  members = λ m. (
    λ h. let r = (l.members m).0 h in (r.0, up.others m.slot (λ s. other (subst P (same_Some r.0 c (sym r.1 ∙ ap (get a) s ∙ there)) r.2)) ∙ r.1, r.2, r.3),
    λ r. (l.members m).1 (r.0, sym (up.others m.slot (λ s. none-some r.0 (sym up.changed ∙ ap (get b) (sym s) ∙ r.1))) ∙ r.1, r.2, r.3),
  );
}

-- ---- what all queues keep

pub either_mode : (m n : Mode) → (m ≡ n) ⊎ (m ≢ n)
either_mode Read Read = inl refl
either_mode Read Write = inr (λ e. cc)
either_mode Read Whole = inr (λ e. cc)
either_mode Write Read = inr (λ e. cc)
either_mode Write Write = inl refl
either_mode Write Whole = inr (λ e. cc)
either_mode Whole Read = inr (λ e. cc)
either_mode Whole Write = inr (λ e. cc)
either_mode Whole Whole = inl refl

pub either_place : (m n : Mode) (p q : ℕ) → ((m ≡ n) × (p ≡ q)) ⊎ ¬ ((m ≡ n) × (p ≡ q))
either_place m n p q = elim (either_mode m n) [
  | inl e ↦ elim (either_nat p q) [ inl f ↦ inl (e, f) | inr ne ↦ inr (λ b. ne b.1) ]
  | inr ne ↦ inr (λ b. ne b.0)
]

-- lanes are the same where all three lists are
pub same_lanes : (a b : Kept) → SameLanes (lanes_read b.rows.table.items) (lanes_read a.rows.table.items) → SameLanes (lanes_written b.rows.table.items) (lanes_written a.rows.table.items) → a.wholes ≡ b.wholes
    → (m : Mode) (p : ℕ) → lane a m p ≡ lane b m p
same_lanes a b r w t Read p = r p
same_lanes a b r w t Write p = w p
same_lanes a b r w t Whole p = ap (λ l. get_or l p []) t

pub place_same : (old new : RowLinks) → KeepsRows old new → (m : Mode) (row : ℕ) → row < length old.names → place_at new m row ≡ place_at old m row
place_same old new k Read row lt = refl
place_same old new k Write row lt = refl
place_same old new k Whole row lt = k.granules row lt

pub rows_refl : (r : RowLinks) → KeepsRows r r
rows_refl r = record { names = front_refl r.names; granules = λ row lt. refl }

-- rows may have been added, and nothing else
pub kept_same : (k n : Kept) → AreQueuesKept k → AreRowsLinked (links n.rows) → KeepsRows (links k.rows) (links n.rows) → ((s : ℕ) → get n.cells s ≡ get k.cells s) → n.next_number ≡ k.next_number
    → ((m : Mode) (p : ℕ) → lane n m p ≡ lane k m p) → AreRowsListed n → AreQueuesKept n
kept_same k n kept linked keeps cells next lanes used = record {
  linked = linked;
  first = subst (λ i. 0 < i) (sym next) kept.first;
  last = subst (λ i. i < 2 ^ 64) (sym next) kept.last;
  counted = λ s c e. let b = kept.counted s c (sym (cells s) ∙ e) in (b.0, subst (λ i. c.number < i) (sym next) b.1);
  alone = λ s t c d e f g. kept.alone s t c d (sym (cells s) ∙ e) (sym (cells t) ∙ f) g;
  known = λ s c e. let lt = kept.known s c (sym (cells s) ∙ e) in omega (arith, lt, front_length _ _ keeps.names);
  lanes = λ m p. subst (IsLane n.cells (IsInLane (links n.rows) m p)) (sym (lanes m p))
      (lane_as k.cells n.cells (IsInLane (links n.rows) m p) (lane k m p) cells
      (lane_map k.cells (IsInLane (links k.rows) m p) (IsInLane (links n.rows) m p) (lane k m p) (moved m p) (kept.lanes m p)));
  listed = used;
}
  where
    moved : (m : Mode) (p s : ℕ) (c : Cell) → get k.cells s ≡ Some c → IsInLane (links k.rows) m p c ↔ IsInLane (links n.rows) m p c
    moved m p s c e = let same = place_same (links k.rows) (links n.rows) keeps m c.row (kept.known s c e) in (λ b. (b.0, same ∙ b.1), λ b. (b.0, sym same ∙ b.1))

-- rows were listed, or not any more, and nothing else
pub kept_listed : (k : Kept) (new : ListedRows) → AreQueuesKept k → AreRowsListed (record k { listed = new }) → AreQueuesKept (record k { listed = new })
kept_listed k new kept listed = kept_same k (record k { listed = new }) kept kept.linked (rows_refl (links k.rows)) (λ s. refl) refl (λ m p. same m p) listed
  where
    same : (m : Mode) (p : ℕ) → lane (record k { listed = new }) m p ≡ lane k m p
    same Read p = refl
    same Write p = refl
    same Whole p = refl

-- the place of the lane that has the mark of a cell
abbrev pub own_place : Kept → Cell → ℕ
own_place k c = place_at (links k.rows) c.mode c.row

-- a cell was put behind all others, and its mark in its lane; all else is as before
pub record PushesCell (k n : Kept) (slot : ℕ) (c : Cell) : Type 0 where
  pub cells : Updates k.cells n.cells slot (Some c)
  pub vacant : get k.cells slot ≡ None
  pub row_in : c.row < length (links k.rows).names
  pub number : c.number ≡ k.next_number
  pub next : n.next_number ≡ c.number + 1
  pub fits : n.next_number < 2 ^ 64
  pub changed : lane n c.mode (own_place k c) ≡ lane k c.mode (own_place k c) ++ mark_of slot c ∷ []
  pub others : (m : Mode) (p : ℕ) → ¬ ((m ≡ c.mode) × (p ≡ own_place k c)) → lane n m p ≡ lane k m p
  pub rows : (links n.rows) ≡ (links k.rows)
  pub listed : n.listed ≡ k.listed

pub kept_pushed : (k n : Kept) (slot : ℕ) (c : Cell) → AreQueuesKept k → PushesCell k n slot c → AreRowsListed n → AreQueuesKept n
kept_pushed k n slot c kept push used = record {
  linked = subst AreRowsLinked (sym push.rows) kept.linked;
  first = omega (arith, push.next);
  last = push.fits;
  counted = λ s d e. counted s d e (either_nat s slot);
  alone = λ s t d x e f g. alone s t d x e f g (either_nat s slot) (either_nat t slot);
  known = λ s d e. subst (λ (r : RowLinks). d.row < length r.names) (sym push.rows) (known s d e (either_nat s slot));
  lanes = λ m p. subst (λ (r : RowLinks). IsLane n.cells (IsInLane r m p) (lane n m p)) (sym push.rows) (lanes m p (either_place m c.mode p (own_place k c)));
  listed = used;
}
  where
    is_new : (s : ℕ) (d : Cell) → s ≡ slot → get n.cells s ≡ Some d → d ≡ c
    is_new s d e f = same_Some d c (sym f ∙ ap (get n.cells) e ∙ push.cells.changed)

    is_old : (s : ℕ) (d : Cell) → s ≢ slot → get n.cells s ≡ Some d → get k.cells s ≡ Some d
    is_old s d ne f = sym (push.cells.others s ne) ∙ f

    below : (s : ℕ) (d : Cell) → s ≢ slot → get n.cells s ≡ Some d → d.number < c.number
    below s d ne f = let b = kept.counted s d (is_old s d ne f) in omega (arith, b.1, push.number)

    counted : (s : ℕ) (d : Cell) → get n.cells s ≡ Some d → (s ≡ slot) ⊎ (s ≢ slot) → (0 < d.number) × (d.number < n.next_number)
    counted s d e (inl s') = let v : d.number ≡ c.number = ap (λ (x : Cell). x.number) (is_new s d s' e) in (omega (arith, v, push.number, kept.first), omega (arith, v, push.next))
    counted s d e (inr ne) = let b = kept.counted s d (is_old s d ne e) in (b.0, omega (arith, below s d ne e, push.next))

    alone : (s t : ℕ) (d x : Cell) → get n.cells s ≡ Some d → get n.cells t ≡ Some x → d.number ≡ x.number → (s ≡ slot) ⊎ (s ≢ slot) → (t ≡ slot) ⊎ (t ≢ slot) → s ≡ t
    alone s t d x e f g (inl a) (inl b) = a ∙ sym b
    alone s t d x e f g (inl a) (inr b) = let v : d.number ≡ c.number = ap (λ (x : Cell). x.number) (is_new s d a e) in absurd (omega (arith, v, g, below t x b f))
    alone s t d x e f g (inr a) (inl b) = let v : x.number ≡ c.number = ap (λ (x : Cell). x.number) (is_new t x b f) in absurd (omega (arith, v, g, below s d a e))
    alone s t d x e f g (inr a) (inr b) = kept.alone s t d x (is_old s d a e) (is_old t x b f) g

    known : (s : ℕ) (d : Cell) → get n.cells s ≡ Some d → (s ≡ slot) ⊎ (s ≢ slot) → d.row < length (links k.rows).names
    known s d e (inl s') = subst (λ (x : Cell). x.row < length (links k.rows).names) (sym (is_new s d s' e)) push.row_in
    known s d e (inr ne) = kept.known s d (is_old s d ne e)

    all_below : (m : Mode) (p : ℕ) → AllIn (λ (x : Mark). x.number < c.number) (lane k m p)
    all_below m p = all_put _ (lane k m p) (λ x h. let r = ((kept.lanes m p).members x).0 h in
        let v : x.number ≡ r.0.number = ap (λ (y : Mark). y.number) r.3 in
        omega (arith, v, (kept.counted x.slot r.0 r.1).1, push.number))

    lanes : (m : Mode) (p : ℕ) → ((m ≡ c.mode) × (p ≡ own_place k c)) ⊎ ¬ ((m ≡ c.mode) × (p ≡ own_place k c)) → IsLane n.cells (IsInLane (links k.rows) m p) (lane n m p)
    lanes m p (inr ne) = subst (IsLane n.cells (IsInLane (links k.rows) m p)) (sym (push.others m p ne))
        (lane_same k.cells n.cells (IsInLane (links k.rows) m p) (lane k m p) slot c (kept.lanes m p) push.cells push.vacant (λ b. ne (sym b.0, sym b.1 ∙ ap (λ x. place_at (links k.rows) x c.row) (sym b.0))))
    lanes m p (inl b) =
        subst (λ x. IsLane n.cells (IsInLane (links k.rows) x p) (lane n x p)) (sym b.0)
        (subst (λ q. IsLane n.cells (IsInLane (links k.rows) c.mode q) (lane n c.mode q)) (sym b.1)
        (subst (IsLane n.cells (IsInLane (links k.rows) c.mode (own_place k c))) (sym push.changed)
        (lane_more k.cells n.cells (IsInLane (links k.rows) c.mode (own_place k c)) (lane k c.mode (own_place k c)) slot c (kept.lanes c.mode (own_place k c)) push.cells push.vacant (refl, refl) (all_below c.mode (own_place k c)))))

-- a cell was taken out, and its mark out of its lane; all else is as before
pub record TakesCell (k n : Kept) (slot : ℕ) (c : Cell) : Type 0 where
  pub there : get k.cells slot ≡ Some c
  pub cells : Updates k.cells n.cells slot None
  pub changed : lane n c.mode (own_place k c) ≡ filter (λ m. not (m.number == c.number)) (lane k c.mode (own_place k c))
  pub others : (m : Mode) (p : ℕ) → ¬ ((m ≡ c.mode) × (p ≡ own_place k c)) → lane n m p ≡ lane k m p
  pub rows : (links n.rows) ≡ (links k.rows)
  pub listed : n.listed ≡ k.listed
  pub number : n.next_number ≡ k.next_number

pub kept_removed : (k n : Kept) (slot : ℕ) (c : Cell) → AreQueuesKept k → TakesCell k n slot c → AreRowsListed n → AreQueuesKept n
kept_removed k n slot c kept take used = record {
  linked = subst AreRowsLinked (sym take.rows) kept.linked;
  first = subst (λ i. 0 < i) (sym take.number) kept.first;
  last = subst (λ i. i < 2 ^ 64) (sym take.number) kept.last;
  counted = λ s d e. let b = kept.counted s d (old s d e) in (b.0, subst (λ i. d.number < i) (sym take.number) b.1);
  alone = λ s t d x e f g. kept.alone s t d x (old s d e) (old t x f) g;
  known = λ s d e. subst (λ (r : RowLinks). d.row < length r.names) (sym take.rows) (kept.known s d (old s d e));
  lanes = λ m p. subst (λ (r : RowLinks). IsLane n.cells (IsInLane r m p) (lane n m p)) (sym take.rows) (lanes m p (either_place m c.mode p (own_place k c)));
  listed = used;
}
  where
    old : (s : ℕ) (d : Cell) → get n.cells s ≡ Some d → get k.cells s ≡ Some d
    old s d e = sym (take.cells.others s (λ f. none-some d (sym take.cells.changed ∙ ap (get n.cells) (sym f) ∙ e))) ∙ e

    lanes : (m : Mode) (p : ℕ) → ((m ≡ c.mode) × (p ≡ own_place k c)) ⊎ ¬ ((m ≡ c.mode) × (p ≡ own_place k c)) → IsLane n.cells (IsInLane (links k.rows) m p) (lane n m p)
    lanes m p (inr ne) = subst (IsLane n.cells (IsInLane (links k.rows) m p)) (sym (take.others m p ne))
        (lane_kept k.cells n.cells (IsInLane (links k.rows) m p) (lane k m p) slot c (kept.lanes m p) take.there (λ b. ne (sym b.0, sym b.1 ∙ ap (λ x. place_at (links k.rows) x c.row) (sym b.0))) take.cells)
    lanes m p (inl b) =
        subst (λ x. IsLane n.cells (IsInLane (links k.rows) x p) (lane n x p)) (sym b.0)
        (subst (λ q. IsLane n.cells (IsInLane (links k.rows) c.mode q) (lane n c.mode q)) (sym b.1)
        (subst (IsLane n.cells (IsInLane (links k.rows) c.mode (own_place k c))) (sym take.changed)
        (lane_less k.cells n.cells (IsInLane (links k.rows) c.mode (own_place k c)) (lane k c.mode (own_place k c)) slot c (kept.lanes c.mode (own_place k c)) kept.alone take.there take.cells)))

-- ---- steps of the code

pub none_kept : (k : Kept) → AreRowsLinked (links k.rows) → k.cells.slots ≡ [] → k.rows.table.items ≡ [] → k.wholes ≡ []
    → k.listed.logs.items ≡ [] → k.listed.last.items ≡ [] → 0 < k.next_number → k.next_number < 2 ^ 64 → AreQueuesKept k
none_kept k linked slots table wholes logs lasts first last = record {
  linked = linked;
  first = first;
  last = last;
  counted = λ s c e. absurd (none s c e);
  alone = λ s t c d e f g. absurd (none s c e);
  known = λ s c e. absurd (none s c e);
  lanes = λ m p. subst (IsLane k.cells (IsInLane (links k.rows) m p)) (sym (empty m p)) (record { numbered = tt; members = λ x. (λ h. absurd h, λ r. absurd (none x.slot r.0 r.1)) });
  listed = record {
    logged = record {
      rising = λ e g. subst (EachThen (λ a b. a.number ≤ b.number)) (sym (no_log g)) tt;
      chained = λ g. subst (EachThen (λ a b. a.row ≡ b.row → a.number ≤ b.before)) (sym (no_log g)) tt;
      each = λ g. subst (AllIn (λ a. (a.before < a.number) × (a.number ≤ last_listing k.listed a.row))) (sym (no_log g)) tt;
    };
    own = λ g row h. absurd (subst (λ l. IsListedRow l row) (no_log g) h);
    latest = λ e row. omega (arith, no_last row);
    covered = λ row low top lo to lt. absurd (elim to [
      | inl e ↦ omega (arith, e, no_last row, lt)
      | inr u ↦ elim u.1 [ inl h ↦ subst (λ l. Has l u.0) (empty Read row) h | inr h ↦ subst (λ l. Has l u.0) (empty Write row) h ]
    ]);
  };
}
  where
    no_log : (g : ℕ) → listings_at k.listed g ≡ []
    no_log g = ap (λ l. get_or (map (λ (x : Log). x.listings.items) l) g []) logs

    no_last : (row : ℕ) → last_listing k.listed row ≡ 0
    no_last row = ap (λ l. get_or l row 0) lasts

    none : (s : ℕ) (c : Cell) → get k.cells s ≡ Some c → ⊥
    none s c e = none-some c (subst (λ l. slice_index_or l s None ≡ Some c) slots e)

    empty : (m : Mode) (p : ℕ) → lane k m p ≡ []
    empty Read p = ap (λ l. get_or (lanes_read l) p []) table
    empty Write p = ap (λ l. get_or (lanes_written l) p []) table
    empty Whole p = ap (λ l. get_or l p []) wholes

-- all marks have numbers that were given
pub all_before : (k : Kept) → AreQueuesKept k → (m : Mode) (p : ℕ) → AllIn (λ (x : Mark). x.number < k.next_number) (lane k m p)
all_before k kept m p = all_put _ (lane k m p) (λ x h. let r = ((kept.lanes m p).members x).0 h in
    let v : x.number ≡ r.0.number = ap (λ (y : Mark). y.number) r.3 in
    omega (arith, v, (kept.counted x.slot r.0 r.1).1))

-- rows have their names and granules as before
pub links_same : (r : Rows) (h : List (ℕ × Bytes) × List ℕ) → h ≡ heads_of r.table.items → record { names = r.names.keys; granules = r.granules.keys; name_of = h.0; granule_of = h.1 } ≡ links r
links_same r h e = ap (λ (x : List (ℕ × Bytes) × List ℕ). record { names = r.names.keys; granules = r.granules.keys; name_of = x.0; granule_of = x.1 }) e

-- the mode of those that are to use a row in this way
abbrev pub mode_of : Way → Mode
mode_of way.Read = Read
mode_of way.Write = Write

-- rows have all their lanes as before, but for those of this way
abbrev KeepsOtherWays : Kept → Kept → Way → Type 0
KeepsOtherWays old new w = (v : Way) → v ≢ w → SameLanes (lanes_of v old.rows.table.items) (lanes_of v new.rows.table.items)

-- one lane was changed
pub changed_row : (old new : Kept) (f : List Mark → List Mark) (mode : Mode) (w : Way) (row : ℕ) → mode ≡ mode_of w
    → ChangesLane (lanes_of w old.rows.table.items) row (f (get_or (lanes_of w old.rows.table.items) row [])) (lanes_of w new.rows.table.items)
    → KeepsOtherWays old new w
    → (links new.rows) ≡ (links old.rows) → new.listed ≡ old.listed → new.cells ≡ old.cells → new.next_number ≡ old.next_number → new.wholes ≡ old.wholes
    → ChangesLaneOf old mode (place_at (links old.rows) mode row) (f (lane old mode (place_at (links old.rows) mode row))) new
changed_row old new f mode w row is change others rows used cells number wholes =
    subst (λ m. ChangesLaneOf old m (place_at (links old.rows) m row) (f (lane old m (place_at (links old.rows) m row))) new) (sym is) (by w change others)
  where
    other : (v : Way) → ((p : ℕ) → ¬ (p ≡ row) → get_or (lanes_of v new.rows.table.items) p [] ≡ get_or (lanes_of v old.rows.table.items) p [])
        → KeepsOtherWays old new v
        → (m : Mode) (p : ℕ) → ¬ ((m ≡ mode_of v) × (p ≡ row)) → lane new m p ≡ lane old m p
    other way.Read here there Read p ne = here p (λ e. ne (refl, e))
    other way.Read here there Write p ne = there way.Write (λ e. cc) p
    other way.Write here there Read p ne = there way.Read (λ e. cc) p
    other way.Write here there Write p ne = here p (λ e. ne (refl, e))
    other v here there Whole p ne = ap (λ l. get_or l p []) wholes

    by : (v : Way) → ChangesLane (lanes_of v old.rows.table.items) row (f (get_or (lanes_of v old.rows.table.items) row [])) (lanes_of v new.rows.table.items)
        → KeepsOtherWays old new v
        → ChangesLaneOf old (mode_of v) (place_at (links old.rows) (mode_of v) row) (f (lane old (mode_of v) (place_at (links old.rows) (mode_of v) row))) new
    by way.Read one rest = record { changed = one.changed; others = other way.Read one.others rest; rows = rows; listed = used; cells = cells; number = number }
    by way.Write one rest = record { changed = one.changed; others = other way.Write one.others rest; rows = rows; listed = used; cells = cells; number = number }

pub changed_whole : (old new : Kept) (f : List Mark → List Mark) (mode : Mode) (row g : ℕ) → mode ≡ Whole → g ≡ granule_at (links old.rows) row → ChangesLane old.wholes g
    (f (get_or old.wholes g [])) new.wholes
    → (links new.rows) ≡ (links old.rows) → new.listed ≡ old.listed → new.cells ≡ old.cells → new.next_number ≡ old.next_number → new.rows.table ≡ old.rows.table
    → ChangesLaneOf old mode (place_at (links old.rows) mode row) (f (lane old mode (place_at (links old.rows) mode row))) new
changed_whole old new f mode row g is same change rows used cells number table =
    subst (λ m. ChangesLaneOf old m (place_at (links old.rows) m row) (f (lane old m (place_at (links old.rows) m row))) new) (sym is)
    (record { changed = moved.changed; others = λ m p ne. other m p ne; rows = rows; listed = used; cells = cells; number = number })
  where
    moved : ChangesLane old.wholes (granule_at (links old.rows) row) (f (get_or old.wholes (granule_at (links old.rows) row) [])) new.wholes
    moved = subst (λ i. ChangesLane old.wholes i (f (get_or old.wholes i [])) new.wholes) same change

    other : (m : Mode) (p : ℕ) → ¬ ((m ≡ Whole) × (p ≡ granule_at (links old.rows) row)) → lane new m p ≡ lane old m p
    other Read p ne = ap (λ l. get_or (lanes_read l.items) p []) table
    other Write p ne = ap (λ l. get_or (lanes_written l.items) p []) table
    other Whole p ne = moved.others p (λ e. ne (refl, e))

-- no lane was changed
pub keeps_lanes : (old new : Kept) → ((w : Way) → SameLanes (lanes_of w old.rows.table.items) (lanes_of w new.rows.table.items)) → SameLanes old.wholes new.wholes
    → (links new.rows) ≡ (links old.rows) → new.listed ≡ old.listed → new.cells ≡ old.cells → new.next_number ≡ old.next_number → KeepsLanes old new
keeps_lanes old new ways wholes rows used cells number = record { lanes = λ m p. same m p; rows = rows; listed = used; cells = cells; number = number }
  where
    same : (m : Mode) (p : ℕ) → lane new m p ≡ lane old m p
    same Read p = ways way.Read p
    same Write p = ways way.Write p
    same Whole p = wholes p

pub same_self : (lanes : List (List Mark)) → SameLanes lanes lanes
same_self lanes place = refl

pub empty_of : {A : Type 0} (xs : List A) (n : ℕ) (t : Bool) → n ≡ length xs → t ≡ (n == 0) → t ≡ true → xs ≡ []
empty_of [] n t a b c = refl
empty_of (x ∷ xs) n t a b c = absurd (grind (arith, a, b, c))

pub some_of : {A : Type 0} (xs : List A) (n : ℕ) (t : Bool) → n ≡ length xs → t ≡ (n == 0) → t ≡ false → (x : A) × Has xs x
some_of [] n t a b c = absurd (grind (arith, a, b, c))
some_of (x ∷ xs) n t a b c = (x, inl refl)

pub to_err : {A E P : Type 0} (r : Result A E) → P → OnErr r P
to_err (Ok x) p = tt
to_err (Err x) p = p
