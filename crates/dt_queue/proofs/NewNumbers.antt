-- How cells are numbered anew: a cell and its mark get a lesser number, and no other number lies between. So the order stays,
-- and the same entries are shown.
use Rattle.std.proofs.Common.{◌≡◌, ◌≢◌, ◌⊎◌, ℕ, zero, suc, ◌+◌, ◌<◌, ◌≤◌, ◌^◌, Bool, true, false, cond, ◌==◌, List, [], ◌∷◌, map, length, is_some, nat_lt, Option}
use Rattle.std.proofs.Common.{slice_index_or, slice_set, Some, None, refl, ap, ap₂, sym, subst, inl, inr, arith, ◌∙◌}
use Rattle.std.proofs.lemmas.Option.{none-some, same_Some}
use Rattle.std.proofs.lemmas.List.Recursion.{is_count_by}
use Rattle.std.proofs.lemmas.Simd.{map-map}
use Rattle.std.proofs.lemmas.List.{length-map}
use Rattle.slab.specs.Slab.{Slab, Updates, entries, entries_from, get, slab_len, with_value}
use Rattle.dt_lists.specs.Lists.{AllIn, AnyIn, EachThen, Has}
use Rattle.dt_lists.proofs.Callers.{all_get, all_map, all_put, any_get, any_of_image, any_put, each_image, either_le, either_nat, front_refl, has_map}
use Rattle.dt_access.specs.declared.access.Mode.{Mode}
use Rattle.dt_queue.specs.declared.cell.Cell.{Cell}
use Rattle.dt_queue.specs.declared.mark.Mark.{Mark}
use Rattle.dt_queue.specs.declared.kept.Kept.{Kept}
use Rattle.dt_queue.specs.KeptInner.{AreQueuesKept, IsInLane, IsLane, entry, in_order, lane, mark_of, place_at, put_cell, waiting_of}
use Rattle.dt_queue.specs.LanesInner.{EndsBelow, HasRisingNumbers}
use Rattle.dt_queue.specs.NumbersInner.{AreGiven, IsBeside, IsFirstBelow, IsFirstFrom, IsGap, ShowsSame, anew, renumbered}
use Rattle.dt_queue.specs.RowsInner.{AreRowsLinked, RowLinks, links}
use Rattle.dt_queue.proofs.InOrder.{AreAlone, IsListed, Rise, listed, same_list}
use Rattle.dt_queue.proofs.LanesOfCells.{either_place, kept_same, own_place, rows_refl, same_lanes, same_self}
use Rattle.dt_queue.proofs.RowsUsed.{all_the_same, listed_free, listed_same, rows_renumbered}
use Rattle.dt_queue.proofs.EntriesOfCells.{shown_same}

-- ---- numbers

at_it : (n i x : ℕ) → x ≡ n → anew n i x ≡ i
at_it n i x e = by (x == n) (grind (arith, e))
  where
    by : (t : Bool) → t ≡ true → cond t i x ≡ i
    by true f = refl
    by false f = cc

off_it : (n i x : ℕ) → x ≢ n → anew n i x ≡ x
off_it n i x ne = by (x == n) (grind (arith, ne))
  where
    by : (t : Bool) → t ≡ false → cond t i x ≡ x
    by true f = cc
    by false f = refl

-- the order of numbers stays
still_less : (n i x y : ℕ) → i ≤ n → IsBeside n i x → x < y → anew n i x < anew n i y
still_less n i x y le beside lt = elim (either_nat x n) [
  | inl e ↦ omega (arith, at_it n i x e, off_it n i y (above e), e, lt, le)
  | inr ne ↦ elim (either_nat y n) [
    | inl f ↦ elim beside [ inl b ↦ omega (arith, off_it n i x ne, at_it n i y f, b) | inr g ↦ absurd (below f g) ]
    | inr nf ↦ omega (arith, off_it n i x ne, off_it n i y nf, lt)
  ]
]
  where
    above : x ≡ n → y ≢ n
    above e f = omega (arith, e, f, lt)

    below : y ≡ n → n ≤ x → ⊥
    below f g = omega (arith, f, g, lt)

still_rise : {A : Type 0} (number : A → ℕ) (n i : ℕ) (xs : List A) → i ≤ n → AllIn (λ x. IsBeside n i (number x)) xs → EachThen (λ x y. number x < number y) xs
    → EachThen (λ x y. anew n i (number x) < anew n i (number y)) xs
still_rise number n i [] le beside rise = tt
still_rise number n i (x ∷ xs) le beside rise = (
  all_map (λ y. number x < number y) (λ y. anew n i (number x) < anew n i (number y)) xs (λ y lt. still_less n i (number x) (number y) le beside.0 lt) rise.0,
  still_rise number n i xs le beside.1 rise.1,
)

-- ---- marks

mark_at : (n i : ℕ) (m : Mark) → m.number ≡ n → renumbered n i m ≡ record m { number = i }
mark_at n i m e = ap (λ x. record m { number = x }) (at_it n i m.number e)

mark_off : (n i : ℕ) (m : Mark) → m.number ≢ n → renumbered n i m ≡ m
mark_off n i m ne = ap (λ x. record m { number = x }) (off_it n i m.number ne)

pub marks_rise : (n i : ℕ) (ms : List Mark) → i ≤ n → AllIn (IsGap n i) ms → HasRisingNumbers ms → HasRisingNumbers (map (renumbered n i) ms)
marks_rise n i ms le gap rise = each_image (λ (m k : Mark). m.number < k.number) (renumbered n i) ms (still_rise (λ (m : Mark). m.number) n i ms le gap rise)

all_off : (n i : ℕ) (ms : List Mark) → AllIn (λ m. m.number ≢ n) ms → map (renumbered n i) ms ≡ ms
all_off n i [] off = refl
all_off n i (m ∷ ms) off = ap₂ (λ x xs. x ∷ xs) (mark_off n i m off.0) (all_off n i ms off.1)

off_behind : (n : ℕ) (x : Mark) (xs : List Mark) → n ≤ x.number → AllIn (λ m. x.number < m.number) xs → AllIn (λ (m : Mark). m.number ≢ n) xs
off_behind n x xs le all = all_map (λ (m : Mark). x.number < m.number) (λ (m : Mark). m.number ≢ n) xs (λ m lt e. omega (arith, le, lt, e)) all

-- the mark of a number got another at its place
pub renumbered_at : (n i : ℕ) (ms : List Mark) (p : ℕ) (d : Mark) → HasRisingNumbers ms → EndsBelow n ms p → p < length ms → (slice_index_or ms p d).number ≡ n
    → slice_set ms p (record (slice_index_or ms p d) { number = i }) ≡ map (renumbered n i) ms
renumbered_at n i [] p d num ends lt same = absurd (omega arith)
renumbered_at n i (x ∷ xs) zero d num ends lt same = ap₂ (λ y ys. y ∷ ys) (sym (mark_at n i x same)) (sym (all_off n i xs (off_behind n x xs (omega (arith, same)) num.0)))
renumbered_at n i (x ∷ xs) (suc p) d num ends lt same =
    let rest : EndsBelow n xs p = record { within = omega (arith, ends.within); lesser = ends.lesser.1; others = ends.others } in
    ap₂ (λ y ys. y ∷ ys) (sym (mark_off n i x (λ e. omega (arith, ends.lesser.0, e)))) (renumbered_at n i xs p d num.1 rest (omega arith) same)

default_free : (ms : List Mark) (p : ℕ) (d m : Mark) → p < length ms → slice_index_or ms p m ≡ slice_index_or ms p d
default_free [] p d m lt = absurd (omega arith)
default_free (x ∷ xs) zero d m lt = refl
default_free (x ∷ xs) (suc p) d m lt = default_free xs p d m (omega arith)

-- the same, as the code says of the mark
pub placed_at : (n i : ℕ) (ms : List Mark) (p : ℕ) (d m : Mark) → HasRisingNumbers ms → EndsBelow n ms p → p < length ms → d ≡ slice_index_or ms p d → d.number ≡ n → m ≡ slice_index_or ms p m
    → slice_set ms p (record m { number = i }) ≡ map (renumbered n i) ms
placed_at n i ms p d m num ends lt is same value =
    let number : (slice_index_or ms p m).number ≡ n = ap (λ (x : Mark). x.number) (default_free ms p d m lt ∙ sym is) ∙ same in
    subst (λ (x : Mark). slice_set ms p (record x { number = i }) ≡ map (renumbered n i) ms) (sym value) (renumbered_at n i ms p m num ends lt number)

-- no mark has the number
pub not_placed : (n i : ℕ) (ms : List Mark) (p : ℕ) (d : Mark) → HasRisingNumbers ms → EndsBelow n ms p → (p < length ms → (slice_index_or ms p d).number ≢ n) → ms ≡ map (renumbered n i) ms
not_placed n i [] p d num ends none = refl
not_placed n i (x ∷ xs) zero d num ends none =
    let ne : x.number ≢ n = none (omega arith) in
    sym (all_off n i (x ∷ xs) (ne, off_behind n x xs ends.others.0 num.0))
not_placed n i (x ∷ xs) (suc p) d num ends none =
    let rest : EndsBelow n xs p = record { within = omega (arith, ends.within); lesser = ends.lesser.1; others = ends.others } in
    ap₂ (λ y ys. y ∷ ys) (sym (mark_off n i x (λ e. omega (arith, ends.lesser.0, e)))) (not_placed n i xs p d num.1 rest (λ lt. none (omega (arith, lt))))

-- ---- lanes

-- it is the mark of a cell that is one of these
abbrev IsMarkIn : Slab Cell → (Cell → Type 0) → Mark → Type 0
IsMarkIn cells P m = (d : Cell) × (get cells m.slot ≡ Some d) × P d × (m ≡ mark_of m.slot d)

module _ (a b : Slab Cell) (slot : ℕ) (c : Cell) (i : ℕ) (there : get a slot ≡ Some c) (up : Updates a b slot (Some (record c { number = i }))) where
  lane_renumbered : (P : Cell → Type 0) (ms : List Mark) → IsLane a P ms → AreAlone a → P (record c { number = i }) → P c → i ≤ c.number → AllIn (IsGap c.number i) ms → IsLane b P (map (renumbered c.number i) ms)
  lane_renumbered P ms l alone new old le gap = record {
    numbered = marks_rise c.number i ms le gap l.numbered;
    members = λ m. (
      λ h. let r = any_get (λ (k : Mark). renumbered c.number i k ≡ m) ms (any_of_image (λ (n : Mark). n ≡ m) (renumbered c.number i) ms h) in
          down m r.0 r.2 ((l.members r.0).0 r.1) (either_nat r.0.slot slot),
      λ r. back m r.0 r.1 r.2 r.3 (either_nat m.slot slot),
    );
  }
    where
      down : (m k : Mark) → renumbered c.number i k ≡ m → IsMarkIn a P k → (k.slot ≡ slot) ⊎ (k.slot ≢ slot) → IsMarkIn b P m
      down m k e r (inl s) =
          let v : r.0 ≡ c = same_Some r.0 c (sym r.1 ∙ ap (get a) s ∙ there) in
          let is : k ≡ mark_of slot c = r.3 ∙ (λ j. mark_of (s j) (v j)) in
          let own : mark_of slot (record c { number = i }) ≡ m = sym (mark_at c.number i k (ap (λ (x : Mark). x.number) is) ∙ ap (λ (x : Mark). record x { number = i }) is) ∙ e in
          subst (IsMarkIn b P) own (record c { number = i }, up.changed, new, refl)
      down m k e r (inr ne) =
          let off : k.number ≢ c.number = λ f. ne (alone k.slot slot r.0 c r.1 there (sym (ap (λ (x : Mark). x.number) r.3) ∙ f)) in
          subst (IsMarkIn b P) (sym (mark_off c.number i k off) ∙ e) (r.0, up.others k.slot ne ∙ r.1, r.2, r.3)

      back : (m : Mark) (d : Cell) → get b m.slot ≡ Some d → P d → m ≡ mark_of m.slot d → (m.slot ≡ slot) ⊎ (m.slot ≢ slot) → Has (map (renumbered c.number i) ms) m
      back m d e p is (inl s) =
          let v : d ≡ record c { number = i } = same_Some d (record c { number = i }) (sym e ∙ ap (get b) s ∙ up.changed) in
          let own : Has ms (mark_of slot c) = (l.members (mark_of slot c)).1 (c, there, old, refl) in
          subst (Has (map (renumbered c.number i) ms)) (mark_at c.number i (mark_of slot c) refl ∙ sym (is ∙ (λ j. mark_of (s j) (v j)))) (has_map (renumbered c.number i) ms (mark_of slot c) own)
      back m d e p is (inr ne) =
          let was : get a m.slot ≡ Some d = sym (up.others m.slot ne) ∙ e in
          let off : m.number ≢ c.number = λ f. ne (alone m.slot slot d c was there (sym (ap (λ (x : Mark). x.number) is) ∙ f)) in
          subst (Has (map (renumbered c.number i) ms)) (mark_off c.number i m off) (has_map (renumbered c.number i) ms m ((l.members m).1 (d, was, p, is)))

  lane_beside : (P : Cell → Type 0) (ms : List Mark) → IsLane a P ms → ¬ (P (record c { number = i })) → ¬ (P c) → IsLane b P ms
  lane_beside P ms l new old = record {
    numbered = l.numbered;
    members = λ m. (
      λ h. let r = (l.members m).0 h in (r.0, up.others m.slot (λ s. old (subst P (same_Some r.0 c (sym r.1 ∙ ap (get a) s ∙ there)) r.2)) ∙ r.1, r.2, r.3),
      λ r. (l.members m).1 (r.0, sym (up.others m.slot (λ s. new (subst P (same_Some r.0 (record c { number = i }) (sym r.1 ∙ ap (get b) s ∙ up.changed)) r.2))) ∙ r.1, r.2, r.3),
    );
  }

  -- ---- the list of cells

  abbrev moved : ℕ × Cell → ℕ × Cell
  moved p = (p.0, record p.1 { number = anew c.number i p.1.number })

  moved_at : (p : ℕ × Cell) → p.1.number ≡ c.number → moved p ≡ (p.0, record p.1 { number = i })
  moved_at p e = ap (λ x. (p.0, record p.1 { number = x })) (at_it c.number i p.1.number e)

  moved_off : (p : ℕ × Cell) → p.1.number ≢ c.number → moved p ≡ p
  moved_off p ne = ap (λ x. (p.0, record p.1 { number = x })) (off_it c.number i p.1.number ne)

  listed_renumbered : (K : List (ℕ × Cell)) → IsListed a K → AreAlone a → i ≤ c.number → ((s : ℕ) (d : Cell) → get a s ≡ Some d → IsBeside c.number i d.number) → IsListed b (map moved K)
  listed_renumbered K l alone le gap = record {
    numbered = each_image Rise moved K (still_rise (λ (p : ℕ × Cell). p.1.number) c.number i K le (all_put _ K (λ p h. gap p.0 p.1 ((l.members p).0 h))) l.numbered);
    members = λ q. (
      λ h. let r = any_get (λ (p : ℕ × Cell). moved p ≡ q) K (any_of_image (λ (n : ℕ × Cell). n ≡ q) moved K h) in down q r.0 r.2 ((l.members r.0).0 r.1) (either_nat r.0.0 slot),
      λ e. back q e (either_nat q.0 slot),
    );
  }
    where
      down : (q p : ℕ × Cell) → moved p ≡ q → get a p.0 ≡ Some p.1 → (p.0 ≡ slot) ⊎ (p.0 ≢ slot) → get b q.0 ≡ Some q.1
      down q p e g (inl s) =
          let v : p.1 ≡ c = same_Some p.1 c (sym g ∙ ap (get a) s ∙ there) in
          let own : (slot, record c { number = i }) ≡ q = sym (moved_at p (ap (λ (x : Cell). x.number) v) ∙ (λ j. (s j, record (v j) { number = i }))) ∙ e in
          subst (λ (x : ℕ × Cell). get b x.0 ≡ Some x.1) own up.changed
      down q p e g (inr ne) =
          let off : p.1.number ≢ c.number = λ f. ne (alone p.0 slot p.1 c g there f) in
          subst (λ (x : ℕ × Cell). get b x.0 ≡ Some x.1) (sym (moved_off p off) ∙ e) (up.others p.0 ne ∙ g)

      back : (q : ℕ × Cell) → get b q.0 ≡ Some q.1 → (q.0 ≡ slot) ⊎ (q.0 ≢ slot) → Has (map moved K) q
      back q e (inl s) =
          let v : q.1 ≡ record c { number = i } = same_Some q.1 (record c { number = i }) (sym e ∙ ap (get b) s ∙ up.changed) in
          subst (Has (map moved K)) (moved_at (slot, c) refl ∙ sym (λ j. (s j, v j))) (has_map moved K (slot, c) ((l.members (slot, c)).1 there))
      back q e (inr ne) =
          let was : get a q.0 ≡ Some q.1 = sym (up.others q.0 ne) ∙ e in
          let off : q.1.number ≢ c.number = λ f. ne (alone q.0 slot q.1 c was there f) in
          subst (Has (map moved K)) (moved_off q off) (has_map moved K q ((l.members q).1 was))

-- ---- what all queues keep

pub gap_in : (k : Kept) → AreQueuesKept k → (n i : ℕ) → ((s : ℕ) (d : Cell) → get k.cells s ≡ Some d → IsBeside n i d.number) → (m : Mode) (p : ℕ) → AllIn (IsGap n i) (lane k m p)
gap_in k kept n i gap m p = all_put (IsGap n i) (lane k m p) (λ x h. let r = ((kept.lanes m p).members x).0 h in
    subst (IsBeside n i) (sym (ap (λ (y : Mark). y.number) r.3)) (gap x.slot r.0 r.1))

module _ (k n : Kept) (slot : ℕ) (c : Cell) (i : ℕ) (kept : AreQueuesKept k) (rows : (links n.rows) ≡ (links k.rows)) (there : get k.cells slot ≡ Some c) (up : Updates k.cells n.cells slot (Some (record c { number = i })))
    (le : i ≤ c.number) (gap : (s : ℕ) (d : Cell) → get k.cells s ≡ Some d → IsBeside c.number i d.number) where
  pub kept_renumbered : n.next_number ≡ k.next_number → 0 < i → lane n c.mode (own_place k c) ≡ map (renumbered c.number i) (lane k c.mode (own_place k c))
      → ((m : Mode) (p : ℕ) → ¬ ((m ≡ c.mode) × (p ≡ own_place k c)) → lane n m p ≡ lane k m p) → k.listed.exact ≡ false → n.listed ≡ k.listed → AreQueuesKept n
  kept_renumbered next positive changed others free used = record {
    linked = subst AreRowsLinked (sym rows) kept.linked;
    first = subst (λ x. 0 < x) (sym next) kept.first;
    last = subst (λ x. x < 2 ^ 64) (sym next) kept.last;
    counted = λ s d e. counted s d e (either_nat s slot);
    alone = λ s t d x e f g. alone s t d x e f g (either_nat s slot) (either_nat t slot);
    known = λ s d e. subst (λ (r : RowLinks). d.row < length r.names) (sym rows) (known s d e (either_nat s slot));
    lanes = λ m p. subst (λ (r : RowLinks). IsLane n.cells (IsInLane r m p) (lane n m p)) (sym rows) (lanes m p (either_place m c.mode p (own_place k c)));
    listed = rows_renumbered k n (renumbered c.number i) c.mode (own_place k c) kept free rows used changed others;
  }
    where
      is_new : (s : ℕ) (d : Cell) → s ≡ slot → get n.cells s ≡ Some d → d ≡ record c { number = i }
      is_new s d e f = same_Some d (record c { number = i }) (sym f ∙ ap (get n.cells) e ∙ up.changed)

      is_old : (s : ℕ) (d : Cell) → s ≢ slot → get n.cells s ≡ Some d → get k.cells s ≡ Some d
      is_old s d ne f = sym (up.others s ne) ∙ f

      counted : (s : ℕ) (d : Cell) → get n.cells s ≡ Some d → (s ≡ slot) ⊎ (s ≢ slot) → (0 < d.number) × (d.number < n.next_number)
      counted s d e (inl s') = let v : d.number ≡ i = ap (λ (x : Cell). x.number) (is_new s d s' e) in (omega (arith, v, positive), omega (arith, v, le, next, (kept.counted slot c there).1))
      counted s d e (inr ne) = let b = kept.counted s d (is_old s d ne e) in (b.0, omega (arith, b.1, next))

      apart : (t : ℕ) (x : Cell) → t ≢ slot → get k.cells t ≡ Some x → x.number ≢ i
      apart t x ne e f = elim (gap t x e) [ inl lt ↦ omega (arith, lt, f) | inr ge ↦ ne (kept.alone t slot x c e there (omega (arith, ge, f, le))) ]

      alone : (s t : ℕ) (d x : Cell) → get n.cells s ≡ Some d → get n.cells t ≡ Some x → d.number ≡ x.number → (s ≡ slot) ⊎ (s ≢ slot) → (t ≡ slot) ⊎ (t ≢ slot) → s ≡ t
      alone s t d x e f g (inl a) (inl b) = a ∙ sym b
      alone s t d x e f g (inl a) (inr b) = let v : d.number ≡ i = ap (λ (y : Cell). y.number) (is_new s d a e) in absurd (apart t x b (is_old t x b f) (sym g ∙ v))
      alone s t d x e f g (inr a) (inl b) = let v : x.number ≡ i = ap (λ (y : Cell). y.number) (is_new t x b f) in absurd (apart s d a (is_old s d a e) (g ∙ v))
      alone s t d x e f g (inr a) (inr b) = kept.alone s t d x (is_old s d a e) (is_old t x b f) g

      known : (s : ℕ) (d : Cell) → get n.cells s ≡ Some d → (s ≡ slot) ⊎ (s ≢ slot) → d.row < length (links k.rows).names
      known s d e (inl s') = subst (λ (x : Cell). x.row < length (links k.rows).names) (sym (is_new s d s' e)) (kept.known slot c there)
      known s d e (inr ne) = kept.known s d (is_old s d ne e)

      lanes : (m : Mode) (p : ℕ) → ((m ≡ c.mode) × (p ≡ own_place k c)) ⊎ ¬ ((m ≡ c.mode) × (p ≡ own_place k c)) → IsLane n.cells (IsInLane (links k.rows) m p) (lane n m p)
      lanes m p (inr ne) = subst (IsLane n.cells (IsInLane (links k.rows) m p)) (sym (others m p ne))
          (lane_beside k.cells n.cells slot c i there up (IsInLane (links k.rows) m p) (lane k m p) (kept.lanes m p) other other)
        where
          other : ¬ (IsInLane (links k.rows) m p c)
          other b = ne (sym b.0, sym b.1 ∙ ap (λ x. place_at (links k.rows) x c.row) (sym b.0))
      lanes m p (inl b) =
          subst (λ x. IsLane n.cells (IsInLane (links k.rows) x p) (lane n x p)) (sym b.0)
          (subst (λ q. IsLane n.cells (IsInLane (links k.rows) c.mode q) (lane n c.mode q)) (sym b.1)
          (subst (IsLane n.cells (IsInLane (links k.rows) c.mode (own_place k c))) (sym changed)
          (lane_renumbered k.cells n.cells slot c i there up (IsInLane (links k.rows) c.mode (own_place k c)) (lane k c.mode (own_place k c))
          (kept.lanes c.mode (own_place k c)) kept.alone (refl, refl) (refl, refl) le (gap_in k kept c.number i gap c.mode (own_place k c)))))

  pub shown_renumbered : AreQueuesKept n → waiting_of n ≡ waiting_of k
  shown_renumbered later =
      let K = in_order (entries k.cells) in
      let list : in_order (entries n.cells) ≡ map (moved k.cells n.cells slot c i there up) K = same_list n.cells n.cells (in_order (entries n.cells)) (map (moved k.cells n.cells slot c i there up) K) (listed n.cells later.alone)
      (listed_renumbered k.cells n.cells slot c i there up K (listed k.cells kept.alone) kept.alone le gap) (λ s. refl) in
      ap (λ (r : RowLinks). map (entry r.names) (in_order (entries n.cells))) rows ∙ ap (map (entry (links k.rows).names)) list ∙ map-map (entry (links k.rows).names) (moved k.cells n.cells slot c i there up) K

-- ---- one after the other

-- where each number is given that lies from one number on and below another, there are n cells
many : (K : List (ℕ × Cell)) (a i : ℕ) → EachThen Rise K → ((p : ℕ × Cell) → Has K p → a ≤ p.1.number) → ((n : ℕ) → a ≤ n → n < i → AnyIn (λ (p : ℕ × Cell). p.1.number ≡ n) K) → i ≤ a + length K
many [] a i rise low given = elim (either_le i a) [ inl le ↦ omega (arith, le) | inr gt ↦ absurd (given a (omega arith) (omega (arith, gt))) ]
many (p ∷ K) a i rise low given = elim (either_le i a) [
  | inl le ↦ omega (arith, le)
  | inr gt ↦ by (first (given a (omega arith) (omega (arith, gt)))) (λ l g. many K (a + 1) i rise.1 l g)
]
  where
    first : AnyIn (λ (q : ℕ × Cell). q.1.number ≡ a) (p ∷ K) → p.1.number ≡ a
    first (inl e) = e
    first (inr h) =
        let r = any_get (λ (q : ℕ × Cell). q.1.number ≡ a) K h in
        let lt : p.1.number < r.0.1.number = all_get (Rise p) K rise.0 r.0 r.1 in
        absurd (omega (arith, lt, r.2, low p (inl refl)))

    by : p.1.number ≡ a → (((q : ℕ × Cell) → Has K q → a + 1 ≤ q.1.number) → ((n : ℕ) → a + 1 ≤ n → n < i → AnyIn (λ (q : ℕ × Cell). q.1.number ≡ n) K) → i ≤ a + 1 + length K) → i ≤ a + length
        (p ∷ K)
    by e rest =
        let few : i ≤ a + 1 + length K = rest (λ q h. let lt : p.1.number < q.1.number = all_get (Rise p) K rise.0 q h in omega (arith, lt, e)) (λ n le lt. behind n le (given n (omega (arith, le)) lt)) in
        omega (arith, few)
      where
        behind : (n : ℕ) → a + 1 ≤ n → AnyIn (λ (q : ℕ × Cell). q.1.number ≡ n) (p ∷ K) → AnyIn (λ (q : ℕ × Cell). q.1.number ≡ n) K
        behind n le (inl f) = absurd (omega (arith, le, e, f))
        behind n le (inr h) = h

pub given_few : (k : Kept) (i : ℕ) → AreQueuesKept k → AreGiven k.cells i → i ≤ 1 + length (waiting_of k)
given_few k i kept given =
    let K = in_order (entries k.cells) in
    let l = listed k.cells kept.alone in
    let few : i ≤ 1 + length K = many K 1 i l.numbered (λ p h. (kept.counted p.0 p.1 ((l.members p).0 h)).0)
    (λ n le lt. let r = given n le lt in any_put (λ (p : ℕ × Cell). p.1.number ≡ n) K (r.0, r.1) ((l.members (r.0, r.1)).1 r.2) r.3) in
    omega (arith, few, length-map K (entry (links k.rows).names))

pub given_more : (a b : Slab Cell) (slot : ℕ) (c : Cell) (i : ℕ) → get a slot ≡ Some c → Updates a b slot (Some (record c { number = i })) → i ≤ c.number → AreGiven a i → AreGiven b (i + 1)
given_more a b slot c i there up le given = λ n low high. by n (either_nat n i) low high
  where
    by : (n : ℕ) → (n ≡ i) ⊎ (n ≢ i) → 0 < n → n < i + 1 → (s : ℕ) × (d : Cell) × (get b s ≡ Some d) × (d.number ≡ n)
    by n (inl e) low high = (slot, record c { number = i }, up.changed, sym e)
    by n (inr ne) low high =
        let r = given n low (omega (arith, high, ne)) in
        (r.0, r.1, up.others r.0 (λ s. other n r.0 r.1 r.2 r.3 s (omega (arith, high, ne))) ∙ r.2, r.3)
      where
        other : (n s : ℕ) (d : Cell) → get a s ≡ Some d → d.number ≡ n → s ≡ slot → n < i → ⊥
        other n s d e f g lt = let v : d.number ≡ c.number = ap (λ (x : Cell). x.number) (same_Some d c (sym e ∙ ap (get a) g ∙ there)) in omega (arith, v, f, lt, le)

-- ---- how many wait

put_length : (p : ℕ × Cell) (qs : List (ℕ × Cell)) → length (put_cell p qs) ≡ 1 + length qs
put_length p [] = refl
put_length p (q ∷ qs) = by (nat_lt p.1.number q.1.number) (put_length p qs)
  where
    by : (t : Bool) → length (put_cell p qs) ≡ 1 + length qs → length (cond t (p ∷ q ∷ qs) (q ∷ put_cell p qs)) ≡ 1 + length (q ∷ qs)
    by true e = omega arith
    by false e = omega (arith, e)

order_length : (ps : List (ℕ × Cell)) → length (in_order ps) ≡ length ps
order_length [] = refl
order_length (p ∷ ps) = omega (arith, put_length p (in_order ps), order_length ps)

-- how many slots have a cell
abbrev how_many : List (Option Cell) → ℕ
how_many [] = 0
how_many (x ∷ xs) = cond (is_some x) (1 + how_many xs) (how_many xs)

entries_length : (key : ℕ) (slots : List (Option Cell)) → length (entries_from key slots) ≡ how_many slots
entries_length key [] = refl
entries_length key (None ∷ rest) = entries_length (key + 1) rest
entries_length key (Some v ∷ rest) = omega (arith, entries_length (key + 1) rest)

pub shown_length : (k : Kept) → length (waiting_of k) ≡ slab_len k.cells
shown_length k =
    length-map (in_order (entries k.cells)) (entry (links k.rows).names) ∙ order_length (entries k.cells) ∙ entries_length 0 k.cells.slots
    ∙ is_count_by how_many is_some refl (λ x xs. refl) k.cells.slots

-- ---- steps of the code

-- of the cell that is first what is said of it
pub first_is : (cells : Slab Cell) (slot number : ℕ) (c : Cell) → get cells slot ≡ Some c → IsFirstFrom cells number (Some slot)
    → (number ≤ c.number) × ((s : ℕ) (d : Cell) → get cells s ≡ Some d → IsBeside c.number number d.number)
first_is cells slot number c e f = subst (λ (x : Cell). (number ≤ x.number) × ((s : ℕ) (d : Cell) → get cells s ≡ Some d → IsBeside x.number number d.number)) (same_Some f.0 c (sym f.1 ∙ e)) (f.2, f.3)

slot_within : (slots : List (Option Cell)) (s : ℕ) (c : Cell) → slice_index_or slots s None ≡ Some c → s < length slots
slot_within [] s c e = absurd (none-some c e)
slot_within (x ∷ xs) zero c e = omega arith
slot_within (x ∷ xs) (suc s) c e = omega (arith, slot_within xs s c e)

set_here : (slots : List (Option Cell)) (i : ℕ) (v : Option Cell) → i < length slots → slice_index_or (slice_set slots i v) i None ≡ v
set_here [] i v lt = absurd (omega (arith, lt))
set_here (x ∷ xs) zero v lt = refl
set_here (x ∷ xs) (suc i) v lt = set_here xs i v (omega (arith, lt))

set_elsewhere : (slots : List (Option Cell)) (i j : ℕ) (v : Option Cell) → j ≢ i → slice_index_or (slice_set slots i v) j None ≡ slice_index_or slots j None
set_elsewhere [] i j v ne = refl
set_elsewhere (x ∷ xs) zero zero v ne = absurd (ne refl)
set_elsewhere (x ∷ xs) zero (suc j) v ne = refl
set_elsewhere (x ∷ xs) (suc i) zero v ne = refl
set_elsewhere (x ∷ xs) (suc i) (suc j) v ne = set_elsewhere xs i j v (λ e. ne (ap suc e))

-- a cell was written at its slot
pub cell_set : (a b : Slab Cell) (slot : ℕ) (c d : Cell) → b ≡ a → get a slot ≡ Some c → Updates a (with_value b slot d) slot (Some d)
cell_set a b slot c d same there = record {
  changed = set_here b.slots slot (Some d) (slot_within b.slots slot c (ap (λ (s : Slab Cell). get s slot) same ∙ there));
  others = λ s ne. set_elsewhere b.slots slot s (Some d) ne ∙ ap (λ (x : Slab Cell). get x s) same;
}

-- what the search has found when all slots are looked at
pub first_found : (k : Kept) (number slot limit : ℕ) (found : Option ℕ) → AreQueuesKept k → length k.cells.slots ≤ slot → IsFirstBelow k.cells number slot limit found → IsFirstFrom k.cells number found
first_found k number slot limit None kept le f =
    λ s c e. elim (f.least s c (omega (arith, slot_within k.cells.slots s c e, le)) e) [ inl a ↦ a | inr b ↦ absurd (omega (arith, b, f.none refl, (kept.counted s c e).1, kept.last)) ]
first_found k number slot limit (Some t) kept le f =
    let r = f.some t refl in
    (r.0, r.1, r.2, λ s d e. subst (λ x. IsBeside x number d.number) (sym r.3) (f.least s d (omega (arith, slot_within k.cells.slots s d e, le)) e))

-- room was made
pub reserved : (k : Kept) (cells : Slab Cell) → AreQueuesKept k → cells.slots ≡ k.cells.slots → ShowsSame k (record k { cells = cells })
reserved k cells kept slots = record {
  kept = kept_same k (record k { cells = cells }) kept kept.linked (rows_refl (links k.rows)) (λ s. ap (λ l. slice_index_or l s None) slots) refl
      (λ m p. same_lanes (record k { cells = cells }) k (same_self _) (same_self _) refl m p)
      (listed_same k (record k { cells = cells }) kept.listed (rows_refl (links k.rows)) (all_the_same k (record k { cells = cells }) refl) (omega arith)
      (λ m p x h. subst (λ l. Has l x) (same_lanes (record k { cells = cells }) k (same_self _) (same_self _) refl m p) h));
  rows = refl;
  shown = shown_same k (record k { cells = cells }) kept (front_refl (links k.rows).names) slots;
}

pub shows_same : (a b c : Kept) → ShowsSame a b → ShowsSame b c → ShowsSame a c
shows_same a b c f g = record { kept = g.kept; rows = g.rows ∙ f.rows; shown = g.shown ∙ f.shown }

-- numbers of pushes tell nothing of listings any more
pub freed : (k : Kept) → AreQueuesKept k → ShowsSame k (record k { listed = record k.listed { exact = false } })
freed k kept = record {
  kept = kept_same k (record k { listed = record k.listed { exact = false } }) kept kept.linked (rows_refl (links k.rows)) (λ s. refl) refl
      (λ m p. same_lanes (record k { listed = record k.listed { exact = false } }) k (same_self _) (same_self _) refl m p) (listed_free k kept.listed);
  rows = refl;
  shown = refl;
}
