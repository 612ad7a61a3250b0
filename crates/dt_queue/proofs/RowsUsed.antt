-- Listed rows: between each entry that takes a granule whole and each mark of a row after it the row is listed. So it is after a row
-- was listed, after a log was tidied, and after a mark was added, taken out or renumbered.
use Rattle.std.proofs.Common.{◌≡◌, ◌≢◌, ◌⊎◌, ℕ, ◌<◌, ◌≤◌, Bool, true, false, not, ◌==◌, ◌||◌, nat_lt, if◌then◌else◌, List, [], ◌∷◌, map, Result, Ok, Err, OnOk, OnErr}
use Rattle.std.proofs.Common.{length, Option, None, Some, refl, ap, sym, subst, inl, inr, arith, ◌∙◌}
use Rattle.std.proofs.lemmas.Bool.{and_from, false≢true, or_left, or_right, true≢false}
use Rattle.dt_lists.specs.Lists.{AnyIn, Has}
use Rattle.dt_lists.proofs.Callers.{any_append, any_append_right, any_get, any_of_image, any_put, either_any, either_le, either_nat, front_length, has_filter, has_longer, has_of_filtered}
use Rattle.dt_access.specs.Clash.{is_whole}
use Rattle.dt_access.specs.declared.access.Mode.{Mode}
use Rattle.dt_access.specs.declared.access.Mode.TheVariants.{Read, Write, Whole}
use Rattle.dt_queue.specs.declared.cell.Cell.{Cell}
use Rattle.dt_queue.specs.declared.mark.Mark.{Mark}
use Rattle.dt_queue.specs.declared.kept.Kept.{Kept}
use Rattle.dt_queue.specs.declared.listed.ListedRows.{ListedRows}
use Rattle.dt_queue.specs.declared.listing.Listing.{Listing}
use Rattle.dt_queue.specs.ListedInner.{AppendsListing, AreLogged, IsListedBy, IsListedRow, ListsRow, SameListings, Tidies, is_used, last_listing, listings_at, rows_between, since, stays}
use Rattle.dt_queue.specs.KeptInner.{AreQueuesKept, AreRowsListed, IsEntered, IsLow, IsTakenWhole, IsTop, lane, mark_of, place_at}
use Rattle.dt_queue.specs.LanesInner.{IsFirstBetween, IsLastBetween, number_or}
use Rattle.dt_queue.specs.TableInner.{lanes_read, lanes_written}
use Rattle.dt_queue.specs.RowsInner.{KeepsRows, RowLinks, granule_at, links}
use Rattle.dt_queue.proofs.Listings.{IsListingBetween, found_between, listed_by, listed_row, logged_appended, logged_tidied, same_logged}
use Rattle.dt_queue.proofs.LanesOfCells.{PushesCell, TakesCell, either_place, kept_pushed, own_place, rows_refl}

-- the mode takes no granule as a whole
abbrev IsPart : Mode → Type 0
IsPart mode = is_whole mode ≡ false

-- reads and writes have their lanes at their row
at_row : (r : RowLinks) (mode : Mode) (row : ℕ) → IsPart mode → place_at r mode row ≡ row
at_row r Read row part = refl
at_row r Write row part = refl
at_row r Whole row part = absurd (true≢false part)

-- a mark of a row, by its lane
abbrev pub IsOfRow : Kept → ℕ → Mark → Type 0
IsOfRow k row m = Has (lane k Read row) m ⊎ Has (lane k Write row) m

of_row : (k : Kept) (row : ℕ) (m : Mark) → IsOfRow k row m → (mode : Mode) × IsPart mode × Has (lane k mode row) m
of_row k row m (inl h) = (Read, refl, h)
of_row k row m (inr h) = (Write, refl, h)

to_row : (k : Kept) (row : ℕ) (m : Mark) (mode : Mode) → IsPart mode → Has (lane k mode row) m → IsOfRow k row m
to_row k row m Read part h = inl h
to_row k row m Write part h = inr h
to_row k row m Whole part h = absurd (true≢false part)

-- where something is listed before a top, the row is known
known_of : (k : Kept) → AreRowsListed k → (row top : ℕ) → IsTop k row top → 0 < top → row < length (links k.rows).names
known_of k listed row top to lt =
    (listed.own (granule_at (links k.rows) row) row (listed_row k.listed (granule_at (links k.rows) row) row 0 top (listed.covered row 0 top (inl refl) to lt))).0

-- all is listed as before, each lane has no more marks than before, and rows may have been added
pub listed_same : (k n : Kept) → AreRowsListed k → KeepsRows (links k.rows) (links n.rows) → SameListings k.listed n.listed → k.next_number ≤ n.next_number
    → ((mode : Mode) (p : ℕ) (m : Mark) → Has (lane n mode p) m → Has (lane k mode p) m) → AreRowsListed n
listed_same k n listed keeps same later within = record {
  logged = same_logged k.listed n.listed listed.logged same;
  own = λ g row h. let b = listed.own g row (subst (λ l. IsListedRow l row) (same.logs g) h) in (omega (arith, b.0, front_length _ _ keeps.names), keeps.granules row b.0 ∙ b.1);
  latest = λ e row. omega (arith, listed.latest (sym same.exact ∙ e) row, same.last row, later);
  covered = λ row low top lo to lt. covered row low top lo (was_top row top to) lt;
}
  where
    was_top : (row top : ℕ) → IsTop n row top → IsTop k row top
    was_top row top (inl e) = inl (e ∙ same.last row)
    was_top row top (inr (m, h, e)) = inr (m, elim h [ inl r ↦ inl (within Read row m r) | inr w ↦ inr (within Write row m w) ], e)

    was_low : (g low : ℕ) → IsLow n g low → IsLow k g low
    was_low g low (inl e) = inl e
    was_low g low (inr (e, (m, h, is))) = inr (sym same.exact ∙ e, (m, within Whole g m h, is))

    covered : (row low top : ℕ) → IsLow n (granule_at (links n.rows) row) low → IsTop k row top → low < top → IsListedBy n.listed (granule_at (links n.rows) row) row low top
    covered row low top lo to lt =
        let g : granule_at (links n.rows) row ≡ granule_at (links k.rows) row = keeps.granules row (known_of k listed row top to (omega (arith, lt))) in
        let c = listed.covered row low top (subst (λ x. IsLow k x low) g (was_low (granule_at (links n.rows) row) low lo)) to lt in
        listed_by k.listed n.listed (granule_at (links n.rows) row) row low top top (λ a h. subst (λ l. Has l a) (sym (same.logs (granule_at (links n.rows) row))) h) (λ e. (sym same.exact ∙ e, omega arith))
        (subst (λ x. IsListedBy k.listed x row low top) (sym g) c)

-- ---- one lane was changed

abbrev AreOthers : Kept → Kept → Mode → ℕ → Type 0
AreOthers k n mode place = (m : Mode) (p : ℕ) → ¬ ((m ≡ mode) × (p ≡ place)) → lane n m p ≡ lane k m p

keeps_links : (k n : Kept) → (links n.rows) ≡ (links k.rows) → KeepsRows (links k.rows) (links n.rows)
keeps_links k n rows = subst (KeepsRows (links k.rows)) (sym rows) (rows_refl (links k.rows))

pub all_the_same : (k n : Kept) → n.listed ≡ k.listed → SameListings k.listed n.listed
all_the_same k n list = record { logs = λ g. ap (λ l. listings_at l g) list; last = λ row. ap (λ l. last_listing l row) list; exact = ap (λ (l : ListedRows). l.exact) list }

-- a cell was taken out
pub rows_removed : (k n : Kept) (slot : ℕ) (c : Cell) → AreQueuesKept k → TakesCell k n slot c → AreRowsListed n
rows_removed k n slot c kept take = listed_same k n kept.listed (keeps_links k n take.rows) (all_the_same k n take.listed) (omega (arith, take.number)) within
  where
    within : (m : Mode) (p : ℕ) (x : Mark) → Has (lane n m p) x → Has (lane k m p) x
    within m p x h = elim (either_place m c.mode p (own_place k c)) [
      | inl b ↦ subst (λ o. Has (lane k o p) x) (sym b.0) (subst (λ q. Has (lane k c.mode q) x) (sym b.1)
          (has_of_filtered (λ (y : Mark). not (y.number == c.number)) (lane k c.mode (own_place k c)) x
          (subst (λ l. Has l x) take.changed (subst (λ q. Has (lane n c.mode q) x) b.1 (subst (λ o. Has (lane n o p) x) b.0 h)))).0)
      | inr ne ↦ subst (λ l. Has l x) (take.others m p ne) h
    ]

-- a cell was pushed: if it reads or writes a row, that row is listed
pub rows_pushed : (k n : Kept) (slot : ℕ) (c : Cell) → AreQueuesKept k → PushesCell k n slot c → (IsPart c.mode → IsEntered k c.row) → AreRowsListed n
rows_pushed k n slot c kept push entered = record {
  logged = subst AreLogged (sym push.listed) kept.listed.logged;
  own = λ g r h. subst (λ (x : RowLinks). (r < length x.names) × (granule_at x r ≡ g)) (sym push.rows) (kept.listed.own g r (subst (λ l. IsListedRow (listings_at l g) r) push.listed h));
  latest = λ e r. omega (arith, kept.listed.latest (exact e) r, ap (λ l. last_listing l r) push.listed, push.number, push.next);
  covered = λ r low top lo to lt.
      subst (λ (x : RowLinks). IsListedBy n.listed (granule_at x r) r low top) (sym push.rows)
      (subst (λ l. IsListedBy l (granule_at (links k.rows) r) r low top) (sym push.listed)
      (covered r low top (was_low (granule_at (links k.rows) r) low (subst (λ (x : RowLinks). IsLow n (granule_at x r) low) push.rows lo)) (was_top r top to) lt));
}
  where
    exact : n.listed.exact ≡ true → k.listed.exact ≡ true
    exact e = sym (ap (λ (l : ListedRows). l.exact) push.listed) ∙ e

    came : (m : Mode) (p : ℕ) (x : Mark) → Has (lane n m p) x → Has (lane k m p) x ⊎ (m ≡ c.mode) × (p ≡ own_place k c) × (mark_of slot c ≡ x)
    came m p x h = elim (either_place m c.mode p (own_place k c)) [
      | inl b ↦ elim (any_append (λ y. y ≡ x) (lane k c.mode (own_place k c)) (mark_of slot c ∷ [])
          (subst (λ l. Has l x) push.changed (subst (λ q. Has (lane n c.mode q) x) b.1 (subst (λ o. Has (lane n o p) x) b.0 h)))) [
            | inl old ↦ inl (subst (λ o. Has (lane k o p) x) (sym b.0) (subst (λ q. Has (lane k c.mode q) x) (sym b.1) old))
            | inr one ↦ inr (b.0, b.1, elim one [ inl e ↦ e | inr e ↦ absurd e ])
          ]
      | inr ne ↦ inl (subst (λ l. Has l x) (push.others m p ne) h)
    ]

    was_low : (g low : ℕ) → IsLow n g low → IsLow k g low ⊎ (k.listed.exact ≡ true) × (low ≡ k.next_number)
    was_low g low (inl e) = inl (inl e)
    was_low g low (inr (e, (m, h, is))) = elim (came Whole g m h) [
      | inl old ↦ inl (inr (exact e, (m, old, is)))
      | inr b ↦ inr (exact e, sym is ∙ ap (λ (x : Mark). x.number) (sym b.2) ∙ push.number)
    ]

    was_top : (r top : ℕ) → IsTop n r top → IsTop k r top ⊎ IsPart c.mode × (r ≡ c.row) × (top ≡ k.next_number)
    was_top r top (inl e) = inl (inl (e ∙ ap (λ l. last_listing l r) push.listed))
    was_top r top (inr (m, h, is)) =
        let a = of_row n r m h in
        elim (came a.0 r m a.2) [
          | inl old ↦ inl (inr (m, to_row k r m a.0 a.1 old, is))
          | inr b ↦ inr (subst IsPart b.0 a.1, b.1 ∙ at_row (links k.rows) c.mode c.row (subst IsPart b.0 a.1), sym is ∙ ap (λ (x : Mark). x.number) (sym b.2) ∙ push.number)
        ]

    -- nothing is as late as the next push
    early : (r top : ℕ) → k.listed.exact ≡ true → IsTop k r top → top ≤ k.next_number
    early r top e (inl is) = omega (arith, is, kept.listed.latest e r)
    early r top e (inr (m, h, is)) =
        let a = of_row k r m h in
        let d = ((kept.lanes a.0 r).members m).0 a.2 in
        omega (arith, is, (kept.counted m.slot d.0 d.1).1, ap (λ (x : Mark). x.number) d.3)

    covered : (r low top : ℕ) → IsLow k (granule_at (links k.rows) r) low ⊎ (k.listed.exact ≡ true) × (low ≡ k.next_number) → IsTop k r top ⊎ IsPart c.mode × (r ≡ c.row) × (top ≡ k.next_number) → low < top
        → IsListedBy k.listed (granule_at (links k.rows) r) r low top
    covered r low top (inl lo) (inl to) lt = kept.listed.covered r low top lo to lt
    covered r low top (inl lo) (inr b) lt =
        subst (λ x. IsListedBy k.listed (granule_at (links k.rows) r) r low x) (sym b.2)
        (subst (λ x. IsListedBy k.listed (granule_at (links k.rows) x) x low k.next_number) (sym b.1)
        (entered b.0 low (subst (λ x. IsLow k (granule_at (links k.rows) x) low) b.1 lo) (omega (arith, lt, b.2))))
    covered r low top (inr e) (inl to) lt = absurd (omega (arith, e.1, early r top e.0 to, lt))
    covered r low top (inr e) (inr b) lt = absurd (omega (arith, e.1, b.2, lt))

-- so all queues are kept
pub queues_pushed : (k n : Kept) (slot : ℕ) (c : Cell) → AreQueuesKept k → PushesCell k n slot c → (IsPart c.mode → IsEntered k c.row) → AreQueuesKept n
queues_pushed k n slot c kept push entered = kept_pushed k n slot c kept push (rows_pushed k n slot c kept push entered)

-- ---- numbers tell nothing

-- numbers of pushes tell nothing of listings any more
pub listed_free : (k : Kept) → AreRowsListed k → AreRowsListed (record k { listed = record k.listed { exact = false } })
listed_free k listed = record {
  logged = record { rising = λ e g. absurd (false≢true e); chained = listed.logged.chained; each = listed.logged.each };
  own = listed.own;
  latest = λ e row. absurd (false≢true e);
  covered = λ row low top lo to lt. covered row low top lo to lt;
}
  where
    covered : (row low top : ℕ) → (low ≡ 0) ⊎ (false ≡ true) × ((m : Mark) × Has (lane k Whole (granule_at (links k.rows) row)) m × (m.number ≡ low)) → IsTop k row top → low < top
        → IsListedBy (record k.listed { exact = false }) (granule_at (links k.rows) row) row low top
    covered row low top (inl e) to lt =
        listed_by k.listed (record k.listed { exact = false }) (granule_at (links k.rows) row) row low top top (λ a h. h) (λ e. absurd (false≢true e)) (listed.covered row low top (inl e) to lt)
    covered row low top (inr b) to lt = absurd (false≢true b.0)

-- then marks may have other numbers
pub rows_renumbered : (k n : Kept) (f : Mark → Mark) (mode : Mode) (place : ℕ) → AreQueuesKept k → k.listed.exact ≡ false → (links n.rows) ≡ (links k.rows) → n.listed ≡ k.listed
    → lane n mode place ≡ map f (lane k mode place) → AreOthers k n mode place → AreRowsListed n
rows_renumbered k n f mode place kept free rows list changed others = record {
  logged = subst AreLogged (sym list) kept.listed.logged;
  own = λ g r h. subst (λ (x : RowLinks). (r < length x.names) × (granule_at x r ≡ g)) (sym rows) (kept.listed.own g r (subst (λ l. IsListedRow (listings_at l g) r) list h));
  latest = λ e r. not_free e;
  covered = λ r low top lo to lt.
      subst (λ (x : RowLinks). IsListedBy n.listed (granule_at x r) r low top) (sym rows)
      (subst (λ l. IsListedBy l (granule_at (links k.rows) r) r low top) (sym list)
      (covered r low top (is_zero (granule_at (links n.rows) r) low lo) to lt));
}
  where
    not_free : {A : Type 0} → n.listed.exact ≡ true → A
    not_free e = absurd (false≢true (sym free ∙ sym (ap (λ (l : ListedRows). l.exact) list) ∙ e))

    is_zero : (g low : ℕ) → IsLow n g low → low ≡ 0
    is_zero g low (inl e) = e
    is_zero g low (inr b) = not_free b.0

    -- a mark has another in the place of which it came
    was : (m : Mode) (p : ℕ) (x : Mark) → Has (lane n m p) x → (y : Mark) × Has (lane k m p) y
    was m p x h = elim (either_place m mode p place) [
      | inl b ↦
          let r = any_get (λ y. f y ≡ x) (lane k mode place) (any_of_image (λ y. y ≡ x) f (lane k mode place)
          (subst (λ l. Has l x) changed (subst (λ q. Has (lane n mode q) x) b.1 (subst (λ o. Has (lane n o p) x) b.0 h)))) in
          (r.0, subst (λ o. Has (lane k o p) r.0) (sym b.0) (subst (λ q. Has (lane k mode q) r.0) (sym b.1) r.1))
      | inr ne ↦ (x, subst (λ l. Has l x) (others m p ne) h)
    ]

    freely : (r low top other : ℕ) → IsListedBy k.listed (granule_at (links k.rows) r) r low other → IsListedBy k.listed (granule_at (links k.rows) r) r low top
    freely r low top other b = listed_by k.listed k.listed (granule_at (links k.rows) r) r low other top (λ a h. h) (λ e. absurd (false≢true (sym free ∙ e))) b

    covered : (r low top : ℕ) → low ≡ 0 → IsTop n r top → low < top → IsListedBy k.listed (granule_at (links k.rows) r) r low top
    covered r low top zero (inl e) lt = kept.listed.covered r low top (inl zero) (inl (e ∙ ap (λ l. last_listing l r) list)) lt
    covered r low top zero (inr (x, h, is)) lt =
        let a = of_row n r x h in
        let y = was a.0 r x a.2 in
        let c = ((kept.lanes a.0 r).members y.0).0 y.1 in
        freely r low top y.0.number (kept.listed.covered r low y.0.number (inl zero) (inr (y.0, to_row k r y.0 a.0 a.1 y.1, refl)) (omega (arith, zero, (kept.counted y.0.slot c.0 c.1).0, ap (λ (m : Mark). m.number) c.3)))

-- ---- a log was tidied

-- the first that takes a granule whole has the least number of those that do
pub first_of_takers : (k : Kept) → AreQueuesKept k → (g top : ℕ) (o : Option Mark) → k.next_number ≤ top → IsFirstBetween 0 top (lane k Whole g) o → (m : Mark) → Has (lane k Whole g) m → number_or o top ≤ m.number
first_of_takers k kept g top o within first m h = by o first
  where
    between : (0 < m.number) × (m.number < top)
    between = let c = ((kept.lanes Whole g).members m).0 h in let b = kept.counted m.slot c.0 c.1 in let is = ap (λ (x : Mark). x.number) c.3 in (omega (arith, b.0, is), omega (arith, b.1, is, within))

    by : (o : Option Mark) → IsFirstBetween 0 top (lane k Whole g) o → number_or o top ≤ m.number
    by None l = absurd (l m h between)
    by (Some w) l = l.2 m h between

-- what waits in a row shows
pub told_used : (k : Kept) (row : ℕ) (m : Mark) → IsOfRow k row m → is_used (lanes_read k.rows.table.items) (lanes_written k.rows.table.items) row ≡ true
told_used k row m h = elim h [ inl r ↦ or_left _ _ (some (lane k Read row) m r) | inr w ↦ or_right _ _ (some (lane k Write row) m w) ]
  where
    some : (ms : List Mark) (m : Mark) → Has ms m → not (length ms == 0) ≡ true
    some [] m h = absurd h
    some (x ∷ ms) m h = grind arith

pub listed_tidied : (k : Kept) (granule first : ℕ) (new : ListedRows) → AreRowsListed k → ((m : Mark) → Has (lane k Whole granule) m → first ≤ m.number)
    → Tidies granule first (lanes_read k.rows.table.items) (lanes_written k.rows.table.items) k.listed new → AreRowsListed (record k { listed = new })
listed_tidied k granule first new listed takers t = record {
  logged = logged_tidied k.listed new granule first (lanes_read k.rows.table.items) (lanes_written k.rows.table.items) listed.logged t (λ g row a b. sym (listed.own g row b).1 ∙ (listed.own granule row a).1);
  own = λ g row h. listed.own g row (was g row h (either_nat g granule));
  latest = λ e row. latest (sym t.exact ∙ e) row (used row) refl;
  covered = λ row low top lo to lt. covered row low top (was_low (granule_at (links k.rows) row) low lo) to lt (used row) refl;
}
  where
    used : ℕ → Bool
    used row = is_used (lanes_read k.rows.table.items) (lanes_written k.rows.table.items) row

    p : Listing → Bool
    p = stays first (lanes_read k.rows.table.items) (lanes_written k.rows.table.items)

    was : (g row : ℕ) → IsListedRow (listings_at new g) row → (g ≡ granule) ⊎ (g ≢ granule) → IsListedRow (listings_at k.listed g) row
    was g row h (inl e) =
        let r = any_get (λ (a : Listing). a.row ≡ row) (listings_at new g) h in
        any_put (λ (a : Listing). a.row ≡ row) (listings_at k.listed g) r.0
        (subst (λ i. Has (listings_at k.listed i) r.0) (sym e) (has_of_filtered p (listings_at k.listed granule) r.0 (subst (λ l. Has l r.0) t.log (subst (λ i. Has (listings_at new i) r.0) e r.1))).0) r.2
    was g row h (inr ne) = subst (λ l. IsListedRow l row) (t.others g ne) h

    listed_here : (row : ℕ) → IsListedRow (listings_at k.listed granule) row ⊎ ¬ (IsListedRow (listings_at k.listed granule) row)
    listed_here row = either_any (λ (a : Listing). a.row ≡ row) (listings_at k.listed granule) (λ a. either_nat a.row row)

    latest : k.listed.exact ≡ true → (row : ℕ) (u : Bool) → used row ≡ u → last_listing new row ≤ k.next_number
    latest e row true u = omega (arith, listed.latest e row, t.last.used row u)
    latest e row false u = elim (listed_here row) [ inl h ↦ omega (arith, t.last.gone row u h) | inr absent ↦ omega (arith, listed.latest e row, t.last.others row absent) ]

    was_low : (g low : ℕ) → IsLow (record k { listed = new }) g low → IsLow k g low
    was_low g low (inl e) = inl e
    was_low g low (inr (e, r)) = inr (sym t.exact ∙ e, r)

    -- what stays of the log of a row that is in use
    kept_on : (g row low top : ℕ) → used row ≡ true → IsLow k g low → (g ≡ granule) ⊎ (g ≢ granule) → IsListedBy k.listed g row low top → IsListedBy new g row low top
    kept_on g row low top u lo (inr ne) b = listed_by k.listed new g row low top top (λ a h. subst (λ l. Has l a) (sym (t.others g ne)) h) (λ e. (sym t.exact ∙ e, omega arith)) b
    kept_on g row low top u lo (inl is) b =
        let r = any_get _ (listings_at k.listed g) b in
        any_put (λ (a : Listing). (a.row ≡ row) × (a.before ≤ low) × (low < a.number) × (new.exact ≡ true → a.number ≤ top)) (listings_at new g) r.0
        (subst (λ i. Has (listings_at new i) r.0) (sym is) (subst (λ l. Has l r.0) (sym t.log)
        (has_filter p (listings_at k.listed granule) r.0 (subst (λ i. Has (listings_at k.listed i) r.0) is r.1) (stay r.0 r.2.0 r.2.1 r.2.2 lo))))
        (r.2.0, r.2.1, r.2.2, λ e. r.2.3 (sym t.exact ∙ e))
      where
        stay : (a : Listing) → a.row ≡ row → a.before ≤ low → low < a.number → IsLow k g low → p a ≡ true
        stay a is_row old late lo = and_from (used a.row) (a.before == 0 || nat_lt first a.number) (ap used is_row ∙ u) (passes lo)
          where
            passes : IsLow k g low → (a.before == 0 || nat_lt first a.number) ≡ true
            passes (inl zero) = grind (arith, zero, old)
            passes (inr (e, (m, h, n))) = let le = takers m (subst (λ i. Has (lane k Whole i) m) is h) in grind (arith, le, n, late)

    covered : (row low top : ℕ) → IsLow k (granule_at (links k.rows) row) low → IsTop (record k { listed = new }) row top → low < top → (u : Bool) → used row ≡ u
        → IsListedBy new (granule_at (links k.rows) row) row low top
    covered row low top lo to lt true u =
        kept_on (granule_at (links k.rows) row) row low top u lo (either_nat (granule_at (links k.rows) row) granule) (listed.covered row low top lo (elim to [ inl e ↦ inl (e ∙ t.last.used row u) | inr r ↦ inr r ]) lt)
    covered row low top lo (inr (m, h, is)) lt false u = absurd (true≢false (sym (told_used k row m h) ∙ u))
    covered row low top lo (inl e) lt false u = elim (listed_here row) [
      | inl h ↦ absurd (omega (arith, t.last.gone row u h, e, lt))
      | inr absent ↦
          let c = listed.covered row low top lo (inl (e ∙ t.last.others row absent)) lt in
          let ne : granule_at (links k.rows) row ≢ granule = λ s. absent (subst (λ i. IsListedRow (listings_at k.listed i) row) s (listed_row k.listed (granule_at (links k.rows) row) row low top c)) in
          listed_by k.listed new (granule_at (links k.rows) row) row low top top (λ a h. subst (λ l. Has l a) (sym (t.others (granule_at (links k.rows) row) ne)) h) (λ e. (sym t.exact ∙ e, omega arith)) c
    ]

-- ---- a row was listed

-- the last that takes a granule whole has the greatest number of those that do
pub last_of_takers : (k : Kept) → AreQueuesKept k → (g top : ℕ) (o : Option Mark) → k.next_number ≤ top → IsLastBetween 0 top (lane k Whole g) o
    → (number_or o 0 < k.next_number) × ((low : ℕ) → IsLow k g low → low ≤ since k.listed (number_or o 0))
last_of_takers k kept g top o within last = (below o last, λ low lo. by k.listed.exact refl low lo)
  where
    counted : (m : Mark) → Has (lane k Whole g) m → (0 < m.number) × (m.number < k.next_number)
    counted m h = let c = ((kept.lanes Whole g).members m).0 h in let b = kept.counted m.slot c.0 c.1 in let is = ap (λ (x : Mark). x.number) c.3 in (omega (arith, b.0, is), omega (arith, b.1, is))

    below : (o : Option Mark) → IsLastBetween 0 top (lane k Whole g) o → number_or o 0 < k.next_number
    below None l = kept.first
    below (Some w) l = (counted w l.0).1

    most : (m : Mark) → Has (lane k Whole g) m → (o : Option Mark) → IsLastBetween 0 top (lane k Whole g) o → m.number ≤ number_or o 0
    most m h None l = let b = counted m h in absurd (l m h (b.0, omega (arith, b.1, within)))
    most m h (Some w) l = let b = counted m h in l.2 m h (b.0, omega (arith, b.1, within))

    by : (t : Bool) → k.listed.exact ≡ t → (low : ℕ) → IsLow k g low → low ≤ (if k.listed.exact then number_or o 0 else 0)
    by t e low (inl zero) = omega (arith, zero)
    by true e low (inr (f, (m, h, is))) = subst (λ x. low ≤ (if x then number_or o 0 else 0)) (sym e) (omega (arith, most m h o last, is))
    by false e low (inr (f, r)) = absurd (true≢false (sym f ∙ e))

module _ (k : Kept) (kept : AreQueuesKept k) (row granule whole : ℕ) (new : ListedRows) (row_in : row < length (links k.rows).names) (in_granule : granule ≡ granule_at (links k.rows) row)
    (before : whole < k.next_number) (lows : (low : ℕ) → IsLow k granule low → low ≤ since k.listed whole) (change : ListsRow granule row k.next_number whole k.listed new) where
  abbrev now : Kept
  now = record k { listed = new }

  -- the listing of the row for the next push
  abbrev listing : Listing
  listing = record { row = row; number = k.next_number; before = last_listing k.listed row }

  since_before : since k.listed whole < k.next_number
  since_before = by k.listed.exact
    where
      by : (t : Bool) → (if t then whole else 0) < k.next_number
      by true = before
      by false = kept.first

  module _ (old_last : last_listing k.listed row ≤ since k.listed whole) (put : AppendsListing granule listing k.listed new) where
    longer : (g : ℕ) (a : Listing) → Has (listings_at k.listed g) a → Has (listings_at new g) a
    longer g a h = elim (either_nat g granule) [
      | inl e ↦ subst (λ i. Has (listings_at new i) a) (sym e) (subst (λ l. Has l a) (sym put.log) (has_longer (listings_at k.listed granule) _ a (subst (λ i. Has (listings_at k.listed i) a) e h)))
      | inr ne ↦ subst (λ l. Has l a) (sym (put.others g ne)) h
    ]

    came : (g r : ℕ) → IsListedRow (listings_at new g) r → IsListedRow (listings_at k.listed g) r ⊎ (g ≡ granule) × (row ≡ r)
    came g r h = elim (either_nat g granule) [
      | inl e ↦ elim (any_append (λ (a : Listing). a.row ≡ r) (listings_at k.listed granule) _ (subst (λ l. IsListedRow l r) put.log (subst (λ i. IsListedRow (listings_at new i) r) e h))) [
        | inl old ↦ inl (subst (λ i. IsListedRow (listings_at k.listed i) r) (sym e) old)
        | inr one ↦ inr (e, elim one [ inl is ↦ is | inr is ↦ absurd is ])
      ]
      | inr ne ↦ inl (subst (λ l. IsListedRow l r) (put.others g ne) h)
    ]

    -- the row is listed up to the next push
    entered_put : (low : ℕ) → IsLow k granule low → low < k.next_number → IsListedBy new granule row low k.next_number
    entered_put low lo lt = elim (either_le (last_listing k.listed row) low) [
      | inl le ↦ subst (AnyIn (IsListingBetween new row low k.next_number)) (sym put.log)
          (any_append_right (IsListingBetween new row low k.next_number) (listings_at k.listed granule) (listing ∷ []) (inl (refl, le, lt, λ e. omega arith)))
      | inr gt ↦ listed_by k.listed new granule row low (last_listing k.listed row) k.next_number (longer granule) (λ e. (sym put.exact ∙ e, kept.listed.latest (sym put.exact ∙ e) row))
          (subst (λ g. IsListedBy k.listed g row low (last_listing k.listed row)) (sym in_granule)
          (kept.listed.covered row low (last_listing k.listed row) (subst (λ g. IsLow k g low) in_granule lo) (inl refl) (omega (arith, gt))))
    ]

    was_low : (g low : ℕ) → IsLow now g low → IsLow k g low
    was_low g low (inl e) = inl e
    was_low g low (inr (e, r)) = inr (sym put.exact ∙ e, r)

    listed_put : AreRowsListed now
    listed_put = record {
      logged = logged_appended k.listed new kept.listed.logged granule _ put refl (omega (arith, old_last, since_before)) kept.listed.latest;
      own = λ g r h. elim (came g r h) [
        | inl old ↦ kept.listed.own g r old
        | inr b ↦ (subst (λ x. x < length (links k.rows).names) b.1 row_in, ap (granule_at (links k.rows)) (sym b.1) ∙ sym in_granule ∙ sym b.0)
      ];
      latest = λ e r. latest (sym put.exact ∙ e) r (either_nat r row);
      covered = λ r low top lo to lt. covered r low top (was_low (granule_at (links k.rows) r) low lo) to lt (either_nat r row);
    }
      where
        latest : k.listed.exact ≡ true → (r : ℕ) → (r ≡ row) ⊎ (r ≢ row) → last_listing new r ≤ k.next_number
        latest e r (inl is) = omega (arith, ap (last_listing new) is, put.last)
        latest e r (inr ne) = omega (arith, put.rest r ne, kept.listed.latest e r)

        old : (r low top : ℕ) → IsListedBy k.listed (granule_at (links k.rows) r) r low top → IsListedBy new (granule_at (links k.rows) r) r low top
        old r low top b = listed_by k.listed new (granule_at (links k.rows) r) r low top top (longer (granule_at (links k.rows) r)) (λ e. (sym put.exact ∙ e, omega arith)) b

        covered : (r low top : ℕ) → IsLow k (granule_at (links k.rows) r) low → IsTop now r top → low < top → (r ≡ row) ⊎ (r ≢ row) → IsListedBy new (granule_at (links k.rows) r) r low top
        covered r low top lo (inr m) lt is = old r low top (kept.listed.covered r low top lo (inr m) lt)
        covered r low top lo (inl e) lt (inr ne) = old r low top (kept.listed.covered r low top lo (inl (e ∙ put.rest r ne)) lt)
        covered r low top lo (inl e) lt (inl is) =
            let at : top ≡ k.next_number = e ∙ ap (last_listing new) is ∙ put.last in
            subst (λ x. IsListedBy new (granule_at (links k.rows) r) r low x) (sym at)
            (subst (λ x. IsListedBy new (granule_at (links k.rows) x) x low k.next_number) (sym is)
            (subst (λ g. IsListedBy new g row low k.next_number) in_granule
            (entered_put low (subst (λ g. IsLow k g low) (ap (granule_at (links k.rows)) is ∙ sym in_granule) lo) (omega (arith, lt, at)))))

  pub listed_added : AreRowsListed now × IsEntered now row
  listed_added = elim change [
    | inl same ↦ (
      listed_same k now kept.listed (rows_refl (links k.rows)) same.1 (omega arith) (λ mode p m h. has mode p m h),
      λ low lo lt. since_listed same.0 same.1 low (sames_low same.1 (granule_at (links k.rows) row) low lo),
    )
    | inr put ↦ (
      listed_put put.0 put.1,
      λ low lo lt. subst (λ g. IsListedBy new g row low k.next_number) in_granule (entered_put put.0 put.1 low (was_low put.0 put.1 granule low (subst (λ g. IsLow now g low) (sym in_granule) lo)) lt),
    )
  ]
    where
      has : (mode : Mode) (p : ℕ) (m : Mark) → Has (lane now mode p) m → Has (lane k mode p) m
      has Read p m h = h
      has Write p m h = h
      has Whole p m h = h

      sames_low : SameListings k.listed new → (g low : ℕ) → IsLow now g low → IsLow k g low
      sames_low same g low (inl e) = inl e
      sames_low same g low (inr (e, r)) = inr (sym same.exact ∙ e, r)

      since_listed : since k.listed whole < last_listing k.listed row → SameListings k.listed new → (low : ℕ) → IsLow k (granule_at (links k.rows) row) low → IsListedBy new (granule_at (links k.rows) row) row low k.next_number
      since_listed less same low lo =
          let le = lows low (subst (λ g. IsLow k g low) (sym in_granule) lo) in
          listed_by k.listed new (granule_at (links k.rows) row) row low (last_listing k.listed row) k.next_number (λ a h. subst (λ l. Has l a) (sym (same.logs (granule_at (links k.rows) row))) h)
          (λ e. (sym same.exact ∙ e, kept.listed.latest (sym same.exact ∙ e) row))
          (kept.listed.covered row low (last_listing k.listed row) lo (inl refl) (omega (arith, le, less)))

-- or all is listed as before, where memory was out
pub listed_or_not : {A E : Type 0} (r : Result A E) (k : Kept) → AreQueuesKept k → (row granule whole : ℕ) (new : ListedRows) → row < length (links k.rows).names → granule ≡ granule_at (links k.rows) row
    → whole < k.next_number → ((low : ℕ) → IsLow k granule low → low ≤ since k.listed whole) → OnOk r (ListsRow granule row k.next_number whole k.listed new) → OnErr r (SameListings k.listed new)
    → AreRowsListed (record k { listed = new }) × OnOk r (IsEntered (record k { listed = new }) row)
listed_or_not (Ok a) k kept row granule whole new lt e before lows ok err = listed_added k kept row granule whole new lt e before lows ok
listed_or_not (Err a) k kept row granule whole new lt e before lows ok err = (listed_same k (record k { listed = new }) kept.listed (rows_refl (links k.rows)) err (omega arith) (λ mode p m h. has mode p m h), tt)
  where
    has : (mode : Mode) (p : ℕ) (m : Mark) → Has (lane (record k { listed = new }) mode p) m → Has (lane k mode p) m
    has Read p m h = h
    has Write p m h = h
    has Whole p m h = h

-- ---- what is found

-- this number, or 0 where numbers tell nothing of listings, is that of an entry that takes the granule whole, or 0, and below a top
abbrev IsLowBelow : Kept → ℕ → ℕ → ℕ → Bool → Type 0
IsLowBelow k g low top exact = IsLow k g (if exact then low else 0) × ((if exact then low else 0) < top)

-- a row with a mark between what takes the granule whole, or 0, and another number is found
pub marks_found : (k : Kept) → AreRowsListed k → (g row low high : ℕ) (m : Mark) → IsTakenWhole k g low → granule_at (links k.rows) row ≡ g → IsOfRow k row m → low < m.number → m.number < high
    → Has (rows_between k.listed g low high) row
marks_found k listed g row low high m taken in_granule of lt less =
    found_between k.listed g low m.number high row less
    (subst (λ x. IsListedBy k.listed x row (since k.listed low) m.number) in_granule
    (listed.covered row (since k.listed low) m.number (by k.listed.exact refl taken).0 (inr (m, of, refl)) (by k.listed.exact refl taken).1))
  where
    by : (t : Bool) → k.listed.exact ≡ t → IsTakenWhole k g low → IsLowBelow k (granule_at (links k.rows) row) low m.number k.listed.exact
    by true e taken = subst (IsLowBelow k (granule_at (links k.rows) row) low m.number) (sym e)
        (subst (λ x. IsLow k x low) (sym in_granule) (elim taken [ inl zero ↦ inl zero | inr r ↦ inr (e, r) ]), lt)
    by false e taken = subst (IsLowBelow k (granule_at (links k.rows) row) low m.number) (sym e) (inl refl, omega (arith, lt))
