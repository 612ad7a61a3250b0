-- Degrees: how a push and the leaving of vertices change them. When vertices leave, the degree of each vertex that stays
-- falls by the number of its entries that follow theirs, in all; these are counted before any entry is taken out.
use Rattle.std.proofs.Common.{◌≡◌, ◌≢◌, ◌+◌, ◌≤◌, ◌⊎◌, ◌∙◌, ℕ, Bool, true, false, ◌&&◌, ◌==◌, not, if◌then◌else◌, List, []}
use Rattle.std.proofs.Common.{◌∷◌, ◌++◌, length, filter, refl, sym, ap, ap₂, subst, inl, inr, eqb-true, arith}
use Rattle.std.specs.List.{sum_by, list_any}
use Rattle.std.proofs.lemmas.Bool.{cases_Bool, false_from_ne_true}
use Rattle.std.proofs.lemmas.List.{append-nil}
use Rattle.std.proofs.lemmas.List.Sums.{sum_by-append}
use Rattle.std.proofs.lemmas.List.Elements.{filter-append}
use Rattle.dt_lists.specs.Lists.{AllIn, Has}
use Rattle.dt_lists.specs.Lists.{Distinct}
use Rattle.dt_lists.proofs.Callers.{all_get, all_put, any_get, any_of_test, each_across, each_append_left, filter_none, has_of_filtered, Spot, spot, sum_mapped, sum_same, sum_of_sums}
use Rattle.dt_queue.specs.Queues.{Waiting, HasDistinctSlots, is_at, nearest, neighbours, is_neighbour, followers}
use Rattle.dt_waits.specs.Waits.{others, degree, is_leaving, is_of, lowered, lowered_by, slots_of}
use Rattle.dt_waits.proofs.NeighbourChains.{is_near, nearest_clash, neighbours_split, slot_same, slot_other}
use Rattle.dt_waits.proofs.NeighboursOfTheRest.{KeepsLater, neighbours_kept, neighbours_pushed}
use Rattle.dt_waits.proofs.Sums.{chosen_turned, filter_both, filter_same, length_split, sum_chosen, sum_grouped, sum_kept, sum_of_ones, sum_swapped}

-- the entries that pass the test, among the neighbours of the entries of a vertex: how many there are
abbrev pub count_neighbours : (Waiting → Bool) → List Waiting → ℕ → ℕ
count_neighbours test waiting vertex = sum_by (λ w. if w.vertex == vertex then length (filter test (neighbours waiting w.slot)) else 0) waiting

-- a pushed entry adds to the degree of its own vertex alone
pub degree_pushed : (waiting : List Waiting) (w : Waiting) (vertex : ℕ) → HasDistinctSlots (waiting ++ w ∷ [])
    → degree (waiting ++ w ∷ []) vertex ≡ degree waiting vertex + (if w.vertex == vertex then length (others vertex (neighbours (waiting ++ w ∷ []) w.slot)) else 0)
degree_pushed waiting w vertex distinct =
    sum_by-append counts waiting (w ∷ []) ∙ ap₂ ◌+◌ before (last (counts w))
  where
    counts : Waiting → ℕ
    counts v = if v.vertex == vertex then length (others vertex (neighbours (waiting ++ w ∷ []) v.slot)) else 0

    before : sum_by counts waiting ≡ degree waiting vertex
    before = sum_same counts _ waiting (λ v h. ap (λ l. if v.vertex == vertex then length (others vertex l) else 0) (neighbours_pushed waiting (w ∷ []) v distinct h))

    last : (n : ℕ) → 0 + n ≡ n
    last n = omega arith

-- the degree in what is kept counts the neighbours that are kept, where a vertex is kept whole
pub degree_kept : (keeps : ℕ → Bool) (waiting : List Waiting) (vertex : ℕ) → HasDistinctSlots waiting → KeepsLater (λ w. keeps w.vertex) waiting → keeps vertex ≡ true
    → degree (filter (λ w. keeps w.vertex) waiting) vertex ≡ count_neighbours (λ n. not (n.vertex == vertex) && keeps n.vertex) waiting vertex
degree_kept keeps waiting vertex distinct later kept =
    sum_same _ counts (filter (λ w. keeps w.vertex) waiting) same
    ∙ sum_kept _ (λ w. keeps w.vertex) waiting gone
  where
    counts : Waiting → ℕ
    counts w = if w.vertex == vertex then length (filter (λ n. not (n.vertex == vertex) && keeps n.vertex) (neighbours waiting w.slot)) else 0

    same : (w : Waiting) → Has (filter (λ w. keeps w.vertex) waiting) w
        → (if w.vertex == vertex then length (others vertex (neighbours (filter (λ w. keeps w.vertex) waiting) w.slot)) else 0) ≡ counts w
    same w h =
        let r : Has waiting w × (keeps w.vertex ≡ true) = has_of_filtered (λ w. keeps w.vertex) waiting w h in
        ap (λ l. if w.vertex == vertex then length l else 0)
        (ap (others vertex) (neighbours_kept (λ w. keeps w.vertex) waiting w distinct later r.0 r.1) ∙ filter_both (λ n. not (n.vertex == vertex)) (λ n. keeps n.vertex) (neighbours waiting w.slot))

    gone : (w : Waiting) → Has waiting w → keeps w.vertex ≡ false → counts w ≡ 0
    gone w h out = rw (slot_other w.vertex vertex apart) refl
      where
        apart : w.vertex ≢ vertex
        apart e = let k : keeps w.vertex ≡ true = ap keeps e ∙ kept in cc

-- the neighbours of an entry, as those of all entries that are so

nearest_filtered : (x : Waiting) (front : List Waiting) → HasDistinctSlots front → nearest x front ≡ filter (λ s. list_any (is_at s.slot) (nearest x front)) front
nearest_filtered x [] d = refl
nearest_filtered x (a ∷ front) d = by (nearest_filtered x front d.1) (cases_Bool (is_near x a front))
  where
    among : List Waiting → Waiting → Bool
    among found s = list_any (is_at s.slot) found

    apart : (s : Waiting) → Has front s → is_at s.slot a ≡ false
    apart s h = slot_other a.slot s.slot (all_get _ front d.0 s h)

    absent : among (nearest x front) a ≡ false
    absent = false_from_ne_true _ (λ e.
        let r : (w : Waiting) × Has (nearest x front) w × (is_at a.slot w ≡ true) = any_get _ (nearest x front) (any_of_test (is_at a.slot) (nearest x front) e) in
        all_get _ front d.0 r.0 (nearest_clash x front r.0 r.1).0 (sym (eqb-true r.0.slot a.slot r.2)))

    with_first : (s : Waiting) → Has front s → among (a ∷ nearest x front) s ≡ among (nearest x front) s
    with_first s h = rw (apart s h) refl

    step : is_near x a front ≡ true → nearest x (a ∷ front) ≡ a ∷ nearest x front
    step near = rw near refl

    pass : is_near x a front ≡ false → nearest x (a ∷ front) ≡ nearest x front
    pass far = rw far refl

    by : nearest x front ≡ filter (among (nearest x front)) front → (is_near x a front ≡ true) ⊎ (is_near x a front ≡ false)
        → nearest x (a ∷ front) ≡ filter (among (nearest x (a ∷ front))) (a ∷ front)
    by rest (inl near) =
        subst (λ found. found ≡ filter (among found) (a ∷ front)) (sym (step near))
        (rw (slot_same a.slot) (ap (λ l. a ∷ l) (rest ∙ sym (filter_same (among (a ∷ nearest x front)) (among (nearest x front)) front with_first))))
    by rest (inr far) = subst (λ found. found ≡ filter (among found) (a ∷ front)) (sym (pass far)) (rw absent rest)

pub neighbours_filtered : (waiting : List Waiting) (w : Waiting) → HasDistinctSlots waiting → Has waiting w → neighbours waiting w.slot ≡ filter (λ s. is_neighbour waiting s.slot w.slot) waiting
neighbours_filtered waiting w distinct h = is_nearest ∙ in_all ∙ ap (λ l. filter (λ s. list_any (is_at s.slot) l) waiting) (sym is_nearest)
  where
    s : Spot waiting w
    s = spot waiting w h

    split : HasDistinctSlots (s.front ++ w ∷ s.rest)
    split = subst HasDistinctSlots s.is distinct

    is_nearest : neighbours waiting w.slot ≡ nearest w s.front
    is_nearest = neighbours_split waiting s.front w s.rest distinct s.is

    test : Waiting → Bool
    test v = list_any (is_at v.slot) (nearest w s.front)

    later : AllIn (λ v. test v ≡ false) (w ∷ s.rest)
    later = all_put _ (w ∷ s.rest) (λ v k. false_from_ne_true (test v) (λ e.
        let r : (u : Waiting) × Has (nearest w s.front) u × (is_at v.slot u ≡ true) = any_get _ (nearest w s.front) (any_of_test (is_at v.slot) (nearest w s.front) e) in
        each_across _ s.front (w ∷ s.rest) r.0 v split (nearest_clash w s.front r.0 r.1).0 k (eqb-true r.0.slot v.slot r.2)))

    in_all : nearest w s.front ≡ filter test waiting
    in_all = nearest_filtered w s.front (each_append_left _ s.front (w ∷ s.rest) split) ∙ sym (append-nil (filter test s.front))
        ∙ ap (λ l. filter test s.front ++ l) (sym (filter_none test (w ∷ s.rest) later)) ∙ sym (filter-append test s.front (w ∷ s.rest)) ∙ ap (filter test) (sym s.is)

-- the neighbours that leave are counted by their followers
module _ (waiting : List Waiting) (distinct : HasDistinctSlots waiting) (v : ℕ) where
  -- one entry that follows another, as a number
  abbrev follows : Waiting → Waiting → ℕ
  follows s w = if w.vertex == v then (if is_neighbour waiting s.slot w.slot then 1 else 0) else 0

  -- counted by neighbours, counted by followers
  counted_by_followers : (test : Waiting → Bool) → count_neighbours test waiting v ≡ sum_by (λ s. if test s then length (filter (is_of v) (followers waiting s.slot)) else 0) waiting
  counted_by_followers test =
      sum_same _ (λ w. sum_by (λ s. if test s then follows s w else 0) waiting) waiting by_entry
      ∙ sum_swapped (λ w s. if test s then follows s w else 0) waiting waiting
      ∙ sum_same _ _ waiting by_neighbour
    where
      by_entry : (w : Waiting) → Has waiting w → (if w.vertex == v then length (filter test (neighbours waiting w.slot)) else 0) ≡ sum_by (λ s. if test s then follows s w else 0) waiting
      by_entry w h =
          ap (λ l. if w.vertex == v then length (filter test l) else 0) (neighbours_filtered waiting w distinct h)
          ∙ ap (λ n. if w.vertex == v then n else 0) (sym (sum_of_ones test (λ s. is_neighbour waiting s.slot w.slot) waiting))
          ∙ sym (sum_chosen (w.vertex == v) (λ s. if test s then (if is_neighbour waiting s.slot w.slot then 1 else 0) else 0) waiting)
          ∙ sum_same _ _ waiting (λ s k. chosen_turned (w.vertex == v) (test s) (if is_neighbour waiting s.slot w.slot then 1 else 0))

      by_neighbour : (s : Waiting) → Has waiting s → sum_by (λ w. if test s then follows s w else 0) waiting ≡ (if test s then length (filter (is_of v) (followers waiting s.slot)) else 0)
      by_neighbour s h = sum_chosen (test s) (λ w. follows s w) waiting ∙ ap (λ n. if test s then n else 0) (sum_of_ones (is_of v) (λ w. is_neighbour waiting s.slot w.slot) waiting)

  pub leaving_counted : (leaving : List ℕ) → Distinct leaving → count_neighbours (λ n. not (n.vertex == v) && is_leaving leaving n.vertex) waiting v ≡ lowered_by waiting leaving v
  leaving_counted leaving once =
      counted_by_followers (λ n. not (n.vertex == v) && is_leaving leaving n.vertex)
      ∙ sum_same _ (λ s. if is_leaving leaving s.vertex then lowered waiting s.slot s.vertex v else 0) waiting (λ s h. regroup (s.vertex == v) (is_leaving leaving s.vertex) _)
      ∙ sum_grouped (λ w. w.vertex) (λ s. lowered waiting s.slot s.vertex v) waiting leaving once
      ∙ sum_same _ _ leaving (λ u h. by_slots u)
    where
      regroup : (a b : Bool) (n : ℕ) → (if not a && b then n else 0) ≡ (if b then (if a then 0 else n) else 0)
      regroup true true n = refl
      regroup true false n = refl
      regroup false true n = refl
      regroup false false n = refl

      by_slots : (u : ℕ) → sum_by (λ s. lowered waiting s.slot s.vertex v) (filter (is_of u) waiting) ≡ sum_by (λ slot. lowered waiting slot u v) (slots_of waiting u)
      by_slots u =
          sum_same _ (λ s. lowered waiting s.slot u v) (filter (is_of u) waiting) (λ s h. ap (λ x. lowered waiting s.slot x v) (eqb-true s.vertex u (has_of_filtered (is_of u) waiting s h).1))
          ∙ sym (sum_mapped (λ slot. lowered waiting slot u v) (λ w. w.slot) (filter (is_of u) waiting))

  -- each neighbour of another vertex leaves or stays
  degree_split : (leaving : List ℕ)
      → degree waiting v ≡ count_neighbours (λ n. not (n.vertex == v) && not (is_leaving leaving n.vertex)) waiting v + count_neighbours (λ n. not (n.vertex == v) && is_leaving leaving n.vertex) waiting v
  degree_split leaving = sum_of_sums _ _ _ waiting (λ w h. at (w.vertex == v) _ _ _ (length_split (λ n. not (n.vertex == v)) (λ n. is_leaving leaving n.vertex) (neighbours waiting w.slot)))
    where
      at : (b : Bool) (m n k : ℕ) → m ≡ n + k → (if b then m else 0) ≡ (if b then n else 0) + (if b then k else 0)
      at true m n k e = e
      at false m n k e = refl

  -- no degree is less than what is taken from it
  pub lowered_fits : (leaving : List ℕ) → Distinct leaving → lowered_by waiting leaving v ≤ degree waiting v
  lowered_fits leaving once = fits _ _ _ _ (degree_split leaving) (leaving_counted leaving once)
    where
      fits : (d s c l : ℕ) → d ≡ s + c → c ≡ l → l ≤ d
      fits d s c l e f = omega (arith, e, f)

  -- the degree of what stays falls by what is taken from it
  pub degree_leaving : (leaving : List ℕ) → Distinct leaving → KeepsLater (λ w. not (is_leaving leaving w.vertex)) waiting → is_leaving leaving v ≡ false
      → degree waiting v ≡ degree (filter (λ w. not (is_leaving leaving w.vertex)) waiting) v + lowered_by waiting leaving v
  degree_leaving leaving once later stays = falls _ _ _ _ _ (degree_split leaving) (leaving_counted leaving once) (degree_kept (λ u. not (is_leaving leaving u)) waiting v distinct later (ap not stays))
    where
      falls : (d s c l k : ℕ) → d ≡ s + c → c ≡ l → k ≡ s → d ≡ k + l
      falls d s c l k e f g = omega (arith, e, f, g)
