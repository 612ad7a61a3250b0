-- Pushing the uses of a part, step by step, and taking the pushed entries back; and what a part adds to what is kept.
use Rattle.std.proofs.Common.{◌≡◌, ◌≢◌, ◌+◌, ◌<◌, ◌≤◌, ◌⊎◌, ◌∙◌, ◌^◌, ℕ, suc, Bool, true, false, ◌==◌, not, if◌then◌else◌, List, []}
use Rattle.std.proofs.Common.{◌∷◌, ◌++◌, length, map, filter, get_or, set, None, refl, sym, ap, ap₂, subst, inl, inr, arith}
use Rattle.std.proofs.lemmas.Bool.{cases_Bool}
use Rattle.std.proofs.lemmas.List.{append-nil, append_assoc, get_or-set_other, get_or-set_same, length-append, length-set, map-append, same_from_push}
use Rattle.std.proofs.lemmas.List.Elements.{filter-append}
use Rattle.std.proofs.lemmas.List.Sums.{length-filter}
use Rattle.std.proofs.Math.ListN.{get_or-append}
use Rattle.dt_lists.specs.Lists.{AnyIn, AllIn, Has, Distinct}
use Rattle.dt_lists.proofs.Callers.{all_append, all_append_left, all_put, distinct_push, each_append_left, each_across, filter_whole, has_last, has_longer, has_map, has_more}
use Rattle.dt_access.specs.Clash.{Bytes}
use Rattle.dt_access.specs.declared.access.Mode.{Mode}
use Rattle.dt_access.specs.declared.Part.{Part}
use Rattle.dt_access.specs.declared.TxnId.{TxnId}
use Rattle.dt_queue.specs.Queues.{HasDistinctSlots, IsQueued, Waiting, neighbours, taken_out}
use Rattle.dt_queue.proofs.Callers.{distinct_pushed, pushed_waits}
use Rattle.dt_waits.specs.declared.vertex.Vertex.{Vertex}
use Rattle.dt_waits.specs.Waits.{degree, id_at, others}
use Rattle.dt_waits.specs.Graph.{GraphView, vertex_at}
use Rattle.dt_waits.specs.Steps.{AreEntriesOf, Grows, Inserts, fresh_vertex}
use Rattle.dt_graph.specs.SmallStepsInner.{Enters, Pushes, Sorts, raised}
use Rattle.dt_waits.proofs.Callers.{degree_fits, degree_pushed, id_has, slot_other, slot_same}

-- no use was pushed
pub enters_none : (home vertex : ℕ) (waiting : List Waiting) (slots : List ℕ) (before : ℕ) → HasDistinctSlots waiting → before ≡ degree waiting vertex → Enters home vertex [] waiting waiting slots slots before
enters_none home vertex waiting slots before d e = record {
  pushed = record { more = []; waiting = sym (append-nil waiting); distinct = d; at_slots = sym (append-nil slots); of_vertex = tt };
  used = refl;
  at_home = tt;
  counted = e;
}

-- one after the other
pub enters_more : (home vertex : ℕ) (first second : List (Bytes × Mode)) (a b c : List Waiting) (r s t : List ℕ) (j k : ℕ)
    → Enters home vertex first a b r s j → Enters home vertex second b c s t k → Enters home vertex (first ++ second) a c r t k
enters_more home vertex first second a b c r s t j k e f = record {
  pushed = record {
    more = e.pushed.more ++ f.pushed.more;
    waiting = f.pushed.waiting ∙ ap (λ l. l ++ f.pushed.more) e.pushed.waiting ∙ append_assoc a e.pushed.more f.pushed.more;
    distinct = f.pushed.distinct;
    at_slots = f.pushed.at_slots ∙ ap (λ l. l ++ map (λ w. w.slot) f.pushed.more) e.pushed.at_slots ∙ append_assoc r (map (λ w. w.slot) e.pushed.more) (map (λ w. w.slot) f.pushed.more)
        ∙ ap (λ l. r ++ l) (sym (map-append (λ w. w.slot) e.pushed.more f.pushed.more));
    of_vertex = all_append _ e.pushed.more f.pushed.more e.pushed.of_vertex f.pushed.of_vertex;
  };
  used = map-append (λ w. (w.key, w.mode)) e.pushed.more f.pushed.more ∙ ap₂ ◌++◌ e.used f.used;
  at_home = all_append _ e.pushed.more f.pushed.more e.at_home f.at_home;
  counted = f.counted;
}

-- a count over an image
count_mapped : {A B : Type 0} (p : B → Bool) (f : A → B) (xs : List A) → length (filter p (map f xs)) ≡ length (filter (λ x. p (f x)) xs)
count_mapped p f [] = refl
count_mapped p f (x ∷ xs) = by (count_mapped p f xs) (cases_Bool (p (f x)))
  where
    by : length (filter p (map f xs)) ≡ length (filter (λ x. p (f x)) xs) → (p (f x) ≡ true) ⊎ (p (f x) ≡ false) → length (filter p (map f (x ∷ xs))) ≡ length (filter (λ x. p (f x)) (x ∷ xs))
    by rest (inl e) = rw e (ap suc rest)
    by rest (inr e) = rw e rest

-- one use is pushed
module _ (waiting now : List Waiting) (w : Waiting) (d : HasDistinctSlots waiting) (is : now ≡ waiting ++ w ∷ []) (fresh : ¬ (IsQueued waiting w.slot)) (before : ℕ) (e : before ≡ degree waiting w.vertex) where
  all_distinct : HasDistinctSlots (waiting ++ w ∷ [])
  all_distinct = distinct_pushed waiting w d fresh

  own : (if w.vertex == w.vertex then length (others w.vertex (neighbours (waiting ++ w ∷ []) w.slot)) else 0) ≡ length (others w.vertex (neighbours now w.slot))
  own = rw (slot_same w.vertex) (ap (λ l. length (others w.vertex (neighbours l w.slot))) (sym is))

  -- its neighbours raise the degree
  raised_degree : raised before (map (λ n. n.vertex) (neighbours now w.slot)) w.vertex ≡ degree now w.vertex
  raised_degree =
      ap₂ ◌+◌ e (sym (length-filter (λ n. not (n == w.vertex)) (map (λ n. n.vertex) (neighbours now w.slot))) ∙ count_mapped (λ n. not (n == w.vertex)) (λ n. n.vertex) (neighbours now w.slot))
      ∙ sym (ap (λ l. degree l w.vertex) is ∙ degree_pushed waiting w w.vertex all_distinct ∙ ap (λ n. degree waiting w.vertex + n) own)

  pub raised_fits : length now < 2 ^ 64 → raised before (map (λ n. n.vertex) (neighbours now w.slot)) w.vertex < 2 ^ 128
  raised_fits few = subst (λ n. n < 2 ^ 128) (sym raised_degree) (degree_fits now w.vertex few)

  pub enters_one : (slots slots_now : List ℕ) (risen : ℕ) → slots_now ≡ slots ++ w.slot ∷ [] → risen ≡ raised before (map (λ n. n.vertex) (neighbours now w.slot)) w.vertex
      → Enters w.home w.vertex ((w.key, w.mode) ∷ []) waiting now slots slots_now risen
  enters_one slots slots_now risen at r = record {
    pushed = record { more = w ∷ []; waiting = is; distinct = subst HasDistinctSlots (sym is) all_distinct; at_slots = at; of_vertex = (refl, tt) };
    used = refl;
    at_home = (refl, tt);
    counted = r ∙ raised_degree;
  }

-- the entry that was pushed last is taken back
pub without_last : (waiting : List Waiting) (w : Waiting) → HasDistinctSlots (waiting ++ w ∷ []) → taken_out (waiting ++ w ∷ []) w.slot ≡ waiting
without_last waiting w d =
    filter-append (λ v. not (v.slot == w.slot)) waiting (w ∷ [])
    ∙ ap₂ ◌++◌ (filter_whole (λ v. not (v.slot == w.slot)) waiting (all_put _ waiting (λ v h. ap not (slot_other v.slot w.slot (each_across _ waiting (w ∷ []) v w d h (inl refl)))))) own
    ∙ append-nil waiting
  where
    own : filter (λ v. not (v.slot == w.slot)) (w ∷ []) ≡ []
    own = rw (slot_same w.slot) refl

-- the entries of a part are those of its uses
pub entries_of : (part : Part) (vertex : ℕ) (old new : List Waiting) (slots now : List ℕ) (risen : ℕ) → (e : Enters part.home vertex part.keys old new slots now risen) → AreEntriesOf part vertex e.pushed.more
entries_of part vertex old new slots now risen e = record {
  of_part = three e.pushed.more (λ w h. h) e.at_home e.pushed.of_vertex;
  all_uses = λ way h. used_by e.pushed.more way (subst (λ l. Has l way) (sym e.used) h);
}
  where
    use_in : (w : Waiting) → Has e.pushed.more w → Has part.keys (w.key, w.mode)
    use_in w h = subst (λ l. Has l (w.key, w.mode)) e.used (has_map (λ w. (w.key, w.mode)) e.pushed.more w h)

    three : (ws : List Waiting) → ((w : Waiting) → Has ws w → Has e.pushed.more w) → AllIn (λ w. w.home ≡ part.home) ws
        → AllIn (λ w. w.vertex ≡ vertex) ws → AllIn (λ w. (w.home ≡ part.home) × (w.vertex ≡ vertex) × Has part.keys (w.key, w.mode)) ws
    three [] among a b = tt
    three (w ∷ ws) among a b = ((a.0, b.0, use_in w (among w (inl refl))), three ws (λ v h. among v (inr h)) a.1 b.1)

    used_by : (ws : List Waiting) (way : Bytes × Mode) → Has (map (λ w. (w.key, w.mode)) ws) way → AnyIn (λ w. (w.key, w.mode) ≡ way) ws
    used_by [] way h = absurd h
    used_by (w ∷ ws) way (inl e) = inl e
    used_by (w ∷ ws) way (inr h) = inr (used_by ws way h)

-- the last item of a longer list, and those before it
last_at : {A : Type 0} (xs : List A) (y d : A) → get_or (xs ++ y ∷ []) (length xs) d ≡ y
last_at [] y d = refl
last_at (x ∷ xs) y d = last_at xs y d

-- each id that is kept is there once, and has a vertex and a degree
pub record HasVertices (g : GraphView) : Type 0 where
  pub once : Distinct g.ids
  pub vertices : length g.vertices ≡ length g.ids
  pub degrees : length g.degrees ≡ length g.ids

abbrev no_id : TxnId
no_id = record { seq = 0; region = 0 }

abbrev no_vertex : Vertex
no_vertex = record { rank = 0; missing = 0; class = None; slots = [] }

-- the vertex, once a part more is there
abbrev grown_to : Vertex → ℕ → List ℕ → Vertex
grown_to vertex missing slots = record vertex { missing = missing; slots = slots }

-- a part is added to what is kept
module _ (part : Part) (old : GraphView) (has : HasVertices old) (waiting : List Waiting) (slots : List ℕ) (missing count : ℕ) (ready stuck : List ℕ) where
  -- what is kept then
  abbrev after : List TxnId → List Vertex → List ℕ → GraphView
  after ids vertices degrees = record { ids = ids; vertices = vertices; degrees = degrees; waiting = waiting; ready = ready; stuck = stuck; classes = old.classes }

  abbrev first : Vertex
  first = grown_to (fresh_vertex part) missing slots

  -- it is the first part of its transaction, which gets a vertex of its own
  pub inserts_first : ¬ (Has old.ids part.id) → suc missing ≡ length part.homes → (e : Enters part.home (length old.ids) part.keys old.waiting waiting [] slots count)
      → Sorts (length old.ids) (old.vertices ++ first ∷ []) (old.degrees ++ count ∷ []) old.ready old.stuck ready stuck
      → Inserts part (length old.ids) e.pushed.more old (after (old.ids ++ part.id ∷ []) (old.vertices ++ first ∷ []) (old.degrees ++ count ∷ []))
  inserts_first fresh lacking e sorts = record {
    within = subst (λ n. length old.ids < n) (sym one_more) (below_next (length old.ids));
    named = last_at old.ids part.id no_id;
    once = distinct_push old.ids part.id has.once fresh;
    ids = λ t. (
      λ h. elim (has_more old.ids part.id t h) [ inl o ↦ inl o | inr f ↦ inr (sym f) ],
      λ s. elim s [ inl o ↦ has_longer old.ids (part.id ∷ []) t o | inr f ↦ subst (Has (old.ids ++ part.id ∷ [])) (sym f) (has_last old.ids part.id) ],
    );
    vertices = length-append old.vertices _ ∙ ap (λ n. n + 1) has.vertices ∙ sym one_more;
    degrees = length-append old.degrees (count ∷ []) ∙ ap (λ n. n + 1) has.degrees ∙ sym one_more;
    kept = λ u lt. (subst (λ n. u < n) (sym one_more) (grown u lt), get_or-append old.ids (part.id ∷ []) no_id u lt);
    others = λ u lt ne.
        let was : u < length old.ids = older u (subst (λ n. u < n) one_more lt) ne in (
          was,
          get_or-append old.vertices (_ ∷ []) no_vertex u (subst (λ n. u < n) (sym has.vertices) was),
          get_or-append old.degrees (count ∷ []) 0 u (subst (λ n. u < n) (sym has.degrees) was),
        );
    waiting = e.pushed.waiting;
    distinct = e.pushed.distinct;
    entries = entries_of part (length old.ids) old.waiting waiting [] slots count e;
    before = fresh_vertex part;
    is_before = inr (refl, fresh, refl);
    grows = subst (Grows (fresh_vertex part) e.pushed.more) (sym vertex_is) (record { rank = refl; missing = lacking; class = refl; slots = e.pushed.at_slots });
    counted = degree_is ∙ e.counted;
    ready = sorts.readied;
    stuck = sorts.stuck_more;
    classes = refl;
  }
    where
      one_more : length (old.ids ++ part.id ∷ []) ≡ length old.ids + 1
      one_more = length-append old.ids (part.id ∷ [])

      below_next : (n : ℕ) → n < n + 1
      below_next n = omega arith

      grown : (u : ℕ) → u < length old.ids → u < length old.ids + 1
      grown u lt = omega (arith, lt)

      older : (u : ℕ) → u < length old.ids + 1 → u ≢ length old.ids → u < length old.ids
      older u lt ne = grind (arith, lt, ne)

      vertex_is : vertex_at (old.vertices ++ first ∷ []) (length old.ids) ≡ first
      vertex_is = ap (vertex_at (old.vertices ++ first ∷ [])) (sym has.vertices) ∙ last_at old.vertices first no_vertex

      degree_is : get_or (old.degrees ++ count ∷ []) (length old.ids) 0 ≡ count
      degree_is = ap (λ n. get_or (old.degrees ++ count ∷ []) n 0) (sym has.degrees) ∙ last_at old.degrees count 0

  -- it is one more part of the vertex of its transaction
  module _ (v : ℕ) (lt : v < length old.ids) where
    abbrev again : Vertex
    again = grown_to (vertex_at old.vertices v) missing slots

    pub inserts_again : id_at old.ids v ≡ part.id → suc missing ≡ (vertex_at old.vertices v).missing → (e : Enters part.home v part.keys old.waiting waiting (vertex_at old.vertices v).slots slots count)
        → Sorts v (set old.vertices v again) (set old.degrees v count) old.ready old.stuck ready stuck → Inserts part v e.pushed.more old (after old.ids (set old.vertices v again) (set old.degrees v count))
    inserts_again named lacking e sorts = record {
      within = lt;
      named = named;
      once = has.once;
      ids = λ t. (λ h. inl h, λ s. elim s [ inl o ↦ o | inr f ↦ subst (Has old.ids) (named ∙ sym f) (id_has old.ids v lt) ]);
      vertices = length-set old.vertices v _ ∙ has.vertices;
      degrees = length-set old.degrees v count ∙ has.degrees;
      kept = λ u l. (l, refl);
      others = λ u l ne. (l, get_or-set_other old.vertices v u _ no_vertex ne, get_or-set_other old.degrees v u count 0 ne);
      waiting = e.pushed.waiting;
      distinct = e.pushed.distinct;
      entries = entries_of part v old.waiting waiting (vertex_at old.vertices v).slots slots count e;
      before = vertex_at old.vertices v;
      is_before = inl (lt, refl);
      grows = subst (Grows (vertex_at old.vertices v) e.pushed.more) (sym vertex_is) (record { rank = refl; missing = lacking; class = refl; slots = e.pushed.at_slots });
      counted = degree_is ∙ e.counted;
      ready = sorts.readied;
      stuck = sorts.stuck_more;
      classes = refl;
    }
      where
        vertex_is : vertex_at (set old.vertices v again) v ≡ again
        vertex_is = get_or-set_same old.vertices v again no_vertex (subst (λ n. v < n) (sym has.vertices) lt)

        degree_is : get_or (set old.degrees v count) v 0 ≡ count
        degree_is = get_or-set_same old.degrees v count 0 (subst (λ n. v < n) (sym has.degrees) lt)

-- the entry that was pushed last, of those that were pushed for a vertex
pub record IsLastPushed (slot : ℕ) (more : List Waiting) (kept slots : List ℕ) : Type 0 where
  pub front : List Waiting
  pub last : Waiting
  pub pushed : more ≡ front ++ last ∷ []
  pub at_slot : last.slot ≡ slot
  pub before : slots ≡ kept ++ map (λ w. w.slot) front

last_pushed : (vertex slot : ℕ) (old now : List Waiting) (kept slots : List ℕ) (p : Pushes vertex old now kept (slots ++ slot ∷ [])) → length kept ≤ length slots → IsLastPushed slot p.more kept slots
last_pushed vertex slot old now kept slots p le = by (from_last p.more)
  where
    from_last : (more : List Waiting) → (more ≡ []) ⊎ ((front : List Waiting) × (w : Waiting) × (more ≡ front ++ w ∷ []))
    from_last [] = inl refl
    from_last (x ∷ xs) = elim (from_last xs) [
      | inl e ↦ inr ([], x, ap (λ l. x ∷ l) e)
      | inr r ↦ inr (x ∷ r.0, r.1, ap (λ l. x ∷ l) r.2)
    ]

    longer : (k s : ℕ) → k ≤ s → s + 1 ≡ k → ⊥
    longer k s le e = omega (arith, le, e)

    too_long : p.more ≡ [] → ⊥
    too_long e = longer (length kept) (length slots) le (sym (length-append slots (slot ∷ [])) ∙ ap length p.at_slots ∙ ap (λ m. length (kept ++ map (λ w. w.slot) m)) e ∙ ap length (append-nil kept))

    by : (p.more ≡ []) ⊎ ((front : List Waiting) × (w : Waiting) × (p.more ≡ front ++ w ∷ [])) → IsLastPushed slot p.more kept slots
    by (inl e) = absurd (too_long e)
    by (inr r) = record { front = r.0; last = r.1; pushed = r.2; at_slot = same_last.1; before = same_last.0 }
      where
        slots_are : slots ++ slot ∷ [] ≡ (kept ++ map (λ w. w.slot) r.0) ++ r.1.slot ∷ []
        slots_are = p.at_slots ∙ ap (λ m. kept ++ map (λ w. w.slot) m) r.2 ∙ ap (λ l. kept ++ l) (map-append (λ w. w.slot) r.0 (r.1 ∷ [])) ∙ sym (append_assoc kept (map (λ w. w.slot) r.0) (r.1.slot ∷ []))

        same_last : (slots ≡ kept ++ map (λ w. w.slot) r.0) × (r.1.slot ≡ slot)
        same_last = let e = same_from_push slots (kept ++ map (λ w. w.slot) r.0) slot r.1.slot slots_are in (e.0, sym e.1)

-- the entry that was pushed last waits
pub last_waits : (vertex slot : ℕ) (old now : List Waiting) (kept slots : List ℕ) → Pushes vertex old now kept (slots ++ slot ∷ []) → length kept ≤ length slots → IsQueued now slot
last_waits vertex slot old now kept slots p le =
    let r = last_pushed vertex slot old now kept slots p le in
    subst (λ l. IsQueued l slot) (sym (p.waiting ∙ ap (λ m. old ++ m) r.pushed ∙ sym (append_assoc old r.front (r.last ∷ []))))
    (subst (IsQueued ((old ++ r.front) ++ r.last ∷ [])) r.at_slot (pushed_waits (old ++ r.front) r.last))

-- the entries that were pushed are taken back one by one
pub pushes_back : (vertex slot : ℕ) (old now : List Waiting) (kept slots : List ℕ) → Pushes vertex old now kept (slots ++ slot ∷ []) → length kept ≤ length slots → Pushes vertex old (taken_out now slot) kept slots
pushes_back vertex slot old now kept slots p le = record {
  more = r.front;
  waiting = back;
  distinct = subst HasDistinctSlots (sym back) (each_append_left _ (old ++ r.front) (r.last ∷ []) all_distinct);
  at_slots = r.before;
  of_vertex = all_append_left _ r.front (r.last ∷ []) (subst (AllIn (λ w. w.vertex ≡ vertex)) r.pushed p.of_vertex);
}
  where
    r : IsLastPushed slot p.more kept slots
    r = last_pushed vertex slot old now kept slots p le

    now_is : now ≡ (old ++ r.front) ++ r.last ∷ []
    now_is = p.waiting ∙ ap (λ m. old ++ m) r.pushed ∙ sym (append_assoc old r.front (r.last ∷ []))

    all_distinct : HasDistinctSlots ((old ++ r.front) ++ r.last ∷ [])
    all_distinct = subst HasDistinctSlots now_is p.distinct

    back : taken_out now slot ≡ old ++ r.front
    back = ap (λ s. taken_out now s) (sym r.at_slot) ∙ ap (λ l. taken_out l r.last.slot) now_is ∙ without_last (old ++ r.front) r.last all_distinct

-- all that was pushed was taken back
pub pushes_none : (vertex : ℕ) (old now : List Waiting) (kept slots : List ℕ) → Pushes vertex old now kept slots → length slots ≤ length kept → (now ≡ old) × (slots ≡ kept)
pushes_none vertex old now kept slots p le = by p.more p.waiting p.at_slots
  where
    too_long : (k m s : ℕ) → s ≡ k + suc m → s ≤ k → ⊥
    too_long k m s e le = omega (arith, e, le)

    by : (more : List Waiting) → now ≡ old ++ more → slots ≡ kept ++ map (λ w. w.slot) more → (now ≡ old) × (slots ≡ kept)
    by [] e f = (e ∙ append-nil old, f ∙ append-nil kept)
    by (w ∷ more) e f = absurd (too_long (length kept) (length (map (λ w. w.slot) more)) (length slots) (ap length f ∙ length-append kept (w.slot ∷ map (λ w. w.slot) more)) le)
