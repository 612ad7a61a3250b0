-- A part that is inserted leaves what is kept the graph of the longer view.
use Rattle.std.proofs.Common.{◌≡◌, ◌≢◌, ◌+◌, ◌<◌, ◌⊎◌, ◌↔◌, ◌∙◌, ℕ, suc, false, ◌==◌, if◌then◌else◌, List, []}
use Rattle.std.proofs.Common.{◌∷◌, ◌++◌, length, map, filter, get_or, take, drop, refl, sym, ap, ap₂, subst, inl, inr, eq-eqb, arith}
use Rattle.std.proofs.lemmas.List.{append-nil, append_assoc, map-append}
use Rattle.std.proofs.lemmas.List.Elements.{filter-append}
use Rattle.dt_lists.specs.Lists.{AllIn, Has, EachThen, Distinct, Either, Pairwise}
use Rattle.dt_lists.specs.Chain.{here}
use Rattle.dt_lists.proofs.Callers.{all_at, all_get, all_map, all_put, any_at, any_from_at, any_get, any_put, each_append_left, either_any, filter_none, has_last, filter_whole}
use Rattle.dt_access.specs.Orders.{AreAscendingHomes}
use Rattle.dt_access.specs.declared.TxnId.{TxnId}
use Rattle.dt_access.specs.declared.Part.{Part}
use Rattle.dt_sched.specs.Views.{View, log_at, HasPart, HasParts, IsClosed, IsComplete, IsLonger, IsPresent, IsSooner, IsWellFormed}
use Rattle.dt_sched.specs.Decide.{IsExecutable}
use Rattle.dt_sched.specs.Sched.{CanInsert, with_part}
use Rattle.dt_sched.proofs.Callers.{complete_longer, complete_of_closed, has_with_part, part_of_complete, present_longer, present_of_complete, has_id_decided, sooner_breaks_ties, with_part_longer, with_part_well_formed}
use Rattle.dt_queue.specs.Queues.{Waiting, HasDistinctSlots, neighbours}
use Rattle.dt_waits.specs.declared.open.Open.{Open}
use Rattle.dt_waits.specs.LeftInGraph.{IsLeft, IsFree, IsInResolved, IsOrderly}
use Rattle.dt_waits.specs.Waits.{id_at, AreUses, degree, is_of, others, slots_of}
use Rattle.dt_waits.specs.Graph.{GraphView, KeepsGraph, IsOpened, IsPlaceOfClass, IsStuck, IsVertexOf, lacking, vertex_at}
use Rattle.dt_waits.specs.Steps.{Inserts}
use Rattle.dt_waits.proofs.LeftTransactions.{executable_left, out_back, out_stays}
use Rattle.dt_waits.proofs.OrderlyStates.{orderly_insert}
use Rattle.dt_waits.proofs.ExecutableTest.{executable_in_resolved, executable_of_free, free_of_executable}
use Rattle.dt_waits.proofs.Uses.{part_there, uses_inserted}
use Rattle.dt_waits.proofs.NeighbourChains.{slot_other}
use Rattle.dt_waits.proofs.Degrees.{degree_pushed}
use Rattle.dt_waits.proofs.DegreeZero.{free_by_degree, id_has, same_place}
use Rattle.dt_waits.proofs.MissingParts.{all_lacking, complete_of_none, lacking_beside, lacking_less, none_lacking}

-- whether t is in a resolved class
pub in_resolved_decided : (resolved : List (List TxnId)) (t : TxnId) → Either (IsInResolved resolved t)
in_resolved_decided resolved t = either_any _ resolved (λ ids. has_id_decided ids t)

-- each of the pairs, with what is known of the first
pub pairwise_map : {A B : Type 0} (R S : A → B → Type 0) (xs : List A) (ys : List B) → ((x : A) (y : B) → Has xs x → R x y → S x y) → Pairwise R xs ys → Pairwise S xs ys
pairwise_map R S [] [] f p = tt
pairwise_map R S [] (y ∷ ys) f p = p
pairwise_map R S (x ∷ xs) [] f p = p
pairwise_map R S (x ∷ xs) (y ∷ ys) f p = (f x y (inl refl) p.0, pairwise_map R S xs ys (λ a b h r. f a b (inr h) r) p.1)

-- homes in ascending order are distinct
pub distinct_homes : (homes : List ℕ) → AreAscendingHomes homes → Distinct homes
distinct_homes [] a = tt
distinct_homes (x ∷ xs) a = (all_map _ _ xs (λ y lt e. below y lt e) a.0, distinct_homes xs a.1)
  where
    below : (y : ℕ) → x < y → x ≡ y → ⊥
    below y lt e = omega (arith, lt, e)

-- a complete id is complete by each of its parts
complete_by_part : (view : View) → IsWellFormed view → (t : TxnId) → IsComplete view t → (home : ℕ) (p : Part) → Has (log_at view home) p → p.id ≡ t → lacking view t p.homes ≡ 0
complete_by_part view well t c home p h e =
    let q : (other : ℕ) × (q : Part) × Has (log_at view other) q × (q.id ≡ t) × HasParts view q.homes t = part_of_complete view t c in
    let alike : q.1.homes ≡ p.homes = all_get _ (log_at view home) (all_get _ (log_at view q.0) (well.alike q.0 home) q.1 q.2) p h (q.3 ∙ sym e) in
    (none_lacking view t p.homes).1 (subst (λ homes. HasParts view homes t) alike q.4)

module _ (view : View) (resolved : List (List TxnId)) (done : List TxnId) (part : Part) (k : IsOrderly view resolved done) (can : CanInsert view part) (ascending : AreAscendingHomes part.homes) where
  abbrev Longer : View
  Longer = with_part view part

  longer : IsLonger view Longer
  longer = with_part_longer view part

  well : IsWellFormed Longer
  well = with_part_well_formed view part k.sound.well_formed can

  kl : IsOrderly Longer resolved done
  kl = orderly_insert view resolved done part can k

  -- a part of the same id that is there names the same homes, and has the same rank
  alike : (home : ℕ) (p : Part) → Has (log_at view home) p → p.id ≡ part.id → p.homes ≡ part.homes
  alike home p h e = all_get (λ p. p.id ≡ part.id → p.homes ≡ part.homes) (log_at view home) (all_at _ [] view home tt can.alike) p h e

  ranked : (home : ℕ) (p : Part) → Has (log_at view home) p → p.id ≡ part.id → p.rank ≡ part.rank
  ranked home p h e = all_get (λ p. p.id ≡ part.id → p.rank ≡ part.rank) (log_at view home) (all_at _ [] view home tt can.ranked) p h e

  -- the transaction wasn't complete, so it is neither done nor in a resolved class
  incomplete : ¬ (IsComplete view part.id)
  incomplete c =
      let q : (other : ℕ) × (q : Part) × Has (log_at view other) q × (q.id ≡ part.id) × HasParts view q.homes part.id = part_of_complete view part.id c in
      can.fresh (all_get (λ h. HasPart (log_at view h) part.id) q.1.homes q.4 part.home (subst (λ homes. Has homes part.home) (sym (alike q.0 q.1 q.2 q.3)) can.homed))

  not_done : ¬ (Has done part.id)
  not_done d = incomplete (complete_of_closed view part.id (all_get (IsClosed view) done k.sound.done_closed part.id d))

  not_resolved : ¬ (IsInResolved resolved part.id)
  not_resolved a =
      let r : (ids : List TxnId) × Has resolved ids × Has ids part.id = any_get _ resolved a in
      incomplete (complete_of_closed view part.id (all_get (IsClosed view) r.0 (all_get _ resolved k.sound.resolved_closed r.0 r.1) part.id r.2))

  present_part : IsPresent Longer part.id
  present_part = any_from_at (λ log. HasPart log part.id) [] Longer part.home (λ e. e)
      (any_put (λ p. p.id ≡ part.id) (log_at Longer part.home) part (subst (λ log. Has log part) (sym (part_there view part can)) (has_last (log_at view part.home) part)) refl)

  present_at : (home : ℕ) (p : Part) → Has (log_at view home) p → IsPresent view p.id
  present_at home p h = any_from_at (λ log. HasPart log p.id) [] view home (λ e. e) (any_put _ (log_at view home) p h refl)

  present_back : (t : TxnId) → IsPresent Longer t → IsPresent view t ⊎ (t ≡ part.id)
  present_back t h =
      let r : (home : ℕ) × (home < length Longer) × HasPart (log_at Longer home) t = any_at _ [] Longer h in
      let p : (p : Part) × Has (log_at Longer r.0) p × (p.id ≡ t) = any_get _ (log_at Longer r.0) r.2 in
      elim (has_with_part view part r.0 p.0 p.1) [ inl e ↦ inr (sym p.2 ∙ ap (λ q. q.id) e) | inr o ↦ inl (subst (IsPresent view) p.2 (present_at r.0 p.0 o)) ]

  -- what is left stays left, and nothing else becomes so but the part's transaction

  left_longer : (t : TxnId) → IsLeft view done t → IsLeft Longer done t
  left_longer t l = (present_longer view Longer longer t l.0, λ o. l.1 (out_back view Longer longer well done t o))

  left_back : (t : TxnId) → IsPresent view t → IsLeft Longer done t → IsLeft view done t
  left_back t p l = (p, λ o. l.1 (out_stays view Longer longer well done done t k.sound.done_closed (within_self done) o))
    where
      within_self : (xs : List TxnId) → AllIn (Has xs) xs
      within_self xs = all_put (Has xs) xs (λ x h. h)

  left_part : IsLeft Longer done part.id
  left_part = (present_part, λ o. not_done (o part.id here))

  -- what has another id is complete as before
  complete_back : (t : TxnId) → t ≢ part.id → IsComplete Longer t → IsComplete view t
  complete_back t ne c =
      let q : (home : ℕ) × (q : Part) × Has (log_at Longer home) q × (q.id ≡ t) × HasParts Longer q.homes t = part_of_complete Longer t c in
      elim (has_with_part view part q.0 q.1 q.2) [
        | inl e ↦ absurd (ne (sym q.3 ∙ ap (λ p. p.id) e))
        | inr o ↦ complete_of_none view t q.0 q.1 o q.3 (sym (lacking_beside view part can t q.1.homes ne) ∙ (none_lacking Longer t q.1.homes).1 q.4)
      ]

  -- members of a resolved class are as soon as before
  sooner_same : (ids : List TxnId) (u t : TxnId) → Has resolved ids → Has ids u → Has ids t → IsSooner view u t ↔ IsSooner Longer u t
  sooner_same ids u t h hu ht = sooner_breaks_ties.alike view Longer longer well u t (there u hu) (there t ht)
    where
      there : (x : TxnId) → Has ids x → IsPresent view x
      there x m = present_of_complete view x (complete_of_closed view x (all_get (IsClosed view) ids (all_get _ resolved k.sound.resolved_closed ids h) x m))

  -- where the transaction has a vertex, this lacks some part
  pub missing_before : (old : GraphView) → KeepsGraph view resolved done old → (v : ℕ) → v < length old.ids → id_at old.ids v ≡ part.id → 0 < (vertex_at old.vertices v).missing
  missing_before old g v lt named =
      let at : (home : ℕ) × (home < length view) × HasPart (log_at view home) (id_at old.ids v) = any_at _ [] view ((g.present (id_at old.ids v)).0 (id_has old.ids v lt)) in
      let p : (p : Part) × Has (log_at view at.0) p × (p.id ≡ id_at old.ids v) = any_get _ (log_at view at.0) at.2 in
      let e : (vertex_at old.vertices v).missing ≡ lacking view part.id part.homes =
      (g.kept v lt).missing at.0 p.0 p.1 p.2 ∙ ap (λ t. lacking view t p.0.homes) named ∙ ap (lacking view part.id) (alike at.0 p.0 p.1 (p.2 ∙ named)) in
      some_missing _ _ _ e (lacking_less view part can part.homes (distinct_homes part.homes ascending) can.homed)
    where
      some_missing : (m l n : ℕ) → m ≡ l → l ≡ suc n → 0 < m
      some_missing m l n e f = omega (arith, e, f)

  -- and its degree is counted, since it is left
  pub counted_before : (old : GraphView) → KeepsGraph view resolved done old → (v : ℕ) → v < length old.ids → id_at old.ids v ≡ part.id → get_or old.degrees v 0 ≡ degree old.waiting v
  counted_before old g v lt named =
      g.counts v lt (left_back (id_at old.ids v) ((g.present (id_at old.ids v)).0 (id_has old.ids v lt)) (subst (IsLeft Longer done) (sym named) left_part))

  module _ (v : ℕ) (more : List Waiting) (old new : GraphView) (g : KeepsGraph view resolved done old) (i : Inserts part v more old new) where
    -- the entries

    uses : AreUses Longer done new.ids new.waiting
    uses = subst (AreUses Longer done new.ids) (sym i.waiting)
        (uses_inserted view done old.ids old.waiting part k.sound.well_formed can g.uses new.ids v more i.kept i.within i.named (subst HasDistinctSlots i.waiting i.distinct)
        i.entries.of_part i.entries.all_uses left_longer left_back left_part)

    -- another vertex is of another transaction, which was there
    other_id : (u : ℕ) → u < length new.ids → u ≢ v → id_at new.ids u ≢ part.id
    other_id u lt ne e = ne (same_place new.ids u v i.once lt i.within (e ∙ sym i.named))

    same_id_of : (u : ℕ) → u < length new.ids → u ≢ v → id_at new.ids u ≡ id_at old.ids u
    same_id_of u lt ne = (i.kept u (i.others u lt ne).0).1

    present_other : (u : ℕ) → u < length new.ids → u ≢ v → IsPresent view (id_at new.ids u)
    present_other u lt ne = subst (IsPresent view) (sym (same_id_of u lt ne)) ((g.present (id_at old.ids u)).0 (id_has old.ids u (i.others u lt ne).0))

    -- the vertices

    vertex_other : (u : ℕ) → u < length new.ids → u ≢ v → IsVertexOf Longer resolved (id_at new.ids u) (vertex_at new.vertices u)
    vertex_other u lt ne = subst (IsVertexOf Longer resolved (id_at new.ids u)) (sym (i.others u lt ne).1) (record {
      rank = λ home p h e. was.rank home p (old_part home p h e) e;
      missing = λ home p h e. was.missing home p (old_part home p h e) e ∙ sym (lacking_beside view part can (id_at new.ids u) p.homes (other_id u lt ne));
      class = was.class;
    })
      where
        was : IsVertexOf view resolved (id_at new.ids u) (vertex_at old.vertices u)
        was = subst (λ t. IsVertexOf view resolved t (vertex_at old.vertices u)) (sym (same_id_of u lt ne)) (g.kept u (i.others u lt ne).0)

        old_part : (home : ℕ) (p : Part) → Has (log_at Longer home) p → p.id ≡ id_at new.ids u → Has (log_at view home) p
        old_part home p h e = elim (has_with_part view part home p h) [ inl s ↦ absurd (other_id u lt ne (sym e ∙ ap (λ q. q.id) s)) | inr o ↦ o ]

    -- what was known of the part's vertex before
    before_rank : i.before.rank ≡ part.rank
    before_rank = elim i.is_before [
      | inl b ↦ kept_rank b.0 b.1
      | inr f ↦ ap (λ x. x.rank) f.2
    ]
      where
        kept_rank : v < length old.ids → i.before ≡ vertex_at old.vertices v → i.before.rank ≡ part.rank
        kept_rank lt e =
            let named : id_at old.ids v ≡ part.id = sym (i.kept v lt).1 ∙ i.named in
            let at : (home : ℕ) × (home < length view) × HasPart (log_at view home) (id_at old.ids v) = any_at _ [] view ((g.present (id_at old.ids v)).0 (id_has old.ids v lt)) in
            let p : (p : Part) × Has (log_at view at.0) p × (p.id ≡ id_at old.ids v) = any_get _ (log_at view at.0) at.2 in
            ap (λ x. x.rank) e ∙ (g.kept v lt).rank at.0 p.0 p.1 p.2 ∙ ranked at.0 p.0 p.1 (p.2 ∙ named)

    before_missing : i.before.missing ≡ lacking view part.id part.homes
    before_missing = elim i.is_before [
      | inl b ↦ kept_missing b.0 b.1
      | inr f ↦ ap (λ x. x.missing) f.2 ∙ sym (all_lacking view part.id part.homes (λ home h. f.1 ((g.present part.id).1 (any_from_at (λ log. HasPart log part.id) [] view home (λ e. e) h))))
    ]
      where
        kept_missing : v < length old.ids → i.before ≡ vertex_at old.vertices v → i.before.missing ≡ lacking view part.id part.homes
        kept_missing lt e =
            let named : id_at old.ids v ≡ part.id = sym (i.kept v lt).1 ∙ i.named in
            let at : (home : ℕ) × (home < length view) × HasPart (log_at view home) (id_at old.ids v) = any_at _ [] view ((g.present (id_at old.ids v)).0 (id_has old.ids v lt)) in
            let p : (p : Part) × Has (log_at view at.0) p × (p.id ≡ id_at old.ids v) = any_get _ (log_at view at.0) at.2 in
            ap (λ x. x.missing) e ∙ (g.kept v lt).missing at.0 p.0 p.1 p.2 ∙ ap (λ t. lacking view t p.0.homes) named ∙ ap (lacking view part.id) (alike at.0 p.0 p.1 (p.2 ∙ named))

    before_class : IsPlaceOfClass resolved part.id i.before.class
    before_class = elim i.is_before [
      | inl b ↦ subst (λ x. IsPlaceOfClass resolved part.id x.class) (sym b.1) (subst (λ t. IsPlaceOfClass resolved t (vertex_at old.vertices v).class) (sym (i.kept v b.0).1 ∙ i.named) (g.kept v b.0).class)
      | inr f ↦ subst (λ x. IsPlaceOfClass resolved part.id x.class) (sym f.2) not_resolved
    ]

    part_missing : (vertex_at new.vertices v).missing ≡ lacking Longer part.id part.homes
    part_missing = one_less _ _ _ _ i.grows.missing before_missing (lacking_less view part can part.homes (distinct_homes part.homes ascending) can.homed)
      where
        one_less : (y x l m : ℕ) → suc y ≡ x → x ≡ l → l ≡ suc m → y ≡ m
        one_less y x l m e f h = omega (arith, e, f, h)

    vertex_part : IsVertexOf Longer resolved part.id (vertex_at new.vertices v)
    vertex_part = record {
      rank = λ home p h e. i.grows.rank ∙ before_rank ∙ elim (has_with_part view part home p h) [ inl s ↦ sym (ap (λ q. q.rank) s) | inr o ↦ sym (ranked home p o e) ];
      missing = λ home p h e. part_missing ∙ ap (lacking Longer part.id) (elim (has_with_part view part home p h) [ inl s ↦ sym (ap (λ q. q.homes) s) | inr o ↦ sym (alike home p o e) ]);
      class = subst (IsPlaceOfClass resolved part.id) (sym i.grows.class) before_class;
    }

    at_or_other : (u : ℕ) → (u ≡ v) ⊎ (u ≢ v)
    at_or_other u = grind arith

    kept_vertices : (u : ℕ) → u < length new.ids → IsVertexOf Longer resolved (id_at new.ids u) (vertex_at new.vertices u)
    kept_vertices u lt = elim (at_or_other u) [
      | inl e ↦ subst (λ u. IsVertexOf Longer resolved (id_at new.ids u) (vertex_at new.vertices u)) (sym e) (subst (λ t. IsVertexOf Longer resolved t (vertex_at new.vertices v)) (sym i.named) vertex_part)
      | inr ne ↦ vertex_other u lt ne
    ]

    -- the entries of each vertex

    slots_joined : (u : ℕ) → slots_of new.waiting u ≡ slots_of old.waiting u ++ map (λ w. w.slot) (filter (is_of u) more)
    slots_joined u = ap (λ l. slots_of l u) i.waiting ∙ ap (map (λ w. w.slot)) (filter-append (is_of u) old.waiting more) ∙ map-append (λ w. w.slot) (filter (is_of u) old.waiting) (filter (is_of u) more)

    left_other : (u : ℕ) → (lt : u < length new.ids) → (ne : u ≢ v) → IsLeft Longer done (id_at new.ids u) → IsLeft view done (id_at old.ids u)
    left_other u lt ne l = subst (IsLeft view done) (same_id_of u lt ne) (left_back (id_at new.ids u) (present_other u lt ne) l)

    left_before : (lt : v < length old.ids) → IsLeft view done (id_at old.ids v)
    left_before lt = left_back (id_at old.ids v) ((g.present (id_at old.ids v)).0 (id_has old.ids v lt)) (subst (IsLeft Longer done) (sym i.named ∙ (i.kept v lt).1) left_part)

    none_of_new : v ≡ length old.ids → AllIn (λ w. is_of v w ≡ false) old.waiting
    none_of_new e = all_map _ _ old.waiting (λ w lt. slot_other w.vertex v (above w.vertex lt)) g.uses.vertices
      where
        above : (x : ℕ) → x < length old.ids → x ≢ v
        above x lt s = omega (arith, lt, s, e)

    kept_slots : (u : ℕ) → u < length new.ids → IsLeft Longer done (id_at new.ids u) → (vertex_at new.vertices u).slots ≡ slots_of new.waiting u
    kept_slots u lt l = elim (at_or_other u) [
      | inl e ↦ subst (λ u. (vertex_at new.vertices u).slots ≡ slots_of new.waiting u) (sym e) of_part
      | inr ne ↦ ap (λ x. x.slots) (i.others u lt ne).1 ∙ g.slots u (i.others u lt ne).0 (left_other u lt ne l) ∙ sym (append-nil (slots_of old.waiting u))
          ∙ ap (λ l. slots_of old.waiting u ++ map (λ w. w.slot) l) (sym (none ne)) ∙ sym (slots_joined u)
    ]
      where
        none : u ≢ v → filter (is_of u) more ≡ []
        none ne = filter_none (is_of u) more (all_map _ _ more (λ w f. slot_other w.vertex u (λ e. ne (sym e ∙ f.1))) i.entries.of_part)

        whole : filter (is_of v) more ≡ more
        whole = filter_whole (is_of v) more (all_map _ _ more (λ w f. eq-eqb w.vertex v f.1) i.entries.of_part)

        was : i.before.slots ≡ slots_of old.waiting v
        was = elim i.is_before [
          | inl b ↦ ap (λ x. x.slots) b.1 ∙ g.slots v b.0 (left_before b.0)
          | inr f ↦ ap (λ x. x.slots) f.2 ∙ ap (map (λ w. w.slot)) (sym (filter_none (is_of v) old.waiting (none_of_new f.0)))
        ]

        of_part : (vertex_at new.vertices v).slots ≡ slots_of new.waiting v
        of_part = i.grows.slots ∙ ap (λ l. l ++ map (λ w. w.slot) more) was ∙ ap (λ l. slots_of old.waiting v ++ map (λ w. w.slot) l) (sym whole) ∙ sym (slots_joined v)

    -- the degrees

    degree_beside : (u : ℕ) → u ≢ v → (waiting entries : List Waiting) → HasDistinctSlots (waiting ++ entries) → AllIn (λ w. w.vertex ≡ v) entries → degree (waiting ++ entries) u ≡ degree waiting u
    degree_beside u ne waiting [] d all = ap (λ l. degree l u) (append-nil waiting)
    degree_beside u ne waiting (w ∷ entries) d all =
        ap (λ l. degree l u) joined
        ∙ degree_beside u ne (waiting ++ w ∷ []) entries split all.1
        ∙ degree_pushed waiting w u (each_append_left _ (waiting ++ w ∷ []) entries split)
        ∙ none_more
      where
        joined : waiting ++ (w ∷ entries) ≡ waiting ++ w ∷ [] ++ entries
        joined = sym (append_assoc waiting (w ∷ []) entries)

        split : HasDistinctSlots (waiting ++ w ∷ [] ++ entries)
        split = subst HasDistinctSlots joined d

        none_more : degree waiting u + (if w.vertex == u then length (others u (neighbours (waiting ++ w ∷ []) w.slot)) else 0) ≡ degree waiting u
        none_more = rw (slot_other w.vertex u (λ e. ne (sym e ∙ all.0))) (zero_more (degree waiting u))
          where
            zero_more : (n : ℕ) → n + 0 ≡ n
            zero_more n = omega arith

    degree_same : (u : ℕ) → u ≢ v → degree new.waiting u ≡ degree old.waiting u
    degree_same u ne = ap (λ l. degree l u) i.waiting ∙ degree_beside u ne old.waiting more (subst HasDistinctSlots i.waiting i.distinct) (all_map _ _ more (λ w f. f.1) i.entries.of_part)

    kept_counts : (u : ℕ) → u < length new.ids → IsLeft Longer done (id_at new.ids u) → get_or new.degrees u 0 ≡ degree new.waiting u
    kept_counts u lt l = elim (at_or_other u) [
      | inl e ↦ subst (λ u. get_or new.degrees u 0 ≡ degree new.waiting u) (sym e) i.counted
      | inr ne ↦ (i.others u lt ne).2 ∙ g.counts u (i.others u lt ne).0 (left_other u lt ne l) ∙ sym (degree_same u ne)
    ]

    -- what is executable and what is stuck

    free_other : (u : ℕ) → u < length new.ids → u ≢ v → IsFree Longer done (id_at new.ids u) ↔ IsFree view done (id_at new.ids u)
    free_other u lt ne = (
      λ f. subst (IsFree view done) (sym (same_id_of u lt ne)) (was.0 (sym (degree_same u ne) ∙ now.1 f)),
      λ f. now.0 (degree_same u ne ∙ was.1 (subst (IsFree view done) (same_id_of u lt ne) f)),
    )
      where
        now : (degree new.waiting u ≡ 0) ↔ IsFree Longer done (id_at new.ids u)
        now = free_by_degree Longer done new.ids new.waiting well uses i.once u lt

        was : (degree old.waiting u ≡ 0) ↔ IsFree view done (id_at old.ids u)
        was = free_by_degree view done old.ids old.waiting k.sound.well_formed g.uses g.once u (i.others u lt ne).0

    executable_other : (u : ℕ) → u < length new.ids → u ≢ v → IsExecutable Longer resolved done (id_at new.ids u) ↔ IsExecutable view resolved done (id_at new.ids u)
    executable_other u lt ne = by (in_resolved_decided resolved (id_at new.ids u))
      where
        t : TxnId
        t = id_at new.ids u

        by : Either (IsInResolved resolved (id_at new.ids u)) → IsExecutable Longer resolved done (id_at new.ids u) ↔ IsExecutable view resolved done (id_at new.ids u)
        by (inl a) =
            let r : (ids : List TxnId) × Has resolved ids × Has ids (id_at new.ids u) = any_get _ resolved a in
            let now = executable_in_resolved Longer resolved done kl (id_at new.ids u) r.0 r.1 r.2 in
            let was = executable_in_resolved view resolved done k (id_at new.ids u) r.0 r.1 r.2 in (
              λ x. let f = now.0 x in was.1 (f.0, λ w h s. f.1 w h ((sooner_same r.0 w (id_at new.ids u) r.1 h r.2).0 s)),
              λ x. let f = was.0 x in now.1 (f.0, λ w h s. f.1 w h ((sooner_same r.0 w (id_at new.ids u) r.1 h r.2).1 s)),
            )
        by (inr apart) = (
          λ x. let f : IsComplete Longer (id_at new.ids u) × IsFree Longer done (id_at new.ids u) = free_of_executable Longer resolved done kl (id_at new.ids u) apart x in
              executable_of_free view resolved done k (id_at new.ids u) (left_back (id_at new.ids u) (present_other u lt ne) (executable_left Longer resolved done (id_at new.ids u) x)) apart
              (complete_back (id_at new.ids u) (other_id u lt ne) f.0) ((free_other u lt ne).0 f.1),
          λ x. let f : IsComplete view (id_at new.ids u) × IsFree view done (id_at new.ids u) = free_of_executable view resolved done k (id_at new.ids u) apart x in
              executable_of_free Longer resolved done kl (id_at new.ids u) (left_longer (id_at new.ids u) (executable_left view resolved done (id_at new.ids u) x)) apart
              (complete_longer view Longer longer (id_at new.ids u) f.0) ((free_other u lt ne).1 f.1),
        )

    part_at_home : Has (log_at Longer part.home) part
    part_at_home = subst (λ log. Has log part) (sym (part_there view part can)) (has_last (log_at view part.home) part)

    complete_part : ((vertex_at new.vertices v).missing ≡ 0) ↔ IsComplete Longer part.id
    complete_part = (
      λ z. complete_of_none Longer part.id part.home part part_at_home refl (sym part_missing ∙ z),
      λ c. part_missing ∙ complete_by_part Longer well part.id c part.home part part_at_home refl,
    )

    free_part : (get_or new.degrees v 0 ≡ 0) ↔ IsFree Longer done part.id
    free_part = (
      λ z. subst (IsFree Longer done) i.named (now.0 (sym i.counted ∙ z)),
      λ f. i.counted ∙ now.1 (subst (IsFree Longer done) (sym i.named) f),
    )
      where
        now : (degree new.waiting v ≡ 0) ↔ IsFree Longer done (id_at new.ids v)
        now = free_by_degree Longer done new.ids new.waiting well uses i.once v i.within

    not_ready_before : (v < length old.ids) × IsExecutable view resolved done (id_at old.ids v) → ⊥
    not_ready_before r = incomplete (subst (IsComplete view) (sym (i.kept v r.0).1 ∙ i.named) (complete_of_closed view (id_at old.ids v) r.1.closed))

    not_stuck_before : (v < length old.ids) × IsStuck view resolved done (id_at old.ids v) → ⊥
    not_stuck_before r = incomplete (subst (IsComplete view) (sym (i.kept v r.0).1 ∙ i.named) r.1.complete)

    kept_ready : (u : ℕ) → Has new.ready u ↔ (u < length new.ids) × IsExecutable Longer resolved done (id_at new.ids u)
    kept_ready u = (λ h. elim ((i.ready u).0 h) [ inl o ↦ was o | inr p ↦ now p.0 p.1 p.2 ], λ r. (i.ready u).1 (elim (at_or_other u) [ inl e ↦ inr (is_part e r) | inr ne ↦ inl (is_other ne r) ]))
      where
        was : Has old.ready u → (u < length new.ids) × IsExecutable Longer resolved done (id_at new.ids u)
        was h =
            let r : (u < length old.ids) × IsExecutable view resolved done (id_at old.ids u) = (g.ready u).0 h in
            elim (at_or_other u) [
              | inl e ↦ absurd (not_ready_before (subst (λ u. (u < length old.ids) × IsExecutable view resolved done (id_at old.ids u)) e r))
              | inr ne ↦ ((i.kept u r.0).0, (executable_other u (i.kept u r.0).0 ne).1 (subst (IsExecutable view resolved done) (sym (i.kept u r.0).1) r.1))
            ]

        now : u ≡ v → (vertex_at new.vertices v).missing ≡ 0 → get_or new.degrees v 0 ≡ 0 → (u < length new.ids) × IsExecutable Longer resolved done (id_at new.ids u)
        now e z d = subst (λ u. (u < length new.ids) × IsExecutable Longer resolved done (id_at new.ids u)) (sym e) (
          i.within,
          subst (IsExecutable Longer resolved done) (sym i.named) (executable_of_free Longer resolved done kl part.id left_part not_resolved (complete_part.0 z) (free_part.0 d)),
        )

        is_part : u ≡ v → (u < length new.ids) × IsExecutable Longer resolved done (id_at new.ids u) → (u ≡ v) × ((vertex_at new.vertices v).missing ≡ 0) × (get_or new.degrees v 0 ≡ 0)
        is_part e r =
            let f : IsComplete Longer part.id × IsFree Longer done part.id = free_of_executable Longer resolved done kl part.id not_resolved (subst (IsExecutable Longer resolved done) (ap (id_at new.ids) e ∙ i.named) r.1) in
            (e, complete_part.1 f.0, free_part.1 f.1)

        is_other : u ≢ v → (u < length new.ids) × IsExecutable Longer resolved done (id_at new.ids u) → Has old.ready u
        is_other ne r = (g.ready u).1 ((i.others u r.0 ne).0, subst (IsExecutable view resolved done) (same_id_of u r.0 ne) ((executable_other u r.0 ne).0 r.1))

    kept_stuck : (u : ℕ) → Has new.stuck u ↔ (u < length new.ids) × IsStuck Longer resolved done (id_at new.ids u)
    kept_stuck u = (λ h. elim ((i.stuck u).0 h) [ inl o ↦ was o | inr p ↦ now p.0 p.1 p.2 ], λ r. (i.stuck u).1 (elim (at_or_other u) [ inl e ↦ inr (is_part e r) | inr ne ↦ inl (is_other ne r) ]))
      where
        was : Has old.stuck u → (u < length new.ids) × IsStuck Longer resolved done (id_at new.ids u)
        was h =
            let r : (u < length old.ids) × IsStuck view resolved done (id_at old.ids u) = (g.stuck u).0 h in
            elim (at_or_other u) [
              | inl e ↦ absurd (not_stuck_before (subst (λ u. (u < length old.ids) × IsStuck view resolved done (id_at old.ids u)) e r))
              | inr ne ↦
                  let s : IsStuck view resolved done (id_at new.ids u) = subst (IsStuck view resolved done) (sym (i.kept u r.0).1) r.1 in (
                    (i.kept u r.0).0,
                    record {
                      left = left_longer (id_at new.ids u) s.left;
                      complete = complete_longer view Longer longer (id_at new.ids u) s.complete;
                      apart = s.apart;
                      waits = λ f. s.waits ((free_other u (i.kept u r.0).0 ne).0 f);
                    },
                  )
            ]

        now : u ≡ v → (vertex_at new.vertices v).missing ≡ 0 → get_or new.degrees v 0 ≢ 0 → (u < length new.ids) × IsStuck Longer resolved done (id_at new.ids u)
        now e z d = subst (λ u. (u < length new.ids) × IsStuck Longer resolved done (id_at new.ids u)) (sym e) (
          i.within,
          subst (IsStuck Longer resolved done) (sym i.named) (record { left = left_part; complete = complete_part.0 z; apart = not_resolved; waits = λ f. d (free_part.1 f) }),
        )

        is_part : u ≡ v → (u < length new.ids) × IsStuck Longer resolved done (id_at new.ids u) → (u ≡ v) × ((vertex_at new.vertices v).missing ≡ 0) × (get_or new.degrees v 0 ≢ 0)
        is_part e r =
            let s : IsStuck Longer resolved done part.id = subst (IsStuck Longer resolved done) (ap (id_at new.ids) e ∙ i.named) r.1 in
            (e, complete_part.1 s.complete, λ d. s.waits (free_part.0 d))

        is_other : u ≢ v → (u < length new.ids) × IsStuck Longer resolved done (id_at new.ids u) → Has old.stuck u
        is_other ne r = (g.stuck u).1 (
          (i.others u r.0 ne).0,
          subst (IsStuck view resolved done) (same_id_of u r.0 ne) (record {
            left = left_back (id_at new.ids u) (present_other u r.0 ne) r.1.left;
            complete = complete_back (id_at new.ids u) (other_id u r.0 ne) r.1.complete;
            apart = r.1.apart;
            waits = λ f. r.1.waits ((free_other u r.0 ne).1 f);
          }),
        )

    -- the classes

    ids_same : (vs : List ℕ) → AllIn (λ u. u < length old.ids) vs → map (id_at new.ids) vs ≡ map (id_at old.ids) vs
    ids_same [] all = refl
    ids_same (u ∷ vs) all = ap₂ ◌∷◌ (i.kept u all.0).1 (ids_same vs all.1)

    opened : (ids : List TxnId) (o : Open) → Has resolved ids → IsOpened view done old.ids ids o → IsOpened Longer done new.ids ids o
    opened ids o h x = record {
      within = all_map _ _ o.members (λ u lt. (i.kept u lt).0) x.within;
      ordered = subst (EachThen (IsSooner Longer)) (sym (ids_same o.members x.within)) (each_longer (map (id_at old.ids) o.members) (λ t m. (x.members t).0 m) x.ordered);
      members = λ t. subst (λ l. Has l t ↔ Has ids t) (sym (ids_same o.members x.within)) (x.members t);
      next_in = x.next_in;
      front_done = subst (λ l. AllIn (Has done) (take o.next l)) (sym (ids_same o.members x.within)) x.front_done;
      rest_waits = subst (λ l. AllIn (λ t. ¬ (Has done t)) (drop o.next l)) (sym (ids_same o.members x.within)) x.rest_waits;
    }
      where
        each_longer : (ts : List TxnId) → ((t : TxnId) → Has ts t → Has ids t) → EachThen (IsSooner view) ts → EachThen (IsSooner Longer) ts
        each_longer [] among each = tt
        each_longer (t ∷ ts) among each = (all_put _ ts (λ u m. (sooner_same ids t u h (among t (inl refl)) (among u (inr m))).0 (all_get _ ts each.0 u m)), each_longer ts (λ u m. among u (inr m)) each.1)

    pub inserted : KeepsGraph Longer resolved done new
    inserted = record {
      once = i.once;
      present = λ t. (
        λ h. elim ((i.ids t).0 h) [ inl o ↦ present_longer view Longer longer t ((g.present t).0 o) | inr e ↦ subst (IsPresent Longer) (sym e) present_part ],
        λ p. (i.ids t).1 (elim (present_back t p) [ inl o ↦ inl ((g.present t).1 o) | inr e ↦ inr e ]),
      );
      vertices = i.vertices;
      degrees = i.degrees;
      kept = kept_vertices;
      uses = uses;
      slots = kept_slots;
      counts = kept_counts;
      ready = kept_ready;
      stuck = kept_stuck;
      classes = subst (Pairwise (IsOpened Longer done new.ids) resolved) (sym i.classes) (pairwise_map (IsOpened view done old.ids) (IsOpened Longer done new.ids) resolved old.classes (λ ids o h x. opened ids o h x) g.classes);
    }
