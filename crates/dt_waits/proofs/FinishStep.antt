-- An id that is done leaves what is kept the graph of the view with that id done: where its vertex leaves, where another
-- member of its class is ready now, and where its class leaves.
use Rattle.std.proofs.Common.{◌≡◌, ◌≢◌, ◌+◌, ◌<◌, ◌≤◌, ◌⊎◌, ◌↔◌, ◌∙◌, ℕ, zero, suc, false, not, List, [], ◌∷◌, ◌++◌, length, map}
use Rattle.std.proofs.Common.{filter, get_or, take, drop, slice_get, Some, refl, sym, ap, subst, inl, inr, arith}
use Rattle.std.proofs.lemmas.Bool.{false_from_ne_true}
use Rattle.std.proofs.lemmas.List.{length-map, take_all}
use Rattle.std.proofs.lemmas.Option.{slice_get_within}
use Rattle.dt_lists.specs.Lists.{AllIn, Has, Distinct, Either, Pairwise}
use Rattle.dt_lists.proofs.Callers.{all_get, all_map, all_put, any_get, any_put, either_has, either_nat, has_longer, has_last, has_more, has_map, has_place, each_map, each_of_image}
use Rattle.dt_lists.proofs.Callers.{filter_whole}
use Rattle.dt_lists.proofs.Callers.{has_dropped}
use Rattle.dt_lists.proofs.Callers.{one_place}
use Rattle.dt_lists.proofs.Callers.{some_same}
use Rattle.dt_access.specs.declared.TxnId.{TxnId}
use Rattle.dt_sched.specs.Views.{View, IsComplete, IsSooner}
use Rattle.dt_sched.specs.Decide.{IsExecutable}
use Rattle.dt_sched.proofs.Callers.{class_unique, has_id_decided, sooner_breaks_ties}
use Rattle.dt_waits.specs.declared.open.Open.{Open}
use Rattle.dt_waits.specs.LeftInGraph.{IsLeft, IsOut, IsFree, IsInResolved, IsOrderly}
use Rattle.dt_waits.specs.Waits.{id_at, AreUses, IsFollowed, degree, is_leaving}
use Rattle.dt_waits.specs.Graph.{GraphView, KeepsGraph, IsOpened, IsStuck}
use Rattle.dt_waits.specs.Steps.{FinishesAlone, FinishesBefore, FinishesLast, Leaves, one_done, with_one_done}
use Rattle.dt_waits.proofs.LeftTransactions.{executable_left, class_of_resolved}
use Rattle.dt_waits.proofs.WhatLeaves.{leaves_alone, leaves_with_class, nothing_leaves}
use Rattle.dt_waits.proofs.OrderlyStates.{orderly_finish}
use Rattle.dt_waits.proofs.ExecutableTest.{executable_in_resolved, executable_of_free, free_of_executable}
use Rattle.dt_waits.proofs.DegreeZero.{free_by_degree, same_place}
use Rattle.dt_waits.proofs.InsertStep.{in_resolved_decided, pairwise_map}
use Rattle.dt_waits.proofs.EntriesThatStay.{degrees_together, followed_of_lowered, free_together, leaving_has, left_vertex, slots_together, uses_together}
use Rattle.dt_waits.proofs.RunInOrder.{front_longer, next_of_soonest, pairwise_get, pairwise_set, rest_shorter, sooner_of_next, waits_of_next}

mapped_get : {A B : Type 0} (f : A → B) (xs : List A) (i : ℕ) (x : A) → slice_get xs i ≡ Some x → slice_get (map f xs) i ≡ Some (f x)
mapped_get f [] i x e = cc
mapped_get f (y ∷ ys) zero x e = let s : y ≡ x = cc in ap (λ z. Some (f z)) s
mapped_get f (y ∷ ys) (suc i) x e = mapped_get f ys i x e

-- nothing leaves
leaves_none : (g : GraphView) → Leaves [] g g
leaves_none g = record {
  ids = refl;
  vertices = refl;
  size = refl;
  degrees = λ v lt. none_more (get_or g.degrees v 0);
  waiting = sym (filter_whole (λ w. not (is_leaving [] w.vertex)) g.waiting (all_put _ g.waiting (λ w h. refl)));
  ready = λ v. (λ h. inl h, λ s. elim s [ inl h ↦ h | inr r ↦ absurd r.2 ]);
  stuck = λ v. ((λ h. (h, λ r. r.1)), λ r. r.0);
  classes = refl;
}
  where
    none_more : (n : ℕ) → n ≡ n + 0
    none_more n = omega arith

module _ (view : View) (resolved : List (List TxnId)) (done : List TxnId) (t : TxnId) (k : IsOrderly view resolved done) (x : IsExecutable view resolved done t) where
  abbrev Later : List TxnId
  Later = done ++ t ∷ []

  kl : IsOrderly view resolved Later
  kl = orderly_finish view resolved done t x k

  -- what else is executable stays so
  executable_still : (u : TxnId) → IsExecutable view resolved done u → u ≢ t → IsExecutable view resolved Later u
  executable_still u y ne = record {
    closed = y.closed;
    waiting = λ d. elim (has_more done t u d) [ inl o ↦ y.waiting o | inr e ↦ ne (sym e) ];
    preceders = λ w p. has_longer done (t ∷ []) w (y.preceders w p);
    settled = y.settled;
  }

  it_isnt : (u : TxnId) → IsExecutable view resolved Later u → u ≢ t
  it_isnt u y e = y.waiting (subst (Has Later) (sym e) (has_last done t))

  -- in a class that t isn't in, what is executable was executable
  executable_beside : (ids : List TxnId) (u : TxnId) → Has resolved ids → Has ids u → ¬ (Has ids t) → IsExecutable view resolved Later u → IsExecutable view resolved done u
  executable_beside ids u h m n y =
      let f = (executable_in_resolved view resolved Later kl u ids h m).0 y in
      (executable_in_resolved view resolved done k u ids h m).1 (λ d. f.0 (has_longer done (t ∷ []) u d), λ w hw s. elim (has_more done t w (f.1 w hw s)) [ inl o ↦ o | inr e ↦ absurd (n (subst (Has ids) (sym e) hw)) ])

  -- a class that t isn't in is kept as it is
  opened_beside : (ids class : List TxnId) (o : Open) → ¬ (Has class t) → IsOpened view done ids class o → IsOpened view Later ids class o
  opened_beside ids class o n p = record {
    within = p.within;
    ordered = p.ordered;
    members = p.members;
    next_in = p.next_in;
    front_done = all_map _ _ (take o.next (map (id_at ids) o.members)) (λ u h. has_longer done (t ∷ []) u h) p.front_done;
    rest_waits = all_put _ (drop o.next (map (id_at ids) o.members)) (λ u h d. elim (has_more done t u d) [
      | inl old ↦ all_get _ (drop o.next (map (id_at ids) o.members)) p.rest_waits u h old
      | inr e ↦ n (subst (Has class) (sym e) ((p.members u).0 (has_dropped o.next (map (id_at ids) o.members) u h)))
    ]);
  }

  -- vertices leave together, and what is ready and the classes are right
  module _ (old new : GraphView) (g : KeepsGraph view resolved done old) (leaving : List ℕ) (distinct : Distinct leaving) (within : AllIn (λ u. u < length old.ids) leaving)
      (outs : (u : TxnId) → IsOut view Later u ↔ IsOut view done u ⊎ Has (map (id_at old.ids) leaving) u) (ready : List ℕ) (classes : List Open)
      (lv : Leaves leaving (record old { ready = ready; classes = classes }) new) (stuck_stays : (u : ℕ) → Has old.stuck u → ¬ (Has leaving u))
      (ready_right : (u : ℕ) → Has ready u → (u < length old.ids) × IsExecutable view resolved Later (id_at old.ids u))
      (right_ready : (u : ℕ) → u < length old.ids → IsExecutable view resolved Later (id_at old.ids u) → ¬ (Has old.stuck u) → Has ready u)
      (opened : Pairwise (IsOpened view Later old.ids) resolved classes) where
    uses : AreUses view Later old.ids (filter (λ w. not (is_leaving leaving w.vertex)) old.waiting)
    uses = uses_together view done Later old.ids old.waiting leaving k.sound.well_formed g.once g.uses within outs

    still : (v : ℕ) → v < length old.ids → IsLeft view Later (id_at old.ids v) ↔ IsLeft view done (id_at old.ids v) × (is_leaving leaving v ≡ false)
    still = left_vertex view done Later old.ids old.waiting leaving k.sound.well_formed g.once g.uses within outs

    counts : (v : ℕ) → v < length old.ids → IsLeft view Later (id_at old.ids v) → get_or new.degrees v 0 ≡ degree (filter (λ w. not (is_leaving leaving w.vertex)) old.waiting) v
    counts v lt l =
        let r : IsLeft view done (id_at old.ids v) × (is_leaving leaving v ≡ false) = (still v lt).0 l in
        same _ _ _ _ _ (lv.degrees v (subst (λ n. v < n) (sym g.degrees) lt)) (g.counts v lt r.0) (degrees_together view done Later old.ids old.waiting leaving k.sound.well_formed g.once g.uses within outs distinct v r.1)
      where
        same : (was now low deg then : ℕ) → was ≡ now + low → was ≡ deg → deg ≡ then + low → now ≡ then
        same was now low deg then e f h = omega (arith, e, f, h)

    free : (v : ℕ) → v < length old.ids → IsLeft view Later (id_at old.ids v) → (get_or new.degrees v 0 ≡ 0) ↔ IsFree view Later (id_at old.ids v)
    free v lt l =
        let f : (degree (filter (λ w. not (is_leaving leaving w.vertex)) old.waiting) v ≡ 0) ↔ IsFree view Later (id_at old.ids v) =
        free_together view done Later old.ids old.waiting leaving k.sound.well_formed g.once g.uses within outs v lt in (
          λ z. f.0 (sym (counts v lt l) ∙ z),
          λ p. counts v lt l ∙ f.1 p,
        )

    was_free : (v : ℕ) → v < length old.ids → (degree old.waiting v ≡ 0) ↔ IsFree view done (id_at old.ids v)
    was_free v lt = free_by_degree view done old.ids old.waiting k.sound.well_formed g.uses g.once v lt

    -- what was free is free
    free_still : (v : ℕ) → v < length old.ids → IsLeft view Later (id_at old.ids v) → IsFree view done (id_at old.ids v) → IsFree view Later (id_at old.ids v)
    free_still v lt l p = (free v lt l).0 (none _ _ _ _ (lv.degrees v (subst (λ n. v < n) (sym g.degrees) lt)) (g.counts v lt ((still v lt).0 l).0) ((was_free v lt).1 p))
      where
        none : (was now low deg : ℕ) → was ≡ now + low → was ≡ deg → deg ≡ 0 → now ≡ 0
        none was now low deg e f h = omega (arith, e, f, h)

    -- what came to degree 0 follows something that left
    followed : (v : ℕ) → v < length old.ids → IsLeft view Later (id_at old.ids v) → ¬ (IsFree view done (id_at old.ids v)) → get_or new.degrees v 0 ≡ 0 → IsFollowed old.waiting leaving v
    followed v lt l n z = followed_of_lowered old.waiting leaving v (λ e. n ((was_free v lt).0 (none _ _ _ _ (lv.degrees v (subst (λ n. v < n) (sym g.degrees) lt)) (g.counts v lt ((still v lt).0 l).0) e z)))
      where
        none : (was now low deg : ℕ) → was ≡ now + low → was ≡ deg → low ≡ 0 → now ≡ 0 → deg ≡ 0
        none was now low deg e f h j = omega (arith, e, f, h, j)

    stuck_left : (v : ℕ) → v < length old.ids → Has old.stuck v → IsStuck view resolved done (id_at old.ids v) → IsLeft view Later (id_at old.ids v)
    stuck_left v lt h s = (still v lt).1 (s.left, not_leaving)
      where
        not_leaving : is_leaving leaving v ≡ false
        not_leaving = false_from_ne_true (is_leaving leaving v) (λ e. stuck_stays v h (leaving_has leaving v e))

    new_stuck : (v : ℕ) → Has new.stuck v ↔ (v < length old.ids) × IsStuck view resolved Later (id_at old.ids v)
    new_stuck v = (forth, back)
      where
        forth : Has new.stuck v → (v < length old.ids) × IsStuck view resolved Later (id_at old.ids v)
        forth h =
            let r : Has old.stuck v × ¬ ((get_or new.degrees v 0 ≡ 0) × IsFollowed old.waiting leaving v) = (lv.stuck v).0 h in
            let s : (v < length old.ids) × IsStuck view resolved done (id_at old.ids v) = (g.stuck v).0 r.0 in
            let l : IsLeft view Later (id_at old.ids v) = stuck_left v s.0 r.0 s.1 in (
              s.0,
              record {
                left = l;
                complete = s.1.complete;
                apart = s.1.apart;
                waits = λ p. let z : get_or new.degrees v 0 ≡ 0 = (free v s.0 l).1 p in r.1 (z, followed v s.0 l s.1.waits z);
              },
            )

        back : (v < length old.ids) × IsStuck view resolved Later (id_at old.ids v) → Has new.stuck v
        back r = (lv.stuck v).1 (
          (g.stuck v).1 (r.0, record { left = ((still v r.0).0 r.1.left).0; complete = r.1.complete; apart = r.1.apart; waits = λ p. r.1.waits (free_still v r.0 r.1.left p) }),
          λ z. r.1.waits ((free v r.0 r.1.left).0 z.0),
        )

    new_ready : (v : ℕ) → Has new.ready v ↔ (v < length old.ids) × IsExecutable view resolved Later (id_at old.ids v)
    new_ready v = (forth, back)
      where
        forth : Has new.ready v → (v < length old.ids) × IsExecutable view resolved Later (id_at old.ids v)
        forth h = elim ((lv.ready v).0 h) [
          | inl m ↦ ready_right v m
          | inr w ↦
              let s : (v < length old.ids) × IsStuck view resolved done (id_at old.ids v) = (g.stuck v).0 w.0 in
              let l : IsLeft view Later (id_at old.ids v) = stuck_left v s.0 w.0 s.1 in
              (s.0, executable_of_free view resolved Later kl (id_at old.ids v) l s.1.apart s.1.complete ((free v s.0 l).0 w.1))
        ]

        back : (v < length old.ids) × IsExecutable view resolved Later (id_at old.ids v) → Has new.ready v
        back r = (lv.ready v).1 (elim (either_has old.stuck v either_nat) [
          | inr n ↦ inl (right_ready v r.0 r.1 n)
          | inl h ↦
              let s : (v < length old.ids) × IsStuck view resolved done (id_at old.ids v) = (g.stuck v).0 h in
              let l : IsLeft view Later (id_at old.ids v) = executable_left view resolved Later (id_at old.ids v) r.1 in
              let f : IsComplete view (id_at old.ids v) × IsFree view Later (id_at old.ids v) = free_of_executable view resolved Later kl (id_at old.ids v) s.1.apart r.1 in
              let z : get_or new.degrees v 0 ≡ 0 = (free v r.0 l).1 f.1 in
              inr (h, z, followed v r.0 l s.1.waits z)
        ])

    left_together : KeepsGraph view resolved Later new
    left_together = subst (KeepsGraph view resolved Later) (sym is_kept) (record {
      once = g.once;
      present = g.present;
      vertices = g.vertices;
      degrees = lv.size ∙ g.degrees;
      kept = g.kept;
      uses = uses;
      slots = λ v lt l. let r : IsLeft view done (id_at old.ids v) × (is_leaving leaving v ≡ false) = (still v lt).0 l in
          g.slots v lt r.0 ∙ sym (slots_together view done Later old.ids old.waiting leaving k.sound.well_formed g.once g.uses within outs v r.1);
      counts = counts;
      ready = new_ready;
      stuck = new_stuck;
      classes = opened;
    })
      where
        is_kept : new ≡ record { ids = old.ids; vertices = old.vertices; degrees = new.degrees; waiting = filter (λ w. not (is_leaving leaving w.vertex)) old.waiting; ready = new.ready; stuck = new.stuck; classes = classes }
        is_kept = λ i. record { ids = lv.ids i; vertices = lv.vertices i; degrees = new.degrees; waiting = lv.waiting i; ready = new.ready; stuck = new.stuck; classes = lv.classes i }

  -- t has the vertex v, and what is kept is the graph
  module _ (old new : GraphView) (g : KeepsGraph view resolved done old) (v : ℕ) (in_ids : v < length old.ids) (named : id_at old.ids v ≡ t) where
    other_vertex : (u : ℕ) → u < length old.ids → id_at old.ids u ≢ t → u ≢ v
    other_vertex u lt ne e = ne (ap (id_at old.ids) e ∙ named)

    other_id : (u : ℕ) → u < length old.ids → u ≢ v → id_at old.ids u ≢ t
    other_id u lt ne e = ne (same_place old.ids u v g.once lt in_ids (e ∙ sym named))

    -- what was executable is so without t
    still_ready : (u : ℕ) → Has old.ready u × (u ≢ v) → (u < length old.ids) × IsExecutable view resolved Later (id_at old.ids u)
    still_ready u h = let r : (u < length old.ids) × IsExecutable view resolved done (id_at old.ids u) = (g.ready u).0 h.0 in (r.0, executable_still (id_at old.ids u) r.1 (other_id u r.0 h.1))

    -- what is executable in no resolved class, and wasn't stuck, was executable
    was_ready : (u : ℕ) → u < length old.ids → IsExecutable view resolved Later (id_at old.ids u) → ¬ (Has old.stuck u) → ¬ (IsInResolved resolved (id_at old.ids u)) → Has old.ready u × (u ≢ v)
    was_ready u lt y n apart = ((g.ready u).1 (lt, executable_of_free view resolved done k (id_at old.ids u) left apart f.0 free), other_vertex u lt (it_isnt (id_at old.ids u) y))
      where
        f : IsComplete view (id_at old.ids u) × IsFree view Later (id_at old.ids u)
        f = free_of_executable view resolved Later kl (id_at old.ids u) apart y

        left : IsLeft view done (id_at old.ids u)
        left =
            let l : IsLeft view Later (id_at old.ids u) = executable_left view resolved Later (id_at old.ids u) y in
            (l.0, λ o. l.1 (λ w r. has_longer done (t ∷ []) w (o w r)))

        zero_is_free : (degree old.waiting u ≡ 0) ↔ IsFree view done (id_at old.ids u)
        zero_is_free = free_by_degree view done old.ids old.waiting k.sound.well_formed g.uses g.once u lt

        free : IsFree view done (id_at old.ids u)
        free = elim (either_nat (degree old.waiting u) 0) [
          | inl z ↦ zero_is_free.0 z
          | inr nz ↦ absurd (n ((g.stuck u).1 (lt, record { left = left; complete = f.0; apart = apart; waits = λ p. nz (zero_is_free.1 p) })))
        ]

    -- what is executable in a class that t isn't in was executable
    was_ready_beside : (u : ℕ) (ids : List TxnId) → u < length old.ids → IsExecutable view resolved Later (id_at old.ids u) → Has resolved ids → Has ids (id_at old.ids u) → ¬ (Has ids t) → Has old.ready u × (u ≢ v)
    was_ready_beside u ids lt y h m n = ((g.ready u).1 (lt, executable_beside ids (id_at old.ids u) h m n y), other_vertex u lt (it_isnt (id_at old.ids u) y))

    one_out : (u : TxnId) → (u ≡ t) ↔ Has (map (id_at old.ids) (v ∷ [])) u
    one_out u = (λ e. inl (named ∙ sym e), λ h. elim h [ inl e ↦ sym e ∙ named | inr f ↦ absurd f ])

    -- t is in no resolved class: its vertex leaves
    pub finished_alone : ¬ (IsInResolved resolved t) → FinishesAlone v old new → KeepsGraph view resolved Later new
    finished_alone apart f = left_together old new g (v ∷ []) (tt, tt) (in_ids, tt)
        (λ u. let o : IsOut view Later u ↔ IsOut view done u ⊎ (u ≡ t) = leaves_alone view resolved done k t x apart u in (
          λ p. elim (o.0 p) [ inl q ↦ inl q | inr e ↦ inr ((one_out u).0 e) ],
          λ s. o.1 (elim s [ inl q ↦ inl q | inr h ↦ inr ((one_out u).1 h) ]),
        ))
        f.ready old.classes f.leaves not_stuck (λ u h. still_ready u ((f.without u).0 h)) (λ u lt y n. (f.without u).1 (by u lt y n (in_resolved_decided resolved (id_at old.ids u))))
        (pairwise_map (IsOpened view done old.ids) (IsOpened view Later old.ids) resolved old.classes (λ ids o h p. opened_beside old.ids ids o (λ m. apart (any_put (λ c. Has c t) resolved ids h m)) p) g.classes)
      where
        not_stuck : (u : ℕ) → Has old.stuck u → ¬ (Has (v ∷ []) u)
        not_stuck u h (inl e) =
            let s : (u < length old.ids) × IsStuck view resolved done (id_at old.ids u) = (g.stuck u).0 h in
            s.1.waits (subst (IsFree view done) (sym named ∙ ap (id_at old.ids) e) (free_of_executable view resolved done k t apart x).1)
        not_stuck u h (inr f) = f

        by : (u : ℕ) → u < length old.ids → IsExecutable view resolved Later (id_at old.ids u) → ¬ (Has old.stuck u) → Either (IsInResolved resolved (id_at old.ids u)) → Has old.ready u × (u ≢ v)
        by u lt y n (inr a) = was_ready u lt y n a
        by u lt y n (inl a) =
            let r : (ids : List TxnId) × Has resolved ids × Has ids (id_at old.ids u) = any_get _ resolved a in
            was_ready_beside u r.0 lt y r.1 r.2 (λ m. apart (any_put (λ c. Has c t) resolved r.0 r.1 m))

    -- t is in the resolved class at a place
    module _ (place : ℕ) (ids : List TxnId) (kept : Open) (class_at : slice_get resolved place ≡ Some ids) (kept_at : slice_get old.classes place ≡ Some kept) (member : Has ids t) where
      abbrev Row : List TxnId
      Row = map (id_at old.ids) kept.members

      there : Has resolved ids
      there = has_place resolved place ids class_at

      pub opened : IsOpened view done old.ids ids kept
      opened =
          let r : (o : Open) × (slice_get old.classes place ≡ Some o) × IsOpened view done old.ids ids o = pairwise_get (IsOpened view done old.ids) resolved old.classes place ids class_at g.classes in
          subst (IsOpened view done old.ids ids) (some_same (sym r.1 ∙ kept_at)) r.2

      -- it is the next one of its class
      pub next_is : slice_get Row kept.next ≡ Some t
      next_is = next_of_soonest opened t member x.waiting ((executable_in_resolved view resolved done k t ids there member).0 x).1

      opened_more : suc kept.next ≤ length kept.members → IsOpened view Later old.ids ids (one_done kept)
      opened_more le = record {
        within = opened.within;
        ordered = opened.ordered;
        members = opened.members;
        next_in = le;
        front_done = front_longer opened t next_is;
        rest_waits = rest_shorter opened t next_is;
      }

      -- t is in no other class
      only_class : (others : List TxnId) → Has resolved others → Has others t → others ≡ ids
      only_class others h m = class_unique view t others ids (class_of_resolved view resolved done others t k.sound h m) (class_of_resolved view resolved done ids t k.sound there member)

      classes_more : suc kept.next ≤ length kept.members → Pairwise (IsOpened view Later old.ids) resolved (with_one_done old.classes place kept)
      classes_more le = pairwise_set (IsOpened view done old.ids) (IsOpened view Later old.ids) resolved old.classes place (one_done kept)
          (λ j a b ne ha hb p. opened_beside old.ids a b (λ m. ne (one_place resolved j place ids k.sound.resolved_once (ha ∙ ap Some (only_class a (has_place resolved j a ha) m)) class_at)) p)
          (λ a ha. subst (λ c. IsOpened view Later old.ids c (one_done kept)) (some_same (sym class_at ∙ ha)) (opened_more le))
          g.classes

      -- the members are distinct, and none of them is stuck
      pub distinct_members : Distinct kept.members
      distinct_members = each_map _ _ kept.members (λ u w s e. sooner_breaks_ties.irreflexive view (id_at old.ids w) (subst (λ z. IsSooner view (id_at old.ids z) (id_at old.ids w)) e s))
          (each_of_image (IsSooner view) (id_at old.ids) kept.members opened.ordered)

      pub member_of : (u : ℕ) → Has kept.members u → Has ids (id_at old.ids u)
      member_of u h = (opened.members (id_at old.ids u)).0 (has_map (id_at old.ids) kept.members u h)

      not_stuck : (u : ℕ) → Has old.stuck u → ¬ (Has kept.members u)
      not_stuck u h m = ((g.stuck u).0 h).1.apart (any_put (λ c. Has c (id_at old.ids u)) resolved ids there (member_of u m))

      -- what is executable now, in another class or in none
      ready_elsewhere : (u : ℕ) → u < length old.ids → IsExecutable view resolved Later (id_at old.ids u) → ¬ (Has old.stuck u) → ¬ (Has ids (id_at old.ids u)) → Has old.ready u × (u ≢ v)
      ready_elsewhere u lt y n out = by (in_resolved_decided resolved (id_at old.ids u))
        where
          by : Either (IsInResolved resolved (id_at old.ids u)) → Has old.ready u × (u ≢ v)
          by (inr a) = was_ready u lt y n a
          by (inl a) =
              let r : (others : List TxnId) × Has resolved others × Has others (id_at old.ids u) = any_get _ resolved a in
              was_ready_beside u r.0 lt y r.1 r.2 (λ m. out (subst (λ c. Has c (id_at old.ids u)) (only_class r.0 r.1 m) r.2))

      -- t is the last of its class, which leaves
      pub finished_last : suc kept.next ≡ length kept.members → FinishesLast v place kept old new → KeepsGraph view resolved Later new
      finished_last last f = left_together old new g kept.members distinct_members opened.within
          (λ u. let o : IsOut view Later u ↔ IsOut view done u ⊎ Has ids u = leaves_with_class view resolved done k t x ids there member all_done u in (
            λ p. elim (o.0 p) [ inl q ↦ inl q | inr h ↦ inr ((opened.members u).1 h) ],
            λ s. o.1 (elim s [ inl q ↦ inl q | inr h ↦ inr ((opened.members u).0 h) ]),
          ))
          f.ready (with_one_done old.classes place kept) f.leaves not_stuck (λ u h. still_ready u ((f.without u).0 h)) (λ u lt y n. (f.without u).1 (ready_elsewhere u lt y n (λ m. none_left u y m)))
          (classes_more (fits _ _ last))
        where
          fits : (a b : ℕ) → a ≡ b → a ≤ b
          fits a b e = omega (arith, e)

          row_done : AllIn (Has Later) Row
          row_done = subst (AllIn (Has Later)) (take_all (suc kept.next) Row (short _ _ _ last (length-map kept.members (id_at old.ids)))) (opened_more (fits _ _ last)).front_done
            where
              short : (a b c : ℕ) → a ≡ b → c ≡ b → c ≤ a
              short a b c e h = omega (arith, e, h)

          all_done : (u : TxnId) → Has ids u → Has done u ⊎ (u ≡ t)
          all_done u h = elim (has_more done t u (all_get (Has Later) Row row_done u ((opened.members u).1 h))) [ inl o ↦ inl o | inr e ↦ inr (sym e) ]

          none_left : (u : ℕ) → IsExecutable view resolved Later (id_at old.ids u) → Has ids (id_at old.ids u) → ⊥
          none_left u y m = y.waiting (all_get (Has Later) Row row_done (id_at old.ids u) ((opened.members (id_at old.ids u)).1 m))

      -- another member runs after t: that is ready
      pub finished_before : (next : ℕ) → slice_get kept.members (suc kept.next) ≡ Some next → FinishesBefore v place kept next old new → KeepsGraph view resolved Later new
      finished_before next at f = left_together old new g [] tt tt
          (λ u. let o : IsOut view Later u ↔ IsOut view done u = nothing_leaves view resolved done k t x ids there member (id_at old.ids next) next_member next_waits next_isnt u in (
            λ p. inl (o.0 p),
            λ s. elim s [ inl q ↦ o.1 q | inr h ↦ absurd h ],
          ))
          new.ready (with_one_done old.classes place kept) unchanged (λ u h m. m) ready_right right_ready (classes_more le)
        where
          le : suc kept.next ≤ length kept.members
          le = below (suc kept.next) (length kept.members) (slice_get_within kept.members (suc kept.next) next at)
            where
              below : (a b : ℕ) → a < b → a ≤ b
              below a b lt = omega (arith, lt)

          more : IsOpened view Later old.ids ids (one_done kept)
          more = opened_more le

          next_at : slice_get Row (suc kept.next) ≡ Some (id_at old.ids next)
          next_at = mapped_get (id_at old.ids) kept.members (suc kept.next) next at

          next_in : next < length old.ids
          next_in = all_get _ kept.members opened.within next (has_place kept.members (suc kept.next) next at)

          next_member : Has ids (id_at old.ids next)
          next_member = member_of next (has_place kept.members (suc kept.next) next at)

          next_not : ¬ (Has Later (id_at old.ids next))
          next_not = waits_of_next more (id_at old.ids next) next_at

          next_waits : ¬ (Has done (id_at old.ids next))
          next_waits d = next_not (has_longer done (t ∷ []) (id_at old.ids next) d)

          next_isnt : id_at old.ids next ≢ t
          next_isnt e = next_not (subst (Has Later) (sym e) (has_last done t))

          next_executable : IsExecutable view resolved Later (id_at old.ids next)
          next_executable = (executable_in_resolved view resolved Later kl (id_at old.ids next) ids there next_member).1 (next_not, sooner_of_next more (id_at old.ids next) next_at)

          counted : GraphView
          counted = record old { ready = new.ready; classes = with_one_done old.classes place kept }

          unchanged : Leaves [] counted new
          unchanged = subst (Leaves [] counted) (sym f.rest) (leaves_none counted)

          ready_right : (u : ℕ) → Has new.ready u → (u < length old.ids) × IsExecutable view resolved Later (id_at old.ids u)
          ready_right u h = elim ((f.ready u).0 h) [
            | inl r ↦ still_ready u r
            | inr e ↦ subst (λ u. (u < length old.ids) × IsExecutable view resolved Later (id_at old.ids u)) (sym e) (next_in, next_executable)
          ]

          right_ready : (u : ℕ) → u < length old.ids → IsExecutable view resolved Later (id_at old.ids u) → ¬ (Has old.stuck u) → Has new.ready u
          right_ready u lt y n = (f.ready u).1 (elim (has_id_decided ids (id_at old.ids u)) [ inl m ↦ inr (it_is m) | inr out ↦ inl (ready_elsewhere u lt y n out) ])
            where
              it_is : Has ids (id_at old.ids u) → u ≡ next
              it_is m =
                  let r = (executable_in_resolved view resolved Later kl (id_at old.ids u) ids there m).0 y in
                  let here : slice_get Row (suc kept.next) ≡ Some (id_at old.ids u) = next_of_soonest more (id_at old.ids u) m r.0 r.1 in
                  same_place old.ids u next g.once lt next_in (some_same (sym here ∙ next_at))
