-- A class that is resolved leaves what is kept the graph: its members are stuck no more, and the soonest of them is ready.
use Rattle.std.proofs.Common.{◌≡◌, ◌<◌, ◌≤◌, ◌⊎◌, ◌↔◌, ◌∙◌, ℕ, List, [], ◌∷◌, ◌++◌, length, map, slice_get, Option, None}
use Rattle.std.proofs.Common.{Some, refl, sym, ap, subst, inl, inr, arith}
use Rattle.dt_lists.specs.Lists.{AllIn, Has, EachThen, Either}
use Rattle.dt_lists.proofs.Callers.{all_get, all_put, any_get, any_put, either_has, either_nat, has_last, has_longer, has_map, has_more, has_place, place_in_longer, last_place}
use Rattle.dt_lists.proofs.Callers.{pairwise_more}
use Rattle.dt_lists.specs.Chain.{here}
use Rattle.dt_access.specs.declared.TxnId.{TxnId}
use Rattle.dt_sched.specs.Views.{View, IsSooner}
use Rattle.dt_sched.specs.Decide.{IsExecutable, IsResolvable}
use Rattle.dt_sched.proofs.Callers.{class_of_member, has_id_decided}
use Rattle.dt_waits.specs.LeftInGraph.{IsInResolved, IsOrderly}
use Rattle.dt_waits.specs.Waits.{id_at}
use Rattle.dt_waits.specs.Graph.{GraphView, KeepsGraph, IsOpened, IsPlaceOfClass, IsStuck, IsVertexOf, vertex_at}
use Rattle.dt_waits.specs.Steps.{Resolves}
use Rattle.dt_waits.proofs.LeftTransactions.{resolvable_waits}
use Rattle.dt_waits.proofs.OrderlyStates.{orderly_resolve}
use Rattle.dt_waits.proofs.ExecutableTest.{executable_in_resolved}
use Rattle.dt_waits.proofs.DegreeZero.{place_in_list, same_place}
use Rattle.dt_waits.proofs.InsertStep.{in_resolved_decided}
use Rattle.dt_waits.proofs.RunInOrder.{next_of_soonest, sooner_of_next}

module _ (view : View) (resolved : List (List TxnId)) (done ids : List TxnId) (k : IsOrderly view resolved done) (x : IsResolvable view resolved done ids) where
  abbrev More : List (List TxnId)
  More = resolved ++ ids ∷ []

  km : IsOrderly view More done
  km = orderly_resolve view resolved done ids x k

  in_more : (t : TxnId) → IsInResolved More t ↔ IsInResolved resolved t ⊎ Has ids t
  in_more t = (
    λ a. let r : (others : List TxnId) × Has More others × Has others t = any_get _ More a in
        elim (has_more resolved ids r.0 r.1) [ inl o ↦ inl (any_put (λ c. Has c t) resolved r.0 o r.2) | inr e ↦ inr (subst (λ c. Has c t) (sym e) r.2) ],
    λ s. elim s [
      | inl a ↦ let r : (others : List TxnId) × Has resolved others × Has others t = any_get _ resolved a in any_put (λ c. Has c t) More r.0 (has_longer resolved (ids ∷ []) r.0 r.1) r.2
      | inr h ↦ any_put (λ c. Has c t) More ids (has_last resolved ids) h
    ],
  )

  -- what is in another class, or in none, may be executed as before
  executable_apart : (t : TxnId) → ¬ (Has ids t) → IsExecutable view More done t ↔ IsExecutable view resolved done t
  executable_apart t n = (
    λ y. back y (in_resolved_decided resolved t),
    λ y. record { closed = y.closed; waiting = y.waiting; preceders = y.preceders; settled = λ others c two. has_longer resolved (ids ∷ []) others (y.settled others c two) },
  )
    where
      back : IsExecutable view More done t → Either (IsInResolved resolved t) → IsExecutable view resolved done t
      back y d = record {
        closed = y.closed;
        waiting = y.waiting;
        preceders = y.preceders;
        settled = λ others c two. elim (has_more resolved ids others (y.settled others c two)) [ inl o ↦ o | inr e ↦ absurd (n (subst (λ l. Has l t) (sym e) ((c.members t).1 (here, here)))) ];
      }

  -- no member of it was executable
  none_executable : (t : TxnId) → Has ids t → ¬ (IsExecutable view resolved done t)
  none_executable t h y = x.unresolved (y.settled ids (class_of_member view x.group.0 t ids x.group.1 h) x.several)

  module _ (old new : GraphView) (members : List ℕ) (g : KeepsGraph view resolved done old) (r : Resolves members (length resolved) old new) (within : AllIn (λ v. v < length old.ids) members)
      (ordered : EachThen (IsSooner view) (map (id_at old.ids) members)) (same : (t : TxnId) → Has (map (id_at old.ids) members) t ↔ Has ids t) where
    opened : IsOpened view done old.ids ids (record { members = members; next = 0 })
    opened = record {
      within = within;
      ordered = ordered;
      members = same;
      next_in = least (length members);
      front_done = tt;
      rest_waits = all_put _ (map (id_at old.ids) members) (λ t h. resolvable_waits view resolved done ids k x t ((same t).0 h));
    }
      where
        least : (n : ℕ) → 0 ≤ n
        least n = omega arith

    member : (v : ℕ) → v < length old.ids → Has ids (id_at old.ids v) → Has members v
    member v lt h = place_in_list old.ids members v g.once within lt ((same (id_at old.ids v)).1 h)

    of_member : (v : ℕ) → Has members v → Has ids (id_at old.ids v)
    of_member v h = (same (id_at old.ids v)).0 (has_map (id_at old.ids) members v h)

    kept_vertices : (v : ℕ) → v < length old.ids → IsVertexOf view More (id_at old.ids v) (vertex_at new.vertices v)
    kept_vertices v lt = elim (either_has members v either_nat) [
      | inl h ↦ record {
        rank = λ home p m e. (r.inside v h).rank ∙ (g.kept v lt).rank home p m e;
        missing = λ home p m e. (r.inside v h).missing ∙ (g.kept v lt).missing home p m e;
        class = subst (IsPlaceOfClass More (id_at old.ids v)) (sym (r.inside v h).class) (ids, last_place resolved ids, of_member v h);
      }
      | inr n ↦ subst (IsVertexOf view More (id_at old.ids v)) (sym (r.outside v n)) (record {
        rank = (g.kept v lt).rank;
        missing = (g.kept v lt).missing;
        class = class_beside (vertex_at old.vertices v).class (λ h. n (member v lt h)) (g.kept v lt).class;
      })
    ]
      where
        class_beside : (place : Option ℕ) → ¬ (Has ids (id_at old.ids v)) → IsPlaceOfClass resolved (id_at old.ids v) place → IsPlaceOfClass More (id_at old.ids v) place
        class_beside None n p = λ a. elim ((in_more (id_at old.ids v)).0 a) [ inl b ↦ p b | inr h ↦ n h ]
        class_beside (Some place) n p = (p.0, place_in_longer resolved (ids ∷ []) place p.0 p.1, p.2)

    slots_same : (v : ℕ) → (vertex_at new.vertices v).slots ≡ (vertex_at old.vertices v).slots
    slots_same v = elim (either_has members v either_nat) [ inl h ↦ (r.inside v h).slots | inr n ↦ ap (λ y. y.slots) (r.outside v n) ]

    -- the first of them is the soonest
    first_at : (v : ℕ) → slice_get members 0 ≡ Some v → slice_get (map (id_at old.ids) members) 0 ≡ Some (id_at old.ids v)
    first_at v e = mapped_first members e
      where
        mapped_first : (vs : List ℕ) → slice_get vs 0 ≡ Some v → slice_get (map (id_at old.ids) vs) 0 ≡ Some (id_at old.ids v)
        mapped_first [] e = cc
        mapped_first (u ∷ vs) e = let s : u ≡ v = cc in ap (λ z. Some (id_at old.ids z)) s

    kept_ready : (v : ℕ) → Has new.ready v ↔ (v < length old.ids) × IsExecutable view More done (id_at old.ids v)
    kept_ready v = (forth, back)
      where
        forth : Has new.ready v → (v < length old.ids) × IsExecutable view More done (id_at old.ids v)
        forth h = elim ((r.ready v).0 h) [
          | inl o ↦
              let e : (v < length old.ids) × IsExecutable view resolved done (id_at old.ids v) = (g.ready v).0 o in
              (e.0, (executable_apart (id_at old.ids v) (λ m. none_executable (id_at old.ids v) m e.1)).1 e.1)
          | inr at ↦
              let m : Has members v = has_place members 0 v at in (
                all_get _ members within v m,
                (executable_in_resolved view More done km (id_at old.ids v) ids (has_last resolved ids) (of_member v m)).1 (
                  resolvable_waits view resolved done ids k x (id_at old.ids v) (of_member v m),
                  sooner_of_next opened (id_at old.ids v) (first_at v at),
                ),
              )
        ]

        back : (v < length old.ids) × IsExecutable view More done (id_at old.ids v) → Has new.ready v
        back e = (r.ready v).1 (elim (has_id_decided ids (id_at old.ids v)) [
          | inl m ↦ inr (at_first m)
          | inr n ↦ inl ((g.ready v).1 (e.0, (executable_apart (id_at old.ids v) n).0 e.1))
        ])
          where
            at_first : Has ids (id_at old.ids v) → slice_get members 0 ≡ Some v
            at_first m =
                let f = (executable_in_resolved view More done km (id_at old.ids v) ids (has_last resolved ids) m).0 e.1 in
                let here_first : slice_get (map (id_at old.ids) members) 0 ≡ Some (id_at old.ids v) = next_of_soonest opened (id_at old.ids v) m f.0 f.1 in
                back_first members (λ u h. h) here_first
              where
                back_first : (vs : List ℕ) → ((u : ℕ) → Has vs u → Has members u) → slice_get (map (id_at old.ids) vs) 0 ≡ Some (id_at old.ids v) → slice_get vs 0 ≡ Some v
                back_first [] among h = cc
                back_first (u ∷ vs) among h = let s : id_at old.ids u ≡ id_at old.ids v = cc in ap Some (same_place old.ids u v g.once (all_get _ members within u (among u (inl refl))) e.0 s)

    kept_stuck : (v : ℕ) → Has new.stuck v ↔ (v < length old.ids) × IsStuck view More done (id_at old.ids v)
    kept_stuck v = (
      λ h. let o : Has old.stuck v × ¬ (Has members v) = (r.stuck v).0 h in
          let s : (v < length old.ids) × IsStuck view resolved done (id_at old.ids v) = (g.stuck v).0 o.0 in (
            s.0,
            record {
              left = s.1.left;
              complete = s.1.complete;
              apart = λ a. elim ((in_more (id_at old.ids v)).0 a) [ inl b ↦ s.1.apart b | inr m ↦ o.1 (member v s.0 m) ];
              waits = s.1.waits;
            },
          ),
      λ s. (r.stuck v).1 (
        (g.stuck v).1 (s.0, record { left = s.1.left; complete = s.1.complete; apart = λ a. s.1.apart ((in_more (id_at old.ids v)).1 (inl a)); waits = s.1.waits }),
        λ m. s.1.apart ((in_more (id_at old.ids v)).1 (inr (of_member v m))),
      ),
    )

    pub resolved_more : KeepsGraph view More done new
    resolved_more = subst (KeepsGraph view More done) (sym is_kept) (record {
      once = g.once;
      present = g.present;
      vertices = r.size ∙ g.vertices;
      degrees = g.degrees;
      kept = kept_vertices;
      uses = g.uses;
      slots = λ v lt l. slots_same v ∙ g.slots v lt l;
      counts = g.counts;
      ready = kept_ready;
      stuck = kept_stuck;
      classes = pairwise_more (IsOpened view done old.ids) resolved old.classes ids (record { members = members; next = 0 }) g.classes opened;
    })
      where
        is_kept : new ≡ record { ids = old.ids; vertices = new.vertices; degrees = old.degrees; waiting = old.waiting; ready = new.ready; stuck = new.stuck; classes = old.classes ++ record { members = members; next = 0 } ∷ [] }
        is_kept = λ i. record { ids = r.ids i; vertices = new.vertices; degrees = r.degrees i; waiting = r.waiting i; ready = new.ready; stuck = new.stuck; classes = r.classes i }
