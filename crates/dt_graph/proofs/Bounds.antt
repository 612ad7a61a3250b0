-- What is ready or stuck is a vertex that is kept, what was forgotten is past, and there are fewer vertices than a 32-bit number
-- can count.
use Rattle.std.proofs.Common.{◌≡◌, ◌≢◌, ◌<◌, ◌≤◌, ◌^◌, ◌∙◌, ◌++◌, ◌∷◌, ℕ, List, [], Option, None, Some, length, get_or, set, slice_get, not, refl, sym, ap, subst, inl, inr, arith}
use Rattle.std.proofs.lemmas.Option.{get_or_from_slice_get, slice_get_within}
use Rattle.dt_lists.specs.Lists.{AllIn, Has}
use Rattle.dt_lists.proofs.Callers.{all_append, all_get, all_map, all_put, distinct_within, either_le, either_nat, filter_all, has_place, place_in_longer, set_beside, set_here, some_same}
use Rattle.dt_access.specs.declared.TxnId.{TxnId}
use Rattle.dt_access.specs.declared.Part.{Part}
use Rattle.dt_sched.specs.Views.{View}
use Rattle.dt_sched.specs.Sched.{parts_in}
use Rattle.dt_sched.proofs.Callers.{has_of_present, ids_in, ids_in_length}
use Rattle.dt_queue.specs.Queues.{Waiting}
use Rattle.dt_waits.specs.declared.open.Open.{Open}
use Rattle.dt_graph.specs.declared.waits.Waits.{Waits}
use Rattle.dt_waits.specs.LeftInGraph.{IsOrderly}
use Rattle.dt_waits.specs.declared.vertex.Vertex.{Vertex}
use Rattle.dt_waits.specs.Waits.{is_leaving}
use Rattle.dt_waits.specs.Graph.{GraphView, IsClassDone, IsPast, KeepsGraph, vertex_at}
use Rattle.dt_waits.proofs.Callers.{past_entries}
use Rattle.dt_graph.specs.HeldInner.{IsFitted, kept_of}
use Rattle.dt_graph.specs.VerticesInner.{HasPassed, IsVertexKept, VerticesView}
use Rattle.dt_waits.specs.Steps.{Inserts, Leaves, Resolves}

-- the ids that have a part are at most as many as the parts
pub few_ids : (view : View) (resolved : List (List TxnId)) (done : List TxnId) (g : GraphView) → KeepsGraph view resolved done g → length g.ids ≤ parts_in view
few_ids view resolved done g is = subst (λ n. length g.ids ≤ n) (ids_in_length view) (distinct_within g.ids (ids_in view) is.once (all_put _ g.ids (λ t h. has_of_present view t ((is.present t).0 h))))

-- where ready ones changed alone, there may be more room too
pub with_room : (old new : VerticesView) → new ≡ record old { ready = new.ready } → new ≡ record old { ready = new.ready; room = new.room }
with_room old new e = e ∙ (λ i. record old { ready = new.ready; room = (sym e i).room })

-- a class that is done is so beside one more class, and where one is further

pub done_beside : (classes : List Open) (more : List Open) (place : Option ℕ) → IsClassDone classes place → IsClassDone (classes ++ more) place
done_beside classes more None d = tt
done_beside classes more (Some place) d = (d.0, place_in_longer classes more place d.0 d.1, d.2)

pub done_further : (classes : List Open) (at : ℕ) (o : Open) (next : ℕ) → o ≡ get_or classes at o → o.next ≤ next → (place : Option ℕ) → IsClassDone classes place
    → IsClassDone (set classes at (record { members = o.members; next = next })) place
done_further classes at o next e le None d = tt
done_further classes at o next e le (Some place) d = elim (either_nat place at) [
  | inl same ↦
      let here : slice_get classes at ≡ Some d.0 = subst (λ p. slice_get classes p ≡ Some d.0) same d.1 in
      let is : o ≡ d.0 = e ∙ get_or_from_slice_get classes at d.0 o here in (
        record { members = o.members; next = next },
        ap (slice_get (set classes at (record { members = o.members; next = next }))) same ∙ set_here classes at _ (slice_get_within classes at d.0 here),
        further _ (subst (λ x. length x.members ≤ x.next) (sym is) d.2),
      )
  | inr ne ↦ (d.0, set_beside classes at place _ ne ∙ d.1, d.2)
]
  where
    further : (l : ℕ) → l ≤ o.next → l ≤ next
    further l f = omega (arith, f, le)

not_before : (a b : ℕ) → (b < a → ⊥) → a ≤ b
not_before a b n = elim (either_le a b) [ inl le ↦ le | inr m ↦ absurd (n (less m)) ]
  where
    less : ¬ (a ≤ b) → b < a
    less m = grind (arith, m)

-- what is held stays fitted

pub fitted_none : (w : Waits) → w.vertices.vertices ≡ [] → w.vertices.degrees ≡ [] → w.vertices.ready ≡ [] → w.vertices.stuck ≡ [] → w.queues ≡ [] → w.vertices.first ≡ 0 → IsFitted [] w []
fitted_none w vertices degrees ready stuck queues first = record {
  few = omega arith;
  vertices = ap length vertices;
  degrees = ap length degrees;
  ready_within = subst (AllIn (λ v. v < 0)) (sym ready) tt;
  stuck_within = subst (AllIn (λ v. v < 0)) (sym stuck) tt;
  first = omega (arith, first);
  ready_kept = subst (AllIn (λ v. w.vertices.first ≤ v)) (sym ready) tt;
  stuck_kept = subst (AllIn (λ v. w.vertices.first ≤ v)) (sym stuck) tt;
  queues_kept = subst (λ (q : List Waiting). AllIn (λ e. w.vertices.first ≤ e.vertex) q) (sym queues) tt;
  past = λ v lt. absurd (none v lt);
}
  where
    none : (v : ℕ) → v < w.vertices.first → ⊥
    none v lt = omega (arith, first, lt)

module _ (ids : List TxnId) (w : Waits) (classes : List Open) (f : IsFitted ids w classes) where
  pub fitted_ready : (vertices : VerticesView) → vertices ≡ record w.vertices { ready = vertices.ready; room = vertices.room } → ((v : ℕ) → Has vertices.ready v → (w.vertices.first ≤ v) × (v < length ids))
      → IsFitted ids (record w { vertices = vertices }) classes
  fitted_ready vertices e all = record {
    few = f.few;
    vertices = ap (λ v. length v.vertices) e ∙ f.vertices;
    degrees = ap (λ v. length v.degrees) e ∙ f.degrees;
    ready_within = all_put _ vertices.ready (λ v h. (all v h).1);
    stuck_within = subst (AllIn (λ v. v < length ids)) (sym (ap (λ v. v.stuck) e)) f.stuck_within;
    first = subst (λ (x : VerticesView). x.first ≤ length ids) (sym e) f.first;
    ready_kept = all_put _ vertices.ready (λ v h. subst (λ (x : VerticesView). x.first ≤ v) (sym e) (all v h).0);
    stuck_kept = subst (λ (x : VerticesView). AllIn (λ v. x.first ≤ v) x.stuck) (sym e) f.stuck_kept;
    queues_kept = subst (λ (x : VerticesView). AllIn (λ q. x.first ≤ q.vertex) w.queues) (sym e) f.queues_kept;
    past = subst (λ (x : VerticesView). (v : ℕ) → v < x.first → IsPast classes (vertex_at x.vertices v)) (sym e) f.past;
  }

  -- of what is ready, and of what is stuck
  pub ready_there : (v : ℕ) → Has w.vertices.ready v → (w.vertices.first ≤ v) × (v < length ids)
  ready_there v h = (all_get _ w.vertices.ready f.ready_kept v h, all_get _ w.vertices.ready f.ready_within v h)

  pub stuck_there : (v : ℕ) → Has w.vertices.stuck v → (w.vertices.first ≤ v) × (v < length ids)
  stuck_there v h = (all_get _ w.vertices.stuck f.stuck_kept v h, all_get _ w.vertices.stuck f.stuck_within v h)

  pub ready_is_kept : (v : ℕ) → Has w.vertices.ready v → IsVertexKept w.vertices v
  ready_is_kept v h = let t : (w.vertices.first ≤ v) × (v < length ids) = ready_there v h in (t.0, subst (λ n. v < n) (sym f.vertices) t.1)

  pub stuck_is_kept : (v : ℕ) → Has w.vertices.stuck v → IsVertexKept w.vertices v
  stuck_is_kept v h = let t : (w.vertices.first ≤ v) × (v < length ids) = stuck_there v h in (t.0, subst (λ n. v < n) (sym f.vertices) t.1)

  -- what lacks a part is kept
  pub missing_kept : (v : ℕ) → 0 < (vertex_at w.vertices.vertices v).missing → w.vertices.first ≤ v
  missing_kept v some = not_before w.vertices.first v (λ lt. none _ (f.past v lt).complete some)
    where
      none : (n : ℕ) → n ≡ 0 → 0 < n → ⊥
      none n e l = omega (arith, e, l)

  -- and so are the members of a class that isn't done
  pub open_kept : (place : ℕ) (kept : Open) → slice_get classes place ≡ Some kept → kept.next < length kept.members → (members : List ℕ)
      → AllIn (λ u. (vertex_at w.vertices.vertices u).class ≡ Some place) members → AllIn (λ u. w.vertices.first ≤ u) members
  open_kept place kept at waits members of_class = all_map _ _ members (λ u e. not_before w.vertices.first u (λ lt. by u (subst (IsClassDone classes) e (f.past u lt).class))) of_class
    where
      by : (u : ℕ) → IsClassDone classes (Some place) → ⊥
      by u d = let is : d.0 ≡ kept = some_same (sym d.1 ∙ at) in more (subst (λ x. length x.members ≤ x.next) is d.2)
        where
          more : length kept.members ≤ kept.next → ⊥
          more le = omega (arith, le, waits)

  pub fitted_same : (new : Waits) → kept_of ids new classes ≡ kept_of ids w classes → new.vertices.first ≡ w.vertices.first → IsFitted ids new classes
  fitted_same new e first = record {
    few = f.few;
    vertices = ap (λ g. length g.vertices) e ∙ f.vertices;
    degrees = ap (λ g. length g.degrees) e ∙ f.degrees;
    ready_within = subst (AllIn (λ v. v < length ids)) (sym (ap (λ g. g.ready) e)) f.ready_within;
    stuck_within = subst (AllIn (λ v. v < length ids)) (sym (ap (λ g. g.stuck) e)) f.stuck_within;
    first = subst (λ n. n ≤ length ids) (sym first) f.first;
    ready_kept = subst (λ n. AllIn (λ v. n ≤ v) new.vertices.ready) (sym first) (subst (AllIn (λ v. w.vertices.first ≤ v)) (sym (ap (λ g. g.ready) e)) f.ready_kept);
    stuck_kept = subst (λ n. AllIn (λ v. n ≤ v) new.vertices.stuck) (sym first) (subst (AllIn (λ v. w.vertices.first ≤ v)) (sym (ap (λ g. g.stuck) e)) f.stuck_kept);
    queues_kept = subst (λ n. AllIn (λ q. n ≤ q.vertex) new.queues) (sym first) (subst (λ (q : List Waiting). AllIn (λ x. w.vertices.first ≤ x.vertex) q) (sym (ap (λ g. g.waiting) e)) f.queues_kept);
    past = λ v lt. subst (λ (xs : List Vertex). IsPast classes (vertex_at xs v)) (sym (ap (λ g. g.vertices) e)) (f.past v (subst (λ n. v < n) first lt));
  }

  -- where those at the front that are past are forgotten
  pub fitted_forgotten : (view : View) (resolved : List (List TxnId)) (done : List TxnId) → IsOrderly view resolved done → KeepsGraph view resolved done (kept_of ids w classes) → (new : Waits)
      → kept_of ids new classes ≡ kept_of ids w classes → new.vertices.first ≤ length ids
      → ((v : ℕ) → w.vertices.first ≤ v → v < new.vertices.first → HasPassed classes w.vertices v) → IsFitted ids new classes
  fitted_forgotten view resolved done k is new e within passed = record {
    few = f.few;
    vertices = ap (λ g. length g.vertices) e ∙ f.vertices;
    degrees = ap (λ g. length g.degrees) e ∙ f.degrees;
    ready_within = subst (AllIn (λ v. v < length ids)) (sym (ap (λ g. g.ready) e)) f.ready_within;
    stuck_within = subst (AllIn (λ v. v < length ids)) (sym (ap (λ g. g.stuck) e)) f.stuck_within;
    first = within;
    ready_kept = subst (AllIn (λ v. new.vertices.first ≤ v)) (sym (ap (λ g. g.ready) e))
        (all_put _ w.vertices.ready (λ v h. not_before new.vertices.first v (λ lt. (passed v (ready_there v h).0 lt).1 h)));
    stuck_kept = subst (AllIn (λ v. new.vertices.first ≤ v)) (sym (ap (λ g. g.stuck) e))
        (all_put _ w.vertices.stuck (λ v h. not_before new.vertices.first v (λ lt. (passed v (stuck_there v h).0 lt).2 h)));
    queues_kept = subst (λ (q : List Waiting). AllIn (λ x. new.vertices.first ≤ x.vertex) q) (sym (ap (λ g. g.waiting) e))
        (all_put _ w.queues (λ q h. not_before new.vertices.first q.vertex (λ lt. none q h (all_get _ w.queues f.queues_kept q h) lt)));
    past = λ v lt. subst (λ (xs : List Vertex). IsPast classes (vertex_at xs v)) (sym (ap (λ g. g.vertices) e)) (elim (either_le w.vertices.first v) [
      | inl le ↦ (passed v le lt).0
      | inr n ↦ f.past v (less v n)
    ]);
  }
    where
      less : (v : ℕ) → ¬ (w.vertices.first ≤ v) → v < w.vertices.first
      less v n = grind (arith, n)

      none : (q : Waiting) → Has w.queues q → w.vertices.first ≤ q.vertex → q.vertex < new.vertices.first → ⊥
      none q h le lt =
          let p : HasPassed classes w.vertices q.vertex = passed q.vertex le lt in
          all_get _ w.queues (past_entries view resolved done k (kept_of ids w classes) is q.vertex (below q.vertex lt) p.0 p.1 p.2) q h refl
        where
          below : (v : ℕ) → v < new.vertices.first → v < length ids
          below v m = omega (arith, m, within)

  -- where a class is further
  pub fitted_further : (at : ℕ) (o : Open) (next : ℕ) → o ≡ get_or classes at o → o.next ≤ next → IsFitted ids w (set classes at (record { members = o.members; next = next }))
  fitted_further at o next e le = record {
    few = f.few;
    vertices = f.vertices;
    degrees = f.degrees;
    ready_within = f.ready_within;
    stuck_within = f.stuck_within;
    first = f.first;
    ready_kept = f.ready_kept;
    stuck_kept = f.stuck_kept;
    queues_kept = f.queues_kept;
    past = λ v lt. let p : IsPast classes (vertex_at w.vertices.vertices v) = f.past v lt in
        record { complete = p.complete; class = done_further classes at o next e le (vertex_at w.vertices.vertices v).class p.class };
  }

  pub fitted_left : (leaving : List ℕ) (new : Waits) (others : List Open) → Leaves leaving (kept_of ids w others) (kept_of ids new others) → new.vertices.first ≡ w.vertices.first → IsFitted ids new classes
  fitted_left leaving new others l first = record {
    few = f.few;
    vertices = ap length l.vertices ∙ f.vertices;
    degrees = l.size ∙ f.degrees;
    ready_within = all_put _ new.vertices.ready (λ v h. (ready v h).1);
    stuck_within = all_put _ new.vertices.stuck (λ v h. (stuck v h).1);
    first = subst (λ n. n ≤ length ids) (sym first) f.first;
    ready_kept = subst (λ n. AllIn (λ v. n ≤ v) new.vertices.ready) (sym first) (all_put _ new.vertices.ready (λ v h. (ready v h).0));
    stuck_kept = subst (λ n. AllIn (λ v. n ≤ v) new.vertices.stuck) (sym first) (all_put _ new.vertices.stuck (λ v h. (stuck v h).0));
    queues_kept = subst (λ n. AllIn (λ q. n ≤ q.vertex) new.queues) (sym first)
        (subst (λ (q : List Waiting). AllIn (λ x. w.vertices.first ≤ x.vertex) q) (sym l.waiting) (filter_all _ (λ x. not (is_leaving leaving x.vertex)) w.queues f.queues_kept));
    past = λ v lt. subst (λ (xs : List Vertex). IsPast classes (vertex_at xs v)) (sym l.vertices) (f.past v (subst (λ n. v < n) first lt));
  }
    where
      stuck : (v : ℕ) → Has new.vertices.stuck v → (w.vertices.first ≤ v) × (v < length ids)
      stuck v h = stuck_there v ((l.stuck v).0 h).0

      ready : (v : ℕ) → Has new.vertices.ready v → (w.vertices.first ≤ v) × (v < length ids)
      ready v h = elim ((l.ready v).0 h) [ inl o ↦ ready_there v o | inr s ↦ stuck_there v s.0 ]

  pub fitted_resolved : (members : List ℕ) (place : ℕ) (new : Waits) → AllIn (λ v. v < length ids) members → AllIn (λ v. w.vertices.first ≤ v) members
      → Resolves members place (kept_of ids w classes) (kept_of ids new (classes ++ record { members = members; next = 0 } ∷ [])) → new.vertices.first ≡ w.vertices.first
      → IsFitted ids new (classes ++ record { members = members; next = 0 } ∷ [])
  fitted_resolved members place new within kept r first = record {
    few = f.few;
    vertices = r.size ∙ f.vertices;
    degrees = ap length r.degrees ∙ f.degrees;
    ready_within = all_put _ new.vertices.ready (λ v h. (ready v h).1);
    stuck_within = all_put _ new.vertices.stuck (λ v h. (stuck v h).1);
    first = subst (λ n. n ≤ length ids) (sym first) f.first;
    ready_kept = subst (λ n. AllIn (λ v. n ≤ v) new.vertices.ready) (sym first) (all_put _ new.vertices.ready (λ v h. (ready v h).0));
    stuck_kept = subst (λ n. AllIn (λ v. n ≤ v) new.vertices.stuck) (sym first) (all_put _ new.vertices.stuck (λ v h. (stuck v h).0));
    queues_kept = subst (λ n. AllIn (λ q. n ≤ q.vertex) new.queues) (sym first) (subst (λ (q : List Waiting). AllIn (λ x. w.vertices.first ≤ x.vertex) q) (sym r.waiting) f.queues_kept);
    past = λ v lt. past v (subst (λ n. v < n) first lt);
  }
    where
      stuck : (v : ℕ) → Has new.vertices.stuck v → (w.vertices.first ≤ v) × (v < length ids)
      stuck v h = stuck_there v ((r.stuck v).0 h).0

      ready : (v : ℕ) → Has new.vertices.ready v → (w.vertices.first ≤ v) × (v < length ids)
      ready v h = elim ((r.ready v).0 h) [
        | inl o ↦ ready_there v o
        | inr e ↦ let m : Has members v = has_place members 0 v e in (all_get _ members kept v m, all_get _ members within v m)
      ]

      apart : (a b : ℕ) → a ≤ b → b < a → ⊥
      apart a b le lt = omega (arith, le, lt)

      past : (v : ℕ) → v < w.vertices.first → IsPast (classes ++ record { members = members; next = 0 } ∷ []) (vertex_at new.vertices.vertices v)
      past v lt = subst (IsPast (classes ++ record { members = members; next = 0 } ∷ [])) (sym (r.outside v (λ h. apart _ v (all_get _ members kept v h) lt))) (record {
        complete = (f.past v lt).complete;
        class = done_beside classes (record { members = members; next = 0 } ∷ []) (vertex_at w.vertices.vertices v).class (f.past v lt).class;
      })

  pub fitted_inserted : (more : List TxnId) (new : Waits) (part : Part) (v : ℕ) (entries : List Waiting) → length more < 2 ^ 32 → w.vertices.first ≤ v
      → Inserts part v entries (kept_of ids w classes) (kept_of more new classes) → new.vertices.first ≡ w.vertices.first → IsFitted more new classes
  fitted_inserted more new part v entries few kept i first = record {
    few = few;
    vertices = i.vertices;
    degrees = i.degrees;
    ready_within = all_put _ new.vertices.ready (λ u h. (ready u h).1);
    stuck_within = all_put _ new.vertices.stuck (λ u h. (stuck u h).1);
    first = subst (λ n. n ≤ length more) (sym first) (below _ _ _ kept i.within);
    ready_kept = subst (λ n. AllIn (λ v. n ≤ v) new.vertices.ready) (sym first) (all_put _ new.vertices.ready (λ u h. (ready u h).0));
    stuck_kept = subst (λ n. AllIn (λ v. n ≤ v) new.vertices.stuck) (sym first) (all_put _ new.vertices.stuck (λ u h. (stuck u h).0));
    queues_kept = subst (λ n. AllIn (λ q. n ≤ q.vertex) new.queues) (sym first) (subst (λ (q : List Waiting). AllIn (λ x. w.vertices.first ≤ x.vertex) q) (sym i.waiting)
        (all_append _ w.queues entries f.queues_kept (all_map _ _ entries (λ x s. subst (λ n. w.vertices.first ≤ n) (sym s.1) kept) i.entries.of_part)));
    past = λ u lt. past u (subst (λ n. u < n) first lt);
  }
    where
      below : (a b c : ℕ) → a ≤ b → b < c → a ≤ c
      below a b c le lt = omega (arith, le, lt)

      before : (a b c : ℕ) → a < b → b ≤ c → a < c
      before a b c lt le = omega (arith, lt, le)

      apart : (u : ℕ) → u < w.vertices.first → u ≢ v
      apart u lt e = omega (arith, lt, e, kept)

      grown : (u : ℕ) → (w.vertices.first ≤ u) × (u < length ids) → (w.vertices.first ≤ u) × (u < length more)
      grown u t = (t.0, (i.kept u t.1).0)

      at_v : (u : ℕ) → u ≡ v → (w.vertices.first ≤ u) × (u < length more)
      at_v u e = subst (λ x. (w.vertices.first ≤ x) × (x < length more)) (sym e) (kept, i.within)

      ready : (u : ℕ) → Has new.vertices.ready u → (w.vertices.first ≤ u) × (u < length more)
      ready u h = elim ((i.ready u).0 h) [ inl o ↦ grown u (ready_there u o) | inr e ↦ at_v u e.0 ]

      stuck : (u : ℕ) → Has new.vertices.stuck u → (w.vertices.first ≤ u) × (u < length more)
      stuck u h = elim ((i.stuck u).0 h) [ inl o ↦ grown u (stuck_there u o) | inr e ↦ at_v u e.0 ]

      past : (u : ℕ) → u < w.vertices.first → IsPast classes (vertex_at new.vertices.vertices u)
      past u lt = subst (IsPast classes) (sym (i.others u (i.kept u (before u _ _ lt f.first)).0 (apart u lt)).1) (f.past u lt)
