-- What the scheduler with queues keeps is the graph of what was inserted, resolved and done, at first and after each call; and
-- what its calls read off it is what may be executed.
use Rattle.std.proofs.Common.{◌≡◌, ◌<◌, ◌↔◌, ◌∙◌, ℕ, List, [], ◌∷◌, ◌++◌, length, map, replicate, set, slice_get, Option, None, Some, MatchOption}
use Rattle.std.proofs.Common.{◌-◌, refl, sym, ap, subst, inl, inr, arith}
use Rattle.std.proofs.lemmas.Option.{get_or_from_slice_get, slice_get-get_or, slice_get_within}
use Rattle.dt_lists.specs.Lists.{AllIn, Has, EachThen}
use Rattle.dt_lists.proofs.Callers.{any_at, any_from_at, any_get, pairwise_length, some_same, at_back}
use Rattle.dt_access.specs.Orders.{AreAscendingHomes}
use Rattle.dt_access.specs.declared.TxnId.{TxnId}
use Rattle.dt_access.specs.declared.Part.{Part}
use Rattle.dt_sched.specs.Views.{log_at, HasPart, IsPresent, IsSooner, rank_of}
use Rattle.dt_sched.specs.Sched.{CanExecute, CanInsert, CanResolve, IsNextReady, Sched, after_finish, after_insert, after_resolve, nothing_yet}
use Rattle.dt_sched.proofs.Callers.{complete_of_closed, present_of_complete, rank_of_part, empty_log}
use Rattle.dt_waits.specs.Waits.{id_at}
use Rattle.dt_waits.specs.Graph.{GraphView, IsKeeping, IsPlaceOfClass, KeepsGraph, nothing_kept, vertex_at}
use Rattle.dt_waits.specs.Steps.{FinishesId, InsertsPart, Resolves, ResolvesClass, RunsBefore, alone, before, last}
use Rattle.dt_waits.proofs.OrderlyStates.{orderly_at_first, orderly_finish, orderly_insert, orderly_resolve}
use Rattle.dt_waits.proofs.DegreeZero.{id_has, place_has}
use Rattle.dt_waits.proofs.InsertStep.{inserted}
use Rattle.dt_waits.proofs.ResolveStep.{resolved_more}
use Rattle.dt_waits.proofs.FinishStep.{finished_alone, finished_before, finished_last}

pub keeping_first : (regions : ℕ) → IsKeeping (nothing_yet regions) nothing_kept
keeping_first regions = record {
  orderly = orderly_at_first regions;
  graph = record {
    once = tt;
    present = λ t. (λ h. absurd h, λ p. nobody t p);
    vertices = refl;
    degrees = refl;
    kept = λ v lt. absurd (none v lt);
    uses = record {
      distinct = tt;
      vertices = tt;
      of_parts = tt;
      of_left = tt;
      all_wait = λ home p way h l k. absurd (subst (λ log. Has log p) (empty_log regions home) h);
      in_order = tt;
    };
    slots = λ v lt l. absurd (none v lt);
    counts = λ v lt l. absurd (none v lt);
    ready = λ v. (λ h. absurd h, λ r. absurd (none v r.0));
    stuck = λ v. (λ h. absurd h, λ r. absurd (none v r.0));
    classes = tt;
  };
}
  where
    none : (v : ℕ) → v < 0 → ⊥
    none v lt = omega (arith, lt)

    nobody : (t : TxnId) → IsPresent (replicate regions []) t → ⊥
    nobody t p =
        let r : (home : ℕ) × (home < length (replicate regions [])) × HasPart (log_at (replicate regions []) home) t = any_at (λ log. HasPart log t) [] (replicate regions []) p in
        subst (λ log. HasPart log t) (empty_log regions r.0) r.2

-- what was pushed is the last item
pub last_pushed : {A : Type 0} (xs : List A) (x y : A) → Some y ≡ slice_get (xs ++ x ∷ []) (length (xs ++ x ∷ []) - 1) → y ≡ x
last_pushed xs x y e = some_same (e ∙ sym (at_back xs x))

-- by the place of an id
pub at_named : (ids : List TxnId) (v : ℕ) (id : TxnId) → slice_get ids v ≡ Some id → id_at ids v ≡ id
at_named ids v id e = get_or_from_slice_get ids v id (record { seq = 0; region = 0 }) e

module _ (s : Sched) (old : GraphView) (k : IsKeeping s old) where
  pub keeping_insert : (part : Part) (new : GraphView) → CanInsert s.logs part → AreAscendingHomes part.homes → InsertsPart part old new → IsKeeping (after_insert s part) new
  keeping_insert part new can ascending i = record {
    orderly = orderly_insert s.logs s.resolved s.done part can k.orderly;
    graph = inserted s.logs s.resolved s.done part k.orderly can ascending i.0 i.1 old new k.graph i.2;
  }

  -- the part at the back of its log was inserted
  pub keeping_pushed : (part back : Part) (log : List Part) (new : GraphView) → log ≡ log_at s.logs part.home ++ part ∷ [] → Some back ≡ slice_get log (length log - 1)
      → CanInsert s.logs part → AreAscendingHomes back.homes → InsertsPart back old new → IsKeeping (record s { logs = set s.logs part.home log }) new
  keeping_pushed part back log new e at can ascending i =
      subst (λ l. IsKeeping (record s { logs = set s.logs part.home l }) new) (sym e) (keeping_insert part new can (subst (λ p. AreAscendingHomes p.homes) same ascending) (subst (λ p. InsertsPart p old new) same i))
    where
      same : back ≡ part
      same = last_pushed (log_at s.logs part.home) part back (subst (λ l. Some back ≡ slice_get l (length l - 1)) e at)

  -- the rank that is kept of a vertex is that of its transaction
  rank_kept : (v : ℕ) → v < length old.ids → (vertex_at old.vertices v).rank ≡ rank_of s.logs (id_at old.ids v)
  rank_kept v lt =
      let at : (home : ℕ) × (home < length s.logs) × HasPart (log_at s.logs home) (id_at old.ids v) = any_at _ [] s.logs ((k.graph.present (id_at old.ids v)).0 (id_has old.ids v lt)) in
      let p : (p : Part) × Has (log_at s.logs at.0) p × (p.id ≡ id_at old.ids v) = any_get _ (log_at s.logs at.0) at.2 in
      (k.graph.kept v lt).rank at.0 p.0 p.1 p.2 ∙ sym (rank_of_part s.logs k.orderly.sound.well_formed p.0 (any_from_at (λ log. Has log p.0) [] s.logs at.0 (λ e. e) p.1)) ∙ ap (rank_of s.logs) p.2

  sooner_of_ranks : (u v : ℕ) → u < length old.ids → v < length old.ids → RunsBefore old u v → IsSooner s.logs (id_at old.ids u) (id_at old.ids v)
  sooner_of_ranks u v lu lv (inl lt) = inl (subst (λ n. n < rank_of s.logs (id_at old.ids v)) (rank_kept u lu) (subst (λ n. (vertex_at old.vertices u).rank < n) (rank_kept v lv) lt))
  sooner_of_ranks u v lu lv (inr e) = inr (sym (rank_kept u lu) ∙ e.0 ∙ rank_kept v lv, e.1)

  pub keeping_resolve : (ids : List TxnId) (new : GraphView) → CanResolve s ids → ResolvesClass ids old new → IsKeeping (after_resolve s ids) new
  keeping_resolve ids new can r = record {
    orderly = orderly_resolve s.logs s.resolved s.done ids can k.orderly;
    graph = resolved_more s.logs s.resolved s.done ids k.orderly can old new r.0 k.graph (subst (λ n. Resolves r.0 n old new) (sym (pairwise_length _ s.resolved old.classes k.graph.classes)) r.2) r.1.within
        (in_order r.0 r.1.within r.1.ordered) r.1.names;
  }
    where
      in_order : (vs : List ℕ) → AllIn (λ v. v < length old.ids) vs → EachThen (RunsBefore old) vs → EachThen (IsSooner s.logs) (map (id_at old.ids) vs)
      in_order [] all each = tt
      in_order (v ∷ vs) all each = (later vs all.1 each.0, in_order vs all.1 each.1)
        where
          later : (us : List ℕ) → AllIn (λ v. v < length old.ids) us → AllIn (RunsBefore old v) us → AllIn (IsSooner s.logs (id_at old.ids v)) (map (id_at old.ids) us)
          later [] all each = tt
          later (u ∷ us) more each = (sooner_of_ranks v u all.0 more.0 each.0, later us more.1 each.1)

  pub keeping_finish : (id : TxnId) (new : GraphView) → CanExecute s id → FinishesId id old new → IsKeeping (after_finish s id) new
  keeping_finish id new can f = record { orderly = orderly_finish s.logs s.resolved s.done id can k.orderly; graph = by f }
    where
      class_of : (v : ℕ) → slice_get old.ids v ≡ Some id → IsPlaceOfClass s.resolved id (vertex_at old.vertices v).class
      class_of v at = subst (λ t. IsPlaceOfClass s.resolved t (vertex_at old.vertices v).class) (at_named old.ids v id at) (k.graph.kept v (slice_get_within old.ids v id at)).class

      by : FinishesId id old new → KeepsGraph s.logs s.resolved (s.done ++ id ∷ []) new
      by (alone v at none f) = finished_alone s.logs s.resolved s.done id k.orderly can old new k.graph v (slice_get_within old.ids v id at) (at_named old.ids v id at)
          (subst (IsPlaceOfClass s.resolved id) none (class_of v at)) f
      by (before v place next kept at some kept_at next_at f) =
          let c : (ids : List TxnId) × (slice_get s.resolved place ≡ Some ids) × Has ids id = subst (IsPlaceOfClass s.resolved id) some (class_of v at) in
          finished_before s.logs s.resolved s.done id k.orderly can old new k.graph v (slice_get_within old.ids v id at) (at_named old.ids v id at) place c.0 kept c.1 kept_at c.2 next next_at f
      by (last v place kept at some kept_at end f) =
          let c : (ids : List TxnId) × (slice_get s.resolved place ≡ Some ids) × Has ids id = subst (IsPlaceOfClass s.resolved id) some (class_of v at) in
          finished_last s.logs s.resolved s.done id k.orderly can old new k.graph v (slice_get_within old.ids v id at) (at_named old.ids v id at) place c.0 kept c.1 kept_at c.2 end f

  -- what is ready may be executed, and nothing else

  pub ready_executable : (id : TxnId) → ((v : ℕ) × (slice_get old.ids v ≡ Some id) × Has old.ready v) ↔ CanExecute s id
  ready_executable id = (
    λ r. subst (CanExecute s) (at_named old.ids r.0 id r.1) ((k.graph.ready r.0).0 r.2).1,
    λ x.
        let v : (v : ℕ) × (v < length old.ids) × (id_at old.ids v ≡ id) = place_has old.ids id ((k.graph.present id).1 (present_of_complete s.logs id (complete_of_closed s.logs id x.closed))) in
        (v.0, slice_get-get_or old.ids v.0 (record { seq = 0; region = 0 }) v.1 ∙ ap Some v.2, (k.graph.ready v.0).1 (v.1, subst (CanExecute s) (sym v.2) x)),
  )

  pub next_ready_some : (busy : List TxnId) (id : TxnId) → (v : ℕ) × Has old.ready v × (id_at old.ids v ≡ id) → ¬ (Has busy id) → IsNextReady s busy (Some id)
  next_ready_some busy id r n = (subst (CanExecute s) r.2 ((k.graph.ready r.0).0 r.1).1, n)

  pub next_ready_none : (busy : List TxnId) → ((v : ℕ) → Has old.ready v → Has busy (id_at old.ids v)) → IsNextReady s busy None
  next_ready_none busy all id x =
      let r : (v : ℕ) × (slice_get old.ids v ≡ Some id) × Has old.ready v = (ready_executable id).1 x in
      subst (Has busy) (at_named old.ids r.0 id r.1) (all r.0 r.2)

  pub next_ready_told : (busy : List TxnId) (answer : Option TxnId)
      → MatchOption answer ((v : ℕ) → Has old.ready v → Has busy (id_at old.ids v)) (λ id. ((v : ℕ) × Has old.ready v × (id_at old.ids v ≡ id)) × ¬ (Has busy id)) → IsNextReady s busy answer
  next_ready_told busy None all = next_ready_none busy all
  next_ready_told busy (Some id) r = next_ready_some busy id r.0 r.1
