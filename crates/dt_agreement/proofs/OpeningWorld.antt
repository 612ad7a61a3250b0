-- The opening world keeps the invariant, with the empty order.
use Rattle.std.proofs.Common.{◌≡◌, ◌<◌, ◌≤◌, ℕ, zero, suc, List, [], ◌∷◌, ◌++◌, length, map, get_or, take, replicate, None, refl, sym, ap, subst, ◌∙◌, inl, inr, arith}
use Rattle.std.specs.Prelude.{slice_index, flat_map}
use Rattle.std.proofs.lemmas.List.{length-replicate, get_or-replicate, get_or_past}
use Rattle.dt_lists.specs.Lists.{AllIn, Has, Pairwise, Either}
use Rattle.dt_lists.proofs.Callers.{either_le, either_nat, get_of_replicate}
use Rattle.dt_sched.specs.Views.{ids_of}
use Rattle.dt_sched.specs.Decide.{IsSound}
use Rattle.dt_sched.proofs.Callers.{sound_with_none, well_formed_front}
use Rattle.dt_txn.specs.Replica.{done_ids}
use Rattle.dt_cluster.specs.declared.Cluster.{Cluster}
use Rattle.dt_workload.specs.declared.Session.{Session}
use Rattle.dt_workload.specs.declared.Workload.{Workload}
use Rattle.dt_session.specs.World.{World, Node, no_node, opening_node, opening_table, opening_world, idle_place, node_at, asked_of, taken_of, log_of, logs_of}
use Rattle.dt_session.specs.World.{received_of, received_lengths, received_logs, view_at, submissions}
use Rattle.dt_session.specs.Run.{txns_of}
use Rattle.dt_agreement.specs.Invariant.{IsSized, AreNumbered, IsPartAt, given_by, requests, IsLog, AreInOrder, IsRunOf, IsOrder, IsPlaced, IsPlaceOf, SessionsMatch, Inv}
use Rattle.dt_agreement.proofs.Views.{fronts_longer, received_own, received_other}
use Rattle.dt_agreement.proofs.Logs.{logs_well_formed}

joined_none : {A B : Type 0} (f : A → List B) (n : ℕ) (x : A) → f x ≡ [] → flat_map f (replicate n x) ≡ []
joined_none f zero x e = refl
joined_none f (suc n) x e = ap (λ l. l ++ flat_map f (replicate n x)) e ∙ joined_none f n x e

module _ (cluster : Cluster) (workload : Workload) where
  w : World
  w = opening_world cluster workload

  nodes : length w.nodes ≡ cluster.regions
  unfolding w
  nodes = length-replicate cluster.regions (opening_node cluster.regions (opening_table cluster))

  node : (q : ℕ) → q < cluster.regions → node_at w q ≡ opening_node cluster.regions (opening_table cluster)
  unfolding w
  node q lt = get_or-replicate cluster.regions q (opening_node cluster.regions (opening_table cluster)) no_node lt

  node_past : (q : ℕ) → cluster.regions ≤ q → node_at w q ≡ no_node
  unfolding w
  node_past q le = get_or_past (replicate cluster.regions (opening_node cluster.regions (opening_table cluster))) q no_node (omega (arith, nodes))

  -- what all nodes, and that of no region, have alike
  of_any : {A : Type 0} (f : Node → A) (x : A) → f (opening_node cluster.regions (opening_table cluster)) ≡ x → f no_node ≡ x → (q : ℕ) → f (node_at w q) ≡ x
  of_any f x e n q = by (either_le (suc q) cluster.regions)
    where
      by : Either (q < cluster.regions) → f (node_at w q) ≡ x
      by (inl lt) = ap f (node q lt) ∙ e
      by (inr m) = ap f (node_past q (omega arith)) ∙ n

  no_subs : submissions w ≡ []
  unfolding w
  no_subs = joined_none (λ n. n.submitted) cluster.regions (opening_node cluster.regions (opening_table cluster)) refl

  pub opening_submissions : submissions (opening_world cluster workload) ≡ []
  unfolding w
  opening_submissions = no_subs

  none_submitted : (q : ℕ) → (node_at w q).submitted ≡ []
  none_submitted q = of_any (λ n. n.submitted) [] refl refl q

  none_done : (q : ℕ) → done_ids (node_at w q).here ≡ []
  none_done q = of_any (λ n. done_ids n.here) [] refl refl q

  no_log : (q : ℕ) → log_of w q ≡ []
  no_log q = of_any (λ n. n.log) [] refl refl q

  sized : (q : ℕ) → q < cluster.regions → IsSized cluster.regions (node_at w q)
  sized q lt =
      subst (IsSized cluster.regions) (sym (node q lt))
      (record { asked = length-replicate cluster.regions []; taken = length-replicate cluster.regions 0; received = length-replicate cluster.regions 0; inserted = length-replicate cluster.regions 0 })

  numbered : (q : ℕ) → q < cluster.regions → AreNumbered q (node_at w q).submitted
  numbered q lt = subst (AreNumbered q) (sym (none_submitted q)) (λ j s e. cc)

  none_asked : (q home : ℕ) → asked_of w q home ≡ []
  none_asked q home = of_any (λ n. get_or n.here.asked home []) [] (get_of_replicate cluster.regions home []) (get_of_replicate 0 home []) q

  none_taken : (home q : ℕ) → taken_of w home q ≡ 0
  none_taken home q = of_any (λ n. slice_index n.here.taken q) 0 (get_of_replicate cluster.regions q 0) (get_of_replicate 0 q 0) home

  none_inserted : (q home : ℕ) → slice_index (node_at w q).here.inserted home ≡ 0
  none_inserted q home = of_any (λ n. slice_index n.here.inserted home) 0 (get_of_replicate cluster.regions home 0) (get_of_replicate 0 home 0) q

  none_received : (q home : ℕ) → q < cluster.regions → received_of w q home ≡ 0
  none_received q home lt = by (either_nat home q)
    where
      by : Either (home ≡ q) → received_of w q home ≡ 0
      by (inl e) = subst (λ h. received_of w q h ≡ 0) (sym e) (received_own w q (subst (λ m. q < m) (sym (sized q lt).received) lt) ∙ ap length (no_log q))
      by (inr n) = received_other w q home n ∙ of_any (λ x. slice_index x.received home) 0 (get_of_replicate cluster.regions home 0) (get_of_replicate 0 home 0) q

  asked : (q home : ℕ) → q < cluster.regions → home < cluster.regions → asked_of w q home ≡ requests home (node_at w q).submitted
  asked q home lq lh = none_asked q home ∙ sym (ap (requests home) (none_submitted q))

  logs : (home : ℕ) → home < cluster.regions → IsLog cluster.regions w home
  logs home lh = record {
    parts = subst (AllIn (IsPartAt w home)) (sym (no_log home)) tt;
    taken = λ source ls. let n : taken_of w home source ≡ 0 = none_taken home source in omega arith;
    given = λ source ls. ap (λ l. given_by source (ids_of l)) (no_log home) ∙ sym (ap (λ n. take n (asked_of w source home)) (none_taken home source));
  }

  lengths : (q home : ℕ) → q < cluster.regions → home < cluster.regions → AreInOrder w q home
  lengths q home lq lh = let a : slice_index (node_at w q).here.inserted home ≡ 0 = none_inserted q home in let b : received_of w q home ≡ 0 = none_received q home lq in record { inserted = omega arith; received = omega arith }

  sound : (q : ℕ) → q < cluster.regions → IsSound (view_at w q) (node_at w q).here.resolved (done_ids (node_at w q).here)
  sound q lq =
      subst (IsSound (view_at w q) (node_at w q).here.resolved) (sym (none_done q))
      (subst (λ l. IsSound (view_at w q) l []) (sym (of_any (λ n. n.here.resolved) [] refl refl q))
      (sound_with_none (view_at w q) (well_formed_front (view_at w q) (received_logs w q) (fronts_longer (node_at w q).here.inserted (received_logs w q))
      (well_formed_front (received_logs w q) (logs_of w) (fronts_longer (received_lengths w q) (logs_of w)) (logs_well_formed cluster.regions w nodes numbered asked logs)))))

  tables : (q : ℕ) → q < cluster.regions → IsRunOf cluster (opening_table cluster) (txns_of w (done_ids (node_at w q).here)) (node_at w q).here
  tables q lq = subst (λ n. IsRunOf cluster (opening_table cluster) (txns_of w (done_ids n.here)) n.here) (sym (node q lq)) (record { outcomes = refl; table = refl })

  ordered : IsOrder cluster.regions w []
  ordered = record {
    executed = λ id. (λ h. absurd h, λ r. subst (λ l. Has l id) (none_done r.0) r.2);
    down = record { once = tt; preceders = λ u t h p. absurd h };
  }

  places_idle : (sessions : List Session) → Pairwise (IsPlaceOf cluster.tries w) sessions (map (λ session. idle_place) sessions)
  places_idle [] = tt
  places_idle (s ∷ sessions) = (record { answered = omega arith; placed = subst (λ l. IsPlaced cluster.tries l s 0 None) (sym (none_submitted s.region)) (omega arith) }, places_idle sessions)

  sessions : SessionsMatch cluster workload w
  unfolding w
  sessions = record {
    places = places_idle workload.sessions;
    known = λ q lq. subst (AllIn _) (sym (none_submitted q)) tt;
  }

  pub opening_keeps : Inv cluster workload (opening_world cluster workload) []
  unfolding w
  opening_keeps = record {
    nodes = nodes;
    sized = sized;
    ids = numbered;
    valid = subst (AllIn _) (sym no_subs) tt;
    asked = asked;
    logs = logs;
    lengths = lengths;
    sound = sound;
    tables = tables;
    ordered = ordered;
    sessions = sessions;
  }
