-- The counts as the code takes them off the seats are those of the nodes.
use Rattle.std.proofs.Common.{◌≡◌, ◌<◌, ◌≤◌, ◌+◌, ◌^◌, ℕ, zero, suc, Bool, true, false, cond, eqb, List, [], ◌∷◌, length, get_or, refl, sym, ap, subst, ◌∙◌, arith, append-nil}
use Rattle.std.specs.Prelude.{sum_by}
use Rattle.std.proofs.lemmas.List.Sums.{sum_by-cons}
use Rattle.std.proofs.Math.ListN.{get_or-map}
use Rattle.dt_lists.proofs.Callers.{all_map}
use Rattle.dt_events.specs.Stamps.{events_of}
use Rattle.dt_cluster.specs.declared.Cluster.{Cluster}
use Rattle.dt_workload.specs.declared.Workload.{Workload}
use Rattle.dt_merge.specs.Weight.{most_events, sum_below}
use Rattle.dt_node.specs.NodeView.{NodeView}
use Rattle.dt_node.specs.NodeInWorld.{AreTold}
use Rattle.dt_run.specs.Marks.{kept_by_region}
use Rattle.dt_run.specs.NodesView.{NodesView, node_in, opening_nodes, waiting_at}
use Rattle.dt_run.specs.Phase.{EndsInStep, IsPhase}
use Rattle.dt_run.specs.SeatsInner.{HasCounts, AreSeated, SeatView, events_at, no_seat, nodes_view, seat_at}
use Rattle.dt_run.specs.Silence.{ComesToAnEnd, PhaseIsCounted, counts_in, all_kept_after, all_kept_in, made_in, quiet_after, quiet_in}
use Rattle.dt_run.specs.declared.counts.Counts.{Counts}
use Rattle.dt_run.proofs.CountedPhases.{is_counted}
use Rattle.dt_run.proofs.Laws.{most_few, sum_below_first, sum_below_same}
use Rattle.dt_run.proofs.RunEnds.{ends_on, kept_few, opening_counts, opening_ends}
use Rattle.dt_run.proofs.WaitingPackets.{node_is, one_for_each}
use Rattle.dt_run.proofs.WaitingPackets as waiting

-- a sum along a list, by places
sum_along : {A : Type 0} (f : A → ℕ) (xs : List A) (d : A) → sum_below (λ k. f (get_or xs k d)) (length xs) ≡ sum_by f xs
sum_along f [] d = refl
sum_along f (x ∷ xs) d =
    let a : sum_below (λ k. f (get_or (x ∷ xs) k d)) (suc (length xs)) ≡ f x + sum_below (λ k. f (get_or xs k d)) (length xs) = sum_below_first (λ k. f (get_or (x ∷ xs) k d)) (length xs) in
    let b : sum_below (λ k. f (get_or xs k d)) (length xs) ≡ sum_by f xs = sum_along f xs d in
    let c : sum_by f (x ∷ xs) ≡ f x + sum_by f xs = sum_by-cons f x xs in
    omega (arith, a, b, c)

-- there are no more silent phases than phases
quiet_few : (v : NodesView) (made : ℕ) → quiet_after v made ≤ made
quiet_few v zero = omega arith
quiet_few v (suc made) = go (eqb (all_kept_after v made) (all_kept_after v (suc made))) (quiet_few v made)
  where
    go : (b : Bool) → quiet_after v made ≤ made → cond b (quiet_after v made + 1) 0 ≤ suc made
    go true less = omega (arith, less)
    go false less = omega arith

-- what is seen of seats

module _ (cluster : Cluster) (workload : Workload) (seats : List SeatView) (broken : Bool) where
  abbrev seen : NodesView
  seen = nodes_view cluster workload seats broken

  pub made_seen : length (seat_at seats 0).marks ≡ made_in seen
  made_seen = ap length (sym (get_or-map (λ (s : SeatView). s.marks) seats 0 no_seat))

  pub kept_seen : length seats ≡ cluster.regions → sum_by events_at seats ≡ all_kept_in seen
  kept_seen many =
      sym (sum_along events_at seats no_seat)
      ∙ sum_below_same _ _ (length seats) (λ r lt. ap (λ (n : NodeView). length n.site.region.events) (sym (node_is cluster workload seats broken r)))
      ∙ ap (sum_below (λ r. length (kept_by_region seen r))) many

-- what the seats keep can be counted
pub kept_fits : {cluster : Cluster} {workload : Workload} {seats : List SeatView} {broken : Bool} → AreSeated cluster workload seats broken → sum_by events_at seats < 2 ^ 64
kept_fits {cluster} {workload} {seats} {broken} a =
    let seen : sum_by events_at seats ≡ all_kept_in (nodes_view cluster workload seats broken) = kept_seen cluster workload seats broken (one_for_each a) in
    let few : all_kept_in (nodes_view cluster workload seats broken) ≤ most_events cluster workload = kept_few a.nodes in
    let most : most_events cluster workload ≤ 24640000 = most_few cluster a.nodes.cluster workload a.nodes.workload in
    omega (arith, seen, few, most)

-- before the first phase
pub opening_counted : (cluster : Cluster) (workload : Workload) (v : NodesView) (counts : Counts) → v ≡ opening_nodes cluster workload → counts ≡ record { made = 0; kept = 0; quiet = 0 } → HasCounts v counts
opening_counted cluster workload v counts is none = subst (λ u. HasCounts u counts) (sym is) (record { are = none ∙ sym (opening_counts cluster workload); ends = opening_ends cluster workload })

-- a phase that did not fail
module _ {cluster : Cluster} {workload : Workload} {seats seats' : List SeatView} {broken : Bool} (a : AreSeated cluster workload seats broken) (sound : broken ≡ false) {counts : Counts}
    (k : HasCounts (nodes_view cluster workload seats broken) counts) (later : AreSeated cluster workload seats' broken)
    (phase : IsPhase (nodes_view cluster workload seats broken) (nodes_view cluster workload seats' broken)) (ends : EndsInStep (nodes_view cluster workload seats broken) (nodes_view cluster workload seats' broken)) where
  abbrev v : NodesView
  v = nodes_view cluster workload seats broken

  abbrev v' : NodesView
  v' = nodes_view cluster workload seats' broken

  told : (region : ℕ) → region < cluster.regions → AreTold cluster workload (events_of a.nodes.all) (waiting_at v region) (node_in v region)
  told region lr = record {
    addressed = waiting.addressed a sound lr;
    told = all_map _ _ (waiting_at v region) (λ p t. t.told a.nodes.all [] (sym (append-nil a.nodes.all)) tt) (waiting.trues a sound lr);
  }

  pub phase_counted : PhaseIsCounted v v'
  phase_counted = is_counted (a.nodes.in_step sound) phase ends a.nodes.cluster.some

  pub phase_ends : ComesToAnEnd v'
  phase_ends = ends_on a.nodes sound told phase ends later.nodes k.ends

  -- so it can be counted

  pub quiet_fits : counts.quiet < length (seat_at seats' 0).marks
  quiet_fits =
      let q : counts.quiet ≡ quiet_in v = ap (λ (c : Counts). c.quiet) k.are in
      let f : quiet_in v ≤ made_in v = quiet_few v (made_in v) in
      let n : made_in v' ≡ made_in v + 1 = phase_counted.made in
      let s : length (seat_at seats' 0).marks ≡ made_in v' = made_seen cluster workload seats' broken in
      omega (arith, q, f, n, s)

  -- and these are the counts then
  pub counted_now : (now : Counts) → now.made ≡ length (seat_at seats' 0).marks → now.kept ≡ sum_by events_at seats' → now.quiet ≡ cond (eqb counts.kept now.kept) (counts.quiet + 1) 0 → HasCounts v' now
  counted_now now made kept quiet = record { are = same; ends = phase_ends }
    where
      made_is : now.made ≡ made_in v'
      made_is = made ∙ made_seen cluster workload seats' broken

      kept_is : now.kept ≡ all_kept_in v'
      kept_is = kept ∙ kept_seen cluster workload seats' broken (one_for_each later)

      quiet_is : now.quiet ≡ quiet_in v'
      quiet_is =
          let x : counts.kept ≡ all_kept_in v = ap (λ (c : Counts). c.kept) k.are in
          let y : counts.quiet ≡ quiet_in v = ap (λ (c : Counts). c.quiet) k.are in
          quiet ∙ (λ i. cond (eqb (x i) (kept_is i)) (y i + 1) 0) ∙ sym phase_counted.quiet

      same : now ≡ counts_in v'
      same = λ i. record { made = made_is i; kept = kept_is i; quiet = quiet_is i }
