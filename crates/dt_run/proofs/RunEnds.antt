-- What makes a run end is so before the first phase, and after each phase that does not fail.
use Rattle.std.proofs.Common.{◌≡◌, ◌≢◌, ◌<◌, ◌≤◌, ◌+◌, ◌*◌, ℕ, zero, suc, false, List, [], length, get_or, replicate, refl, sym, ap, ◌∙◌, inl, inr, arith}
use Rattle.std.specs.List.{range_with_len}
use Rattle.std.proofs.lemmas.List.{length-map}
use Rattle.std.proofs.Math.ListN.{get_or-map}
use Rattle.dt_lists.specs.Lists.{Either}
use Rattle.dt_lists.proofs.Callers.{all_at, all_image, all_put, either_nat}
use Rattle.dt_events.specs.declared.Stamped.{Stamped}
use Rattle.dt_events.specs.Stamps.{events_of}
use Rattle.dt_cluster.specs.declared.Cluster.{Cluster}
use Rattle.dt_workload.specs.declared.Workload.{Workload}
use Rattle.dt_session.specs.World.{opening_world}
use Rattle.dt_agreement.specs.LegalRun.{IsLegalRun}
use Rattle.dt_agreement.proofs.Callers.{legal_keeps}
use Rattle.dt_merge.specs.Merge.{those_at}
use Rattle.dt_merge.specs.Weight.{most_events, sum_below}
use Rattle.dt_merge.specs.WorldRegions.{HasInvariant}
use Rattle.dt_node.specs.NodeView.{NodeView, opening_node_of}
use Rattle.dt_node.specs.NodeInWorld.{AreTold}
use Rattle.dt_run.specs.EndOfRun.{IsAllDone}
use Rattle.dt_run.specs.Marks.{kept_by_region}
use Rattle.dt_run.specs.NodesStand.{AreInStep, AreNodes}
use Rattle.dt_run.specs.NodesView.{NodesView, no_running_node, node_in, opening_nodes, waiting_at}
use Rattle.dt_run.specs.Phase.{EndsInStep, IsPhase}
use Rattle.dt_run.specs.Silence.{ComesToAnEnd, IsExact, IsSilent, PacketsWait, counts_in, all_kept_in, made_in, most_phases, quiet_after, quiet_in}
use Rattle.dt_run.proofs.CountedPhases.{all_of_all, kept_up, made_now, quiet_more, quiet_none, silent_of}
use Rattle.dt_run.proofs.Laws.{events_few, sum_below_same}
use Rattle.dt_run.proofs.QuietPhases.{done_now, exact_and_put, exact_now, exact_or_put}
use Rattle.dt_run.proofs.DoneForGood.{stays_done}

-- the number of events is bounded
pub kept_few : {v : NodesView} → AreNodes v → all_kept_in v ≤ most_events v.cluster v.workload
kept_few {v} n =
    let a : all_kept_in v ≡ sum_below (λ q. length (those_at q n.all)) v.cluster.regions =
    sum_below_same _ _ v.cluster.regions (λ q lq. ap length (sym (get_or-map (λ (m : NodeView). m.site.region.events) v.nodes q no_running_node) ∙ n.chronicle.lists q)) in
    let b : sum_below (λ q. length (those_at q n.all)) v.cluster.regions ≤ length n.all = all_of_all n.all v.cluster.regions in
    let c : length (events_of n.all) ≡ length n.all = length-map n.all (λ (x : Stamped). x.event) in
    let run : IsLegalRun v.cluster v.workload [] = record { sound = n.cluster; fits = n.workload; legal = tt } in
    let opening : HasInvariant v.cluster v.workload (opening_world v.cluster v.workload) = record { order = []; inv = legal_keeps run } in
    let d : length (events_of n.all) ≤ most_events v.cluster v.workload =
    events_few v.cluster n.cluster v.workload n.workload (opening_world v.cluster v.workload) (events_of n.all) opening n.chronicle.legal n.chronicle.changing in
    omega (arith, a, b, c, d)

-- before the first phase nothing is made and nothing is kept

none_made : (n : ℕ) → get_or {A = List ℕ} (replicate n []) 0 [] ≡ []
none_made zero = refl
none_made (suc n) = refl

none_kept : (cluster : Cluster) (workload : Workload) (region : ℕ) → kept_by_region (opening_nodes cluster workload) region ≡ []
none_kept cluster workload region =
    all_at (λ (m : NodeView). m.site.region.events ≡ []) no_running_node (opening_nodes cluster workload).nodes region refl
    (all_image (λ (m : NodeView). m.site.region.events ≡ []) (opening_node_of cluster workload) (range_with_len 0 cluster.regions) (all_put _ (range_with_len 0 cluster.regions) (λ k h. refl)))

nothing : (f : ℕ → ℕ) (n : ℕ) → ((k : ℕ) → f k ≡ 0) → sum_below f n ≡ 0
nothing f zero e = refl
nothing f (suc n) e = let a : sum_below f n ≡ 0 = nothing f n e in let b : f n ≡ 0 = e n in omega (arith, a, b)

module _ (cluster : Cluster) (workload : Workload) where
  abbrev first : NodesView
  first = opening_nodes cluster workload

  made_first : made_in first ≡ 0
  made_first = ap length (none_made cluster.regions)

  quiet_first : quiet_in first ≡ 0
  quiet_first = ap (quiet_after first) made_first

  kept_first : all_kept_in first ≡ 0
  kept_first = nothing _ cluster.regions (λ region. ap length (none_kept cluster workload region))

  pub opening_counts : counts_in first ≡ record { made = 0; kept = 0; quiet = 0 }
  opening_counts = λ i. record { made = made_first i; kept = kept_first i; quiet = quiet_first i }

  pub opening_ends : ComesToAnEnd first
  opening_ends = record {
    after_one = λ some. absurd (omega (arith, some, quiet_first));
    after_two = λ some. absurd (omega (arith, some, quiet_first));
    after_three = λ _ some. absurd (omega (arith, some, quiet_first));
    few_quiet = λ _. omega (arith, quiet_first);
    few_made = λ _. omega (arith, made_first);
    few_kept = omega (arith, kept_first);
  }

-- after a phase

module _ {before after : NodesView} (n : AreNodes before) (sound : before.broken ≡ false)
    (told : (region : ℕ) → region < before.cluster.regions → AreTold before.cluster before.workload (events_of n.all) (waiting_at before region) (node_in before region))
    (phase : IsPhase before after) (ends : EndsInStep before after) (later : AreNodes after) (c : ComesToAnEnd before) where
  abbrev step : AreInStep before
  step = n.in_step sound

  made : made_in after ≡ made_in before + 1
  made = made_now step phase ends n.cluster.some

  unfinished : ¬ (IsAllDone after) → ¬ (IsAllDone before)
  unfinished left d = left (stays_done n told phase d)

  -- a phase in which some event was kept: the silent ones begin anew
  kept_some : all_kept_in before ≢ all_kept_in after → ComesToAnEnd after
  kept_some other = record {
    after_one = λ some. absurd (omega (arith, some, quiet));
    after_two = λ some. absurd (omega (arith, some, quiet));
    after_three = λ _ some. absurd (omega (arith, some, quiet));
    few_quiet = λ _. omega (arith, quiet);
    few_made = λ left.
        let a : quiet_in before ≤ 3 = c.few_quiet (unfinished left) in
        let b : made_in before ≤ 4 * all_kept_in before + quiet_in before = c.few_made (unfinished left) in
        let up : all_kept_in before ≤ all_kept_in after = kept_up step phase ends n.cluster.some in
        omega (arith, a, b, up, other, made, quiet);
    few_kept = kept_few later;
  }
    where
      quiet : quiet_in after ≡ 0
      quiet = quiet_none step phase ends n.cluster.some other

  -- a silent phase
  kept_none : all_kept_in before ≡ all_kept_in after → ComesToAnEnd after
  kept_none same = record {
    after_one = λ _. exact_or_put n sound told phase ends silent;
    after_two = λ two. exact_now n sound told phase ends silent (c.after_one (omega (arith, two, quiet)));
    after_three = λ left three. exact_and_put n sound told phase ends silent left (c.after_two (omega (arith, three, quiet)));
    few_quiet = λ left. let a : quiet_in before ≤ 3 = c.few_quiet (unfinished left) in by left a (either_nat (quiet_in before) 3);
    few_made = λ left. let b : made_in before ≤ 4 * all_kept_in before + quiet_in before = c.few_made (unfinished left) in omega (arith, b, same, made, quiet);
    few_kept = kept_few later;
  }
    where
      silent : IsSilent before after
      silent = silent_of step phase ends n.cluster.some same

      quiet : quiet_in after ≡ quiet_in before + 1
      quiet = quiet_more step phase ends n.cluster.some same

      -- after three silent ones the next phase would finish
      by : ¬ (IsAllDone after) → quiet_in before ≤ 3 → Either (quiet_in before ≡ 3) → quiet_in after ≤ 3
      by left a (inl three) =
          let r : IsExact before × PacketsWait before = c.after_three (unfinished left) (omega (arith, three)) in
          absurd (left (done_now n sound told phase ends silent r.0 r.1))
      by left a (inr fewer) = omega (arith, a, fewer, quiet)

  pub ends_on : ComesToAnEnd after
  ends_on = elim (either_nat (all_kept_in before) (all_kept_in after)) [ inl same ↦ kept_none same | inr other ↦ kept_some other ]

-- so few phases are made while not all is done
pub phases_few : {v : NodesView} → ComesToAnEnd v → ¬ (IsAllDone v) → made_in v < most_phases v.cluster v.workload
phases_few {v} c left =
    let a : quiet_in v ≤ 3 = c.few_quiet left in
    let b : made_in v ≤ 4 * all_kept_in v + quiet_in v = c.few_made left in
    let k : all_kept_in v ≤ most_events v.cluster v.workload = c.few_kept in
    omega (arith, a, b, k)
