-- Before anything happens the nodes of a cluster are as their type keeps them: no event was made, and nothing waits.
use Rattle.std.proofs.Common.{◌≡◌, ◌<◌, ◌≤◌, ℕ, zero, suc, List, [], ◌∷◌, length, get_or, slice_get, Some, refl, sym, ap, subst, ◌∙◌, arith}
use Rattle.dt_lists.specs.Lists.{EachThen}
use Rattle.dt_lists.proofs.Callers.{get_of_replicate}
use Rattle.dt_events.specs.declared.Stamped.{Stamped}
use Rattle.dt_cluster.specs.Valid.{IsValidCluster}
use Rattle.dt_workload.specs.Valid.{IsValidWorkload}
use Rattle.dt_merge.specs.Merge.{HasLowerStamp, IsChronicle, kept_at}
use Rattle.dt_node.specs.NodeView.{NodeView, opening_node_of}
use Rattle.dt_node.specs.NodeInWorld.{NodeFits}
use Rattle.dt_node.specs.Turn.{HasPlacedOwn}
use Rattle.dt_region.specs.Region.{latest_stamp}
use Rattle.dt_run.specs.Marks.{AreMarksOf, IsKeptIn, kept_by_region}
use Rattle.dt_run.specs.NodesStand.{AreInStep, AreNodes, StandsAmong}
use Rattle.dt_run.specs.NodesView.{NodesView, kept_by, marks_at, node_in, waiting_between}

-- what nodes are that have done nothing
pub record AreOpening (v : NodesView) : Type 0 where
  pub cluster : IsValidCluster v.cluster
  pub workload : IsValidWorkload v.cluster v.workload
  pub many : length v.nodes ≡ v.cluster.regions
  pub kept : (region : ℕ) → kept_at (kept_by v.nodes) region ≡ []
  pub nodes : (region : ℕ) → region < v.cluster.regions → node_in v region ≡ opening_node_of v.cluster v.workload region
  pub stand : (region : ℕ) → region < v.cluster.regions → NodeFits v.cluster v.workload [] (opening_node_of v.cluster v.workload region)
  pub waiting : (source target : ℕ) → waiting_between v source target ≡ []
  pub marks : (region : ℕ) → marks_at v region ≡ []

abbrev no_items : {A : Type 0} → List A
no_items = []

module _ {v : NodesView} (o : AreOpening v) where
  chronicle : IsChronicle v.cluster v.workload [] (kept_by v.nodes)
  chronicle = record { legal = tt; changing = tt; lists = o.kept; rising = λ region. subst (EachThen HasLowerStamp) (sym (o.kept region)) tt; caused = tt }

  none_kept : (region : ℕ) → region < v.cluster.regions → kept_by_region v region ≡ []
  none_kept region lr = ap (λ (n : NodeView). n.site.region.events) (o.nodes region lr)

  stands : (region : ℕ) → region < v.cluster.regions → StandsAmong v [] region
  stands region lr = record {
    number = ap (λ (n : NodeView). n.site.region.state.number) (o.nodes region lr);
    fits = subst (NodeFits v.cluster v.workload []) (sym (o.nodes region lr)) (o.stand region lr);
    stamps = subst (λ (n : NodeView). latest_stamp n.site.region ≤ 0) (sym (o.nodes region lr)) (omega arith);
    plan = ap (λ (n : NodeView). n.plan) (o.nodes region lr);
  }

  no_mark : (region : ℕ) (k : ℕ) → ◌≡◌ {A = ℕ} (get_or (0 ∷ marks_at v region) k 0) 0
  no_mark region k = ap (λ l. get_or (0 ∷ l) k 0) (o.marks region) ∙ zeros k
    where
      zeros : (k : ℕ) → ◌≡◌ {A = ℕ} (get_or (0 ∷ []) k 0) 0
      zeros zero = refl
      zeros (suc k) = refl

  marked : (region : ℕ) → region < v.cluster.regions → AreMarksOf v 0 region
  marked region lr = record {
    many = ap length (o.marks region);
    rise = λ phase lt. absurd (omega (arith, lt));
    last = no_mark region 0 ∙ ap length (sym (none_kept region lr));
  }

  in_step : AreInStep v
  in_step = record {
    made = 0;
    each = λ region lr. record {
      turns = ap (λ (n : NodeView). n.turns) (o.nodes region lr);
      marks = marked region lr;
      placed = subst HasPlacedOwn (sym (o.nodes region lr)) (own_none region);
      begun = λ some. absurd (some refl);
    };
    links = λ source target ls lt n. o.waiting source target;
    planned = record { each = λ region phase x lr from k. absurd (none region phase x lr k) };
  }
    where
      own_none : (region : ℕ) → HasPlacedOwn (opening_node_of v.cluster v.workload region)
      own_none region = ap length (get_of_replicate v.cluster.regions region no_items) ∙ sym (get_of_replicate {A = ℕ} v.cluster.regions region 0)

      none : (region phase : ℕ) (x : Stamped) → region < v.cluster.regions → IsKeptIn v region phase x → ⊥
      none region phase x lr k = let e : slice_get [] k.place ≡ Some x = subst (λ l. slice_get l k.place ≡ Some x) (none_kept region lr) k.stands in cc

  pub opening_nodes_stand : AreNodes v
  opening_nodes_stand = record { cluster = o.cluster; workload = o.workload; many = o.many; all = []; chronicle = chronicle; stand = stands; in_step = λ sound. in_step }
