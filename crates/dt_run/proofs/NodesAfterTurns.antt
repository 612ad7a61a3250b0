-- What the type of the nodes keeps is so after a turn at each seat too: there is a chronicle, and each node stands in its world.
use Rattle.std.proofs.Common.{◌≡◌, ◌<◌, ◌≤◌, ℕ, true, false, Bool, List, [], ◌++◌, length, refl, sym, ap, subst, ◌∙◌}
use Rattle.std.specs.Prelude.{flat_map}
use Rattle.std.proofs.lemmas.Bool.{false≢true}
use Rattle.std.proofs.lemmas.List.{get_or_past, length-map}
use Rattle.std.proofs.Math.ListN.{get_or-map}
use Rattle.dt_events.specs.declared.Stamped.{Stamped}
use Rattle.dt_proc.specs.Tree.{ProcTree}
use Rattle.dt_cluster.specs.declared.Cluster.{Cluster}
use Rattle.dt_workload.specs.declared.Workload.{Workload}
use Rattle.dt_merge.specs.Merge.{IsChronicle, kept_at}
use Rattle.dt_node.specs.NodeView.{NodeView}
use Rattle.dt_node.specs.Turn.{MovesOn}
use Rattle.dt_run.specs.NodesStand.{AreInStep, AreNodes, StandsAmong}
use Rattle.dt_run.specs.NodesView.{NodesView, kept_by, no_running_node, node_in, waiting_at}
use Rattle.dt_run.specs.Phase.{IsPhase}
use Rattle.dt_run.specs.SeatsInner.{AreSeated, EachGoes, SeatView, nodes_view, seat_at, waits_in}
use Rattle.dt_run.proofs.TurnsInOrder.{new_below}
use Rattle.dt_run.proofs.OneChronicle as turning
use Rattle.dt_run.proofs.WaitingPackets as waiting

-- a turn at each seat, whatever became of links and marks
pub record EachTurns (procs : List ProcTree) (before after : List SeatView) : Type 0 where
  pub many : length after ≡ length before
  pub each : (region : ℕ) → region < length before → MovesOn procs (flat_map waits_in (seat_at before region).ins) (seat_at before region).node (seat_at after region).node

pub turns_of : {procs : List ProcTree} {before after : List SeatView} → EachGoes procs before after → EachTurns procs before after
turns_of g = record { many = g.many; each = λ region lt. (g.each region lt).once }

pub none_kept : (nodes : List NodeView) (region : ℕ) → length nodes ≤ region → kept_at (kept_by nodes) region ≡ []
none_kept nodes region le = get_or-map (λ (m : NodeView). m.site.region.events) nodes region no_running_node ∙ ap (λ (m : NodeView). m.site.region.events) (get_or_past nodes region no_running_node le)

module _ {cluster : Cluster} {workload : Workload} {seats seats' : List SeatView} {broken : Bool} (a : AreSeated cluster workload seats broken) (sound : broken ≡ false) (g : EachTurns cluster.procs seats seats') (later : Bool) where
  abbrev v : NodesView
  v = nodes_view cluster workload seats broken

  abbrev v' : NodesView
  v' = nodes_view cluster workload seats' later

  abbrev n : AreNodes v
  n = a.nodes

  many_now : length v'.nodes ≡ cluster.regions
  many_now = length-map seats' (λ (s : SeatView). s.node) ∙ g.many ∙ waiting.one_for_each a

  pub turns : (region : ℕ) → region < cluster.regions → MovesOn cluster.procs (waiting_at v region) (node_in v region) (node_in v' region)
  turns region lr =
      subst (λ m. MovesOn cluster.procs (waiting_at v region) (node_in v region) m) (sym (waiting.node_is cluster workload seats' later region))
      (subst (λ m. MovesOn cluster.procs (waiting_at v region) m (seat_at seats' region).node) (sym (waiting.node_is cluster workload seats broken region))
      (subst (λ l. MovesOn cluster.procs l (seat_at seats region).node (seat_at seats' region).node) (sym (waiting.waiting_is cluster workload seats broken region))
      (g.each region (waiting.seat_there a lr))))

  turned : turning.EachHasTurned cluster workload n.all (kept_by v.nodes) (kept_by v'.nodes) (node_in v) (node_in v') (waiting_at v)
  turned = record {
    sound = n.cluster;
    fits = n.workload;
    chronicle = n.chronicle;
    number = λ region lr. (n.stand region lr).number;
    fit = λ region lr. (n.stand region lr).fits;
    addressed = λ region lr. waiting.addressed a sound lr;
    trues = λ region lr. waiting.trues a sound lr;
    turns = turns;
    kept_is = λ region lr. waiting.kept_is a sound region;
    kept_none = λ region le. none_kept v.nodes region (subst (λ k. k ≤ region) (sym n.many) le);
    now_is = λ region lr. get_or-map (λ (m : NodeView). m.site.region.events) v'.nodes region no_running_node;
    now_none = λ region le. none_kept v'.nodes region (subst (λ k. k ≤ region) (sym many_now) le);
  }

  -- the chronicle after the turns
  abbrev pub all_now : List Stamped
  all_now = n.all ++ new_below (node_in v) (node_in v') cluster.regions

  pub chronicle_now : IsChronicle cluster workload all_now (kept_by v'.nodes)
  chronicle_now = turning.chronicle_goes turned

  pub stand_now : (region : ℕ) → region < cluster.regions → StandsAmong v' all_now region
  stand_now region lr = record {
    number = (turns region lr).gone.number ∙ (n.stand region lr).number;
    fits = turning.fits_now turned region lr;
    stamps = turning.stamps_go turned region lr (n.stand region lr).stamps (waiting.stamps a sound lr);
    plan = (turns region lr).gone.plan ∙ (n.stand region lr).plan;
  }

  -- whatever is so of links and marks
  pub nodes_now : (later ≡ false → AreInStep v') → AreNodes v'
  nodes_now in_step = record { cluster = n.cluster; workload = n.workload; many = many_now; all = all_now; chronicle = chronicle_now; stand = stand_now; in_step = in_step }

  pub phase_is : IsPhase v v'
  phase_is = record { cluster = refl; workload = refl; many = many_now ∙ sym n.many; turns = turns }

-- a phase that failed
pub broken_seated : {cluster : Cluster} {workload : Workload} {seats seats' : List SeatView} {broken : Bool} → AreSeated cluster workload seats broken → broken ≡ false → EachGoes cluster.procs seats seats'
    → AreSeated cluster workload seats' true
broken_seated a sound g = record { nodes = nodes_now a sound (turns_of g) true (λ e. absurd (false≢true (sym e))); linked = λ e. absurd (false≢true (sym e)) }
