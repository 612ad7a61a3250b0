-- What a phase makes of all nodes. One learns here that every node makes one turn, by what waited for it and by nothing of this
-- phase (`IsPhase`, which says `MovesOn` of dt_node for each), and that, unless it runs out of memory, one mark is added for each
-- region, and on each link waits what its source sent (`EndsInStep`); and that no phase takes back what was kept (`KeepsEvents`).
-- Read next: `EndOfRun`, for when no phase is left to make.
use Rattle.std.specs.Prelude.{◌≡◌, ◌≢◌, ◌<◌, ◌+◌, ◌++◌, ◌∷◌, ℕ, [], length}
use Rattle.dt_lists.specs.Lists.{IsFront}
use Rattle.dt_node.specs.NodeView.{packet_for}
use Rattle.dt_node.specs.TurnPackets.{LeavesNothingOut}
use Rattle.dt_node.specs.Steps.{HasTurned}
use Rattle.dt_node.specs.Turn.{HasTaken, IsSettled, MovesOn}
use Rattle.dt_run.specs.Marks.{kept_by_region}
use Rattle.dt_run.specs.NodesStand.{IsOnLink}
use Rattle.dt_run.specs.NodesView.{NodesView, marks_at, node_in, waiting_at, waiting_between}

-- what every phase makes, also one that fails: each node made a turn by what waited for it
pub record IsPhase (before after : NodesView) : Type 0 where
  pub cluster : after.cluster ≡ before.cluster
  pub workload : after.workload ≡ before.workload
  pub many : length after.nodes ≡ length before.nodes
  pub turns : (region : ℕ) → region < before.cluster.regions → MovesOn before.cluster.procs (waiting_at before region) (node_in before region) (node_in after region)

-- the node of a region made a whole turn, by the steps of a turn in their order: it took all that waited and left nothing to do by
-- itself, and its mark is added
pub record TurnsWhole (before after : NodesView) (region : ℕ) : Type 0 where
  pub turns : (node_in after region).turns ≡ (node_in before region).turns + 1
  pub steps : HasTurned before.cluster.procs (waiting_at before region) (node_in before region) (node_in after region)
  pub taken : HasTaken (waiting_at before region) (node_in before region) (node_in after region)
  pub settled : IsSettled (node_in before region) (node_in after region)
  -- what it sends another region lacks nothing that it should have
  pub whole : (target : ℕ) → target < (node_in after region).site.region.state.regions → LeavesNothingOut (node_in after region) target
  pub marks : marks_at after region ≡ marks_at before region ++ length (kept_by_region after region) ∷ []

-- what a phase leaves that did not fail
pub record EndsInStep (before after : NodesView) : Type 0 where
  pub broken : after.broken ≡ before.broken
  pub each : (region : ℕ) → region < before.cluster.regions → TurnsWhole before after region
  -- what one node sent another in this phase waits now, as often as the plan says, and nothing else
  pub links : (source target : ℕ) → source < before.cluster.regions → target < before.cluster.regions → source ≢ target
      → IsOnLink after.cluster (node_in after source).turns (packet_for (node_in after source) target) (waiting_between after source target)

-- phases were made, of which the last one may have failed: what each region had kept stays, and what it kept since stands behind
pub record KeepsEvents (before after : NodesView) : Type 0 where
  pub many : length after.nodes ≡ length before.nodes
  pub each : (region : ℕ) → region < before.cluster.regions → IsFront (kept_by_region before region) (kept_by_region after region)
