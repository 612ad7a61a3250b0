-- When no phase is left to make: every call of every session is answered, and every region has executed every attempt. Then
-- the events that the nodes have kept are a finished list (`IsFinished` of dt_session). Read next: `Run`, for what a run gives.
use Rattle.std.specs.Prelude.{◌<◌, ℕ}
use Rattle.dt_lists.specs.Lists.{AllIn, Has}
use Rattle.dt_txn.specs.Replica.{done_ids}
use Rattle.dt_session.specs.Sessions.{EachNameIsAnswered}
use Rattle.dt_node.specs.NodeView.{NodeView}
use Rattle.dt_run.specs.NodesView.{NodesView, node_in}

-- one node has executed all that another one's region submitted
abbrev pub HasDone : NodeView → NodeView → Type 0
HasDone n source = AllIn (λ txn. Has (done_ids n.site.region.state.here) txn.id) source.site.region.state.submitted

-- every call is answered, and every region has executed every attempt
pub record IsAllDone (v : NodesView) : Type 0 where
  pub answered : (region : ℕ) → region < v.cluster.regions → EachNameIsAnswered (node_in v region).sessions
  pub executed : (region source : ℕ) → region < v.cluster.regions → source < v.cluster.regions → HasDone (node_in v region) (node_in v source)
