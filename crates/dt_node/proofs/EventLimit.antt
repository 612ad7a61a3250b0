-- How many events there can be: each changes something, so there are no more than calls, tries and regions allow.
use Rattle.std.proofs.Common.{◌≤◌, List, length, arith}
use Rattle.dt_events.specs.declared.Event.{Event}
use Rattle.dt_cluster.specs.declared.Cluster.{Cluster}
use Rattle.dt_workload.specs.declared.Workload.{Workload}
use Rattle.dt_session.specs.World.{opening_world}
use Rattle.dt_merge.specs.Weight.{most_events}
use Rattle.dt_merge.specs.WorldRegions.{HasInvariant}
use Rattle.dt_merge.proofs.Callers.{events_few, most_few, opening_good}
use Rattle.dt_node.specs.NodeView.{NodeView}
use Rattle.dt_node.specs.NodeInWorld.{NodeFits}

-- the events after which a node stands in the world
pub few_events : {cluster : Cluster} {workload : Workload} {events : List Event} {n : NodeView} → NodeFits cluster workload events n → length events ≤ 24640000
few_events {cluster} {workload} {events} f =
    let opening : HasInvariant cluster workload (opening_world cluster workload) = opening_good f.run.sound f.run.fits in
    let few : length events ≤ most_events cluster workload =
    events_few cluster f.run.sound workload f.run.fits (opening_world cluster workload) events opening f.run.legal f.changing in
    omega (arith, few, most_few cluster f.run.sound workload f.run.fits)
