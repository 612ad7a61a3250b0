-- The sites of all nodes, as a report takes them: each stands in the world after the events that the report shows.
use Rattle.std.proofs.Common.{◌≡◌, ◌<◌, ◌≤◌, ◌+◌, ℕ, List, length, map, get_or, sym, ap, subst, ◌∙◌, arith}
use Rattle.std.proofs.lemmas.List.{length-map}
use Rattle.std.proofs.Math.ListN.{get_or-map}
use Rattle.dt_events.specs.declared.Event.{Event}
use Rattle.dt_events.specs.Stamps.{events_of}
use Rattle.dt_cluster.specs.declared.Cluster.{Cluster}
use Rattle.dt_workload.specs.declared.Workload.{Workload}
use Rattle.dt_session.specs.World.{World, node_at}
use Rattle.dt_session.specs.Run.{AreLegal, world_after}
use Rattle.dt_site.specs.Site.{SiteView, no_site}
use Rattle.dt_site.specs.StandsIn.{StandsIn}
use Rattle.dt_site.proofs.Callers.{HasShortLists, legal_short, many_here}
use Rattle.dt_world.specs.SitesAfter.{AreSitesAfter}
use Rattle.dt_node.specs.NodeView.{NodeView, number_of}
use Rattle.dt_node.specs.NodeInWorld.{NodeFits}
use Rattle.dt_run.specs.NodesStand.{AreNodes, StandsAmong}
use Rattle.dt_run.specs.NodesView.{NodesView, no_running_node, node_in}
use Rattle.dt_run.proofs.Laws.{few_events, reached}

-- what a node submitted is counted by 32 bits
pub submitted_few : {cluster : Cluster} {workload : Workload} {events : List Event} {n : NodeView} → NodeFits cluster workload events n → length n.site.region.state.submitted + 1 < 4294967296
submitted_few {cluster} {workload} {events} {n} f =
    let short : HasShortLists (world_after cluster workload events) (length events) = legal_short cluster f.run.sound workload f.run.fits events f.run.legal in
    let node = node_at (world_after cluster workload events) (number_of n) in
    let s : length node.submitted ≤ length events = short.submitted (number_of n) in
    let e : length node.submitted ≡ length n.site.region.state.submitted = many_here (reached f) f.site in
    let l : length events ≤ 24640000 = few_events f in
    omega (arith, s, e, l)

module _ {v : NodesView} (n : AreNodes v) {sites : List SiteView} (all : sites ≡ map (λ (x : NodeView). x.site) v.nodes) where
  site_is : (region : ℕ) → get_or sites region no_site ≡ (node_in v region).site
  site_is region = ap (λ l. get_or l region no_site) all ∙ get_or-map (λ (x : NodeView). x.site) v.nodes region no_running_node

  pub sites_stand : (events : List Event) → AreLegal v.cluster v.workload events → world_after v.cluster v.workload events ≡ world_after v.cluster v.workload (events_of n.all)
      → AreSitesAfter v.cluster v.workload events sites
  sites_stand events legal same = record {
    valid = n.cluster;
    fits = n.workload;
    legal = legal;
    many = ap length all ∙ length-map v.nodes (λ (x : NodeView). x.site) ∙ n.many;
    stands = λ region lr. subst (λ p. StandsIn v.cluster.regions (world_after v.cluster v.workload events) region p) (sym (site_is region)) (here region lr);
    few = λ region lr. subst (λ (p : SiteView). length p.region.state.submitted < 4294967296) (sym (site_is region)) (let s = submitted_few (n.stand region lr).fits in omega (arith, s));
  }
    where
      here : (region : ℕ) → region < v.cluster.regions → StandsIn v.cluster.regions (world_after v.cluster v.workload events) region (node_in v region).site
      here region lr =
          let f : StandsAmong v n.all region = n.stand region lr in
          subst (λ (w : World). StandsIn v.cluster.regions w region (node_in v region).site) (sym same)
          (subst (λ r. StandsIn v.cluster.regions (world_after v.cluster v.workload (events_of n.all)) r (node_in v region).site) f.number f.fits.site)
