-- Worlds of regions and sessions are as `Regional` wants them: their events are local.
use Rattle.std.proofs.Common.{◌≡◌, ◌<◌, ℕ, List, [], ◌∷◌, refl, sym, ap, ◌∙◌}
use Rattle.dt_events.specs.declared.Event.{Event}
use Rattle.dt_events.specs.declared.Event.TheVariants.{Submit, Append, Deliver, Insert, Resolve, Execute, Answer}
use Rattle.dt_events.specs.Events.{region_of}
use Rattle.dt_cluster.specs.Valid.{IsValidCluster}
use Rattle.dt_cluster.specs.declared.Cluster.{Cluster}
use Rattle.dt_workload.specs.Valid.{IsValidWorkload}
use Rattle.dt_workload.specs.declared.Workload.{Workload}
use Rattle.dt_session.specs.World.{World, no_node}
use Rattle.dt_session.specs.Step.{IsLegal, RegionsExist, next}
use Rattle.dt_session.specs.Run.{world_from, AreLegalFrom}
use Rattle.dt_agreement.proofs.Callers.{next_keeps, ordered, places_parallel}
use Rattle.dt_merge.specs.OwnPart.{HaveGrown, own}
use Rattle.dt_merge.specs.WorldRegions.{HasInvariant, world_regions}
use Rattle.dt_merge.specs.Regional.{after_all, AreLegalIn, AreLocal}
use Rattle.dt_merge.proofs.GoodWorlds.{node_there}
use Rattle.dt_merge.proofs.OwnParts.{same_lists, same_places}
use Rattle.dt_merge.proofs.Frames.{frame}
use Rattle.dt_merge.proofs.SubmissionsStay.{grown_refl, grown_trans, grows}
use Rattle.dt_merge.proofs.LocalEvents.{is_supplied, locality, supply_lasts}

-- the region of a legal event exists
pub region_there : (regions : ℕ) (event : Event) → RegionsExist regions event → region_of event < regions
region_there regions (Submit region name) l = l
region_there regions (Append home source number) l = l.0
region_there regions (Deliver region home first last) l = l.0
region_there regions (Insert region home) l = l.0
region_there regions (Resolve region ids) l = l
region_there regions (Execute region id) l = l
region_there regions (Answer region name) l = l

-- a world is what its regions have as their own
pub whole : {cluster : Cluster} {workload : Workload} (w v : World) → HasInvariant cluster workload w → HasInvariant cluster workload v → ((q : ℕ) → own workload w q ≡ own workload v q) → w ≡ v
whole {cluster = cluster} {workload = workload} w v gw gv same = λ k. record { nodes = nodes k; places = places k }
  where
    nodes : w.nodes ≡ v.nodes
    nodes = same_lists no_node w.nodes v.nodes (gw.inv.nodes ∙ sym gv.inv.nodes) (λ q. ap (λ o. o.node) (same q))

    places : w.places ≡ v.places
    places = same_places workload.sessions w.places v.places (places_parallel gw.inv) (places_parallel gv.inv)
        (λ q. ap (λ o. o.places) (same q))

-- what regions submit and place stays
pub legal_grows : (cluster : Cluster) (workload : Workload) (w : World) (e : Event) → HasInvariant cluster workload w → IsLegal cluster workload w e → HaveGrown w (next cluster workload w e)
legal_grows cluster workload w e good legal = grows cluster workload w e (node_there good (region_of e) (region_there cluster.regions e legal.regions))

pub world_local : (cluster : Cluster) → IsValidCluster cluster → (workload : Workload) → IsValidWorkload cluster workload → AreLocal (world_regions cluster workload)
world_local cluster ok workload fits = record {
  kept = λ w e good legal. record { order = ordered good.order e; inv = next_keeps ok fits w good.order e legal good.inv };
  whole = whole;
  frame = λ w e q n. frame cluster workload w q e n;
  grows = legal_grows cluster workload;
  grown_refl = λ a. grown_refl a.node;
  grown_trans = λ a b c f g. grown_trans a.node b.node c.node f g;
  supplied = λ w e q from legal. is_supplied w e legal;
  lasting = supply_lasts;
  local = locality;
}

-- lists of events in either language

module _ (cluster : Cluster) (workload : Workload) where
  pub after_is : (w : World) (events : List Event) → after_all (world_regions cluster workload) w events ≡ world_from cluster workload w events
  after_is w [] = refl
  after_is w (e ∷ events) = after_is (next cluster workload w e) events

  pub legal_in : (w : World) (events : List Event) → AreLegalFrom cluster workload w events → AreLegalIn (world_regions cluster workload) w events
  legal_in w [] l = tt
  legal_in w (e ∷ events) l = (l.0, legal_in (next cluster workload w e) events l.1)

  pub legal_out : (w : World) (events : List Event) → AreLegalIn (world_regions cluster workload) w events → AreLegalFrom cluster workload w events
  legal_out w [] l = tt
  legal_out w (e ∷ events) l = (l.0, legal_out (next cluster workload w e) events l.1)
