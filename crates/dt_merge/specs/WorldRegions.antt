-- Worlds of regions and sessions, as a case of what `Regional` speaks of. One learns here which worlds are considered: those
-- that keep the invariant, as every legal world does. Read next: src/laws.rt.
use Rattle.std.specs.Prelude.{List}
use Rattle.dt_access.specs.declared.TxnId.{TxnId}
use Rattle.dt_events.specs.declared.Event.{Event}
use Rattle.dt_events.specs.Events.{region_of}
use Rattle.dt_cluster.specs.declared.Cluster.{Cluster}
use Rattle.dt_workload.specs.declared.Workload.{Workload}
use Rattle.dt_session.specs.World.{World}
use Rattle.dt_session.specs.Step.{IsLegal, next}
use Rattle.dt_agreement.specs.Invariant.{Inv}
use Rattle.dt_merge.specs.OwnPart.{Own, own, HasGrown, source_of, IsSupplied}
use Rattle.dt_merge.specs.Regional.{Regions}

-- the world keeps the invariant, with some order of first executions
pub record HasInvariant (cluster : Cluster) (workload : Workload) (w : World) : Type 0 where
  pub order : List TxnId
  pub inv : Inv cluster workload w order

-- worlds with their events, and what is each region's own
abbrev pub world_regions : Cluster → Workload → Regions World Event Own
world_regions cluster workload = record {
  region = region_of;
  source = source_of;
  next = next cluster workload;
  own = own workload;
  Good = HasInvariant cluster workload;
  Legal = IsLegal cluster workload;
  Supplied = IsSupplied;
  Grown = λ before now. HasGrown before.node now.node;
}
