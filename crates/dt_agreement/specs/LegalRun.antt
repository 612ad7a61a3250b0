-- What every law of this crate is about: a list of events that is legal in a valid cluster with a valid workload. The three
-- facts always go together, so they are one record. Read `Invariant` next: what each such list leaves true.
use Rattle.std.specs.Prelude.{List}
use Rattle.dt_events.specs.declared.Event.{Event}
use Rattle.dt_cluster.specs.Valid.{IsValidCluster}
use Rattle.dt_cluster.specs.declared.Cluster.{Cluster}
use Rattle.dt_workload.specs.Valid.{IsValidWorkload}
use Rattle.dt_workload.specs.declared.Workload.{Workload}
use Rattle.dt_session.specs.Run.{AreLegal}

-- the events are legal, one after another, in a valid cluster with a valid workload
pub record IsLegalRun (cluster : Cluster) (workload : Workload) (events : List Event) : Type 0 where
  pub sound : IsValidCluster cluster
  pub fits : IsValidWorkload cluster workload
  pub legal : AreLegal cluster workload events
