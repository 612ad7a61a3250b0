-- Worlds that keep the invariant: the one before anything happens does, and one that does has a node for each region of the
-- cluster.
use Rattle.std.proofs.Common.{◌<◌, ℕ, [], length, sym, subst}
use Rattle.dt_cluster.specs.Valid.{IsValidCluster}
use Rattle.dt_cluster.specs.declared.Cluster.{Cluster}
use Rattle.dt_workload.specs.Valid.{IsValidWorkload}
use Rattle.dt_workload.specs.declared.Workload.{Workload}
use Rattle.dt_session.specs.World.{World, opening_world}
use Rattle.dt_agreement.specs.LegalRun.{IsLegalRun}
use Rattle.dt_agreement.proofs.Callers.{legal_keeps}
use Rattle.dt_merge.specs.WorldRegions.{HasInvariant}

pub opening_good : {cluster : Cluster} {workload : Workload} → IsValidCluster cluster → IsValidWorkload cluster workload → HasInvariant cluster workload (opening_world cluster workload)
opening_good {cluster = cluster} {workload = workload} ok fits =
    let run : IsLegalRun cluster workload [] = record { sound = ok; fits = fits; legal = tt } in
    record { order = []; inv = legal_keeps run }

pub node_there : {cluster : Cluster} {workload : Workload} {w : World} → HasInvariant cluster workload w → (region : ℕ) → region < cluster.regions → region < length w.nodes
node_there good region lr = subst (λ n. region < n) (sym good.inv.nodes) lr
