use Rattle.std.proofs.Common.{List, sym, subst}
use Rattle.dt_cluster.specs.Valid.{IsValidCluster}
use Rattle.dt_cluster.specs.declared.Cluster.{Cluster}
use Rattle.dt_workload.specs.Valid.{IsValidWorkload}
use Rattle.dt_workload.specs.declared.Session.{Session}
use Rattle.dt_gen.specs.Load.{load_cluster}
use Rattle.dt_gen.proofs.ValidLoad.{load_cluster_valid, load_workload_valid}
use Rattle.dt_gen.proofs.load.generate.Goals as goal

pub returns-clause-valid : goal.returns-clause-valid
returns-clause-valid c =
    let sessions = c.in_ok-sessions.sessions in
    let at : IsValidWorkload load_cluster (record { sessions = sessions }) =
    subst (λ (all : List Session). IsValidWorkload load_cluster (record { sessions = all })) (sym c.in_ok-sessions.ensures) (load_workload_valid c.args.calls c.requires.few) in (
      subst IsValidCluster (sym c.in_ok-cluster.ensures) load_cluster_valid,
      subst (λ (k : Cluster). IsValidWorkload k (record { sessions = sessions })) (sym c.in_ok-cluster.ensures) at,
    )
