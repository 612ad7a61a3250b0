-- What holds of workload files: in a cluster each file is one workload, or has one fault at one line, and not both; and
-- each file is one of the two. So the answer of the reader is the only one that a file can have, memory aside. Read next:
-- `World` of dt_session, for what becomes of a workload.
use Rattle.std.specs.Prelude.{◌≡◌, ◌⊎◌, ℕ}
use Rattle.dt_cluster.specs.declared.Cluster.{Cluster}
use Rattle.dt_cluster.specs.Valid.{IsValidCluster}
use Rattle.dt_text.specs.Texts.{Bytes}
use Rattle.dt_workload.specs.File.{IsWorkload, IsWorkloadFault}
use Rattle.dt_workload.specs.declared.workload.Workload.{Workload}
use Rattle.dt_workload.specs.declared.error.WorkloadCause.{WorkloadCause}

-- in a cluster, a file is one workload at most
abbrev pub FilesAreOneWorkload : Type 0
FilesAreOneWorkload =
    (cluster : Cluster) → IsValidCluster cluster → (file : Bytes) (v w : Workload) → IsWorkload cluster file v → IsWorkload cluster file w → v ≡ w

-- a file that is a workload of a cluster has no fault in it
abbrev pub WorkloadsHaveNoFault : Type 0
WorkloadsHaveNoFault =
    (cluster : Cluster) → IsValidCluster cluster → (file : Bytes) (v : Workload) (line : ℕ) (why : WorkloadCause)
    → IsWorkload cluster file v → ¬ (IsWorkloadFault cluster file line why)

-- in a cluster, a file has one fault at most, at one line
abbrev pub WorkloadFilesHaveOneFault : Type 0
WorkloadFilesHaveOneFault =
    (cluster : Cluster) → IsValidCluster cluster → (file : Bytes) (l m : ℕ) (why how : WorkloadCause)
    → IsWorkloadFault cluster file l why → IsWorkloadFault cluster file m how → (l ≡ m) × (why ≡ how)

-- in a cluster, every file is a workload or has a fault
abbrev pub WorkloadFilesHaveAnOutcome : Type 0
WorkloadFilesHaveAnOutcome =
    (cluster : Cluster) → IsValidCluster cluster → (file : Bytes)
    → ((workload : Workload) × IsWorkload cluster file workload) ⊎ ((line : ℕ) × (why : WorkloadCause) × IsWorkloadFault cluster file line why)
