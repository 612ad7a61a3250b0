-- What holds of cluster files: each file is one cluster, or has one fault, and not both. So what the reader answers is
-- the only thing that it could answer, memory aside. Read next: `Valid` of `dt_cluster`, what a cluster is to those
-- that take one.
use Rattle.std.specs.Prelude.{◌≡◌, ◌⊎◌}
use Rattle.dt_text.specs.Texts.{Bytes}
use Rattle.dt_cluster_file.specs.File.{IsCluster, IsClusterFault}
use Rattle.dt_cluster.specs.declared.cluster.Cluster.{Cluster}
use Rattle.dt_cluster_file.specs.declared.error.ClusterFault.{ClusterFault}

-- a file is one cluster at most
abbrev pub FilesAreOneCluster : Type 0
FilesAreOneCluster = (file : Bytes) (c d : Cluster) → IsCluster file c → IsCluster file d → c ≡ d

-- a file that is a cluster has no fault
abbrev pub ClustersHaveNoFault : Type 0
ClustersHaveNoFault = (file : Bytes) (c : Cluster) (fault : ClusterFault) → IsCluster file c → ¬ (IsClusterFault file fault)

-- a file has one fault at most
abbrev pub ClusterFilesHaveOneFault : Type 0
ClusterFilesHaveOneFault = (file : Bytes) (f g : ClusterFault) → IsClusterFault file f → IsClusterFault file g → f ≡ g

-- every file is a cluster or has a fault
abbrev pub ClusterFilesHaveAnOutcome : Type 0
ClusterFilesHaveAnOutcome = (file : Bytes) → ((cluster : Cluster) × IsCluster file cluster) ⊎ ((fault : ClusterFault) × IsClusterFault file fault)
