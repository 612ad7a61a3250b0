use Rattle.dt_cluster_file.proofs.EveryCluster.{short_procs}
use Rattle.dt_cluster_file.proofs.reader.read_cluster.Goals as goal

pub cluster_of-requires : goal.cluster_of-requires
cluster_of-requires c = short_procs c.args.bytes.now _ c.in-Ok.ensures.ok c.requires.short
