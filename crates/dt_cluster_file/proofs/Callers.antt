-- What a caller's proof needs of cluster files: that a file has one outcome, and that what is read is a valid cluster. All
-- other lemmas of this crate are its own.
pub use Rattle.dt_cluster_file.proofs.OneCluster.{no_fault, one_cluster, one_fault}
pub use Rattle.dt_cluster_file.proofs.FileValid.{cluster_valid}
