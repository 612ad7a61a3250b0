-- What a caller's proof needs of workload files: that a file has one outcome. All other lemmas of this crate are its own.
pub use Rattle.dt_workload.proofs.OneFile.{no_workload_fault, one_workload, one_workload_fault}
