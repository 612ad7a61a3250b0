-- What a caller's proof needs of clusters: that what is built in is a valid cluster. All other lemmas of this crate are its
-- own.
pub use Rattle.dt_cluster.proofs.BuiltinValid.{builtin_valid}
