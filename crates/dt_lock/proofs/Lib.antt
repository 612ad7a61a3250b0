pub mod RunningClaims
pub mod HeldSteps
pub mod NextFree
pub mod FewClaims
pub mod SyncCaptures
pub mod LongProcedures
pub mod Callers
