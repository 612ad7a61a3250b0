pub mod LastItems
pub mod HelperLoops
pub mod SendCaptures
pub mod SendItems
pub mod Callers
