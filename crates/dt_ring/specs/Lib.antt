pub mod Rings
pub mod EndsInner
