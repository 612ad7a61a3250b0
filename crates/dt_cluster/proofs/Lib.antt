pub mod BuiltinValid
pub mod Callers
