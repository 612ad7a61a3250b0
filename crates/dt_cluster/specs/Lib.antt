pub mod Builtin
pub mod Valid
