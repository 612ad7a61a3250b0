mod SessionsLaws
pub mod Callers
