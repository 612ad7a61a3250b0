pub mod Callers
pub mod Divisors
pub mod Verdicts
