pub mod Claims
pub mod Held
pub mod HeldCode
pub mod LongInner
