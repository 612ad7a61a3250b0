pub mod CountsInner
pub mod FirstPass
pub mod Fronts
pub mod Grammar
pub mod Limits
pub mod MachineInner
pub mod TextTokens
pub mod Tokens
