pub mod Callers
pub mod FilesByName
pub mod Retries
pub mod TextPieces
