pub mod BareWords
pub mod CommonLines
pub mod EventWords
pub mod EveryFile
pub mod Numbering
pub mod PrintedEvents
pub mod Stamps
pub mod Callers
