mod MapEntries
pub mod OneCluster
mod TomlTexts
mod TomlTables
pub mod EveryCluster
mod Valid
pub mod FileValid
pub mod Callers
