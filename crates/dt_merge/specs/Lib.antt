pub mod Regional
pub mod OwnPart
pub mod WorldRegions
pub mod Merge
pub mod Weight
