pub mod NewestLinks
pub mod Marks
pub mod Follow
pub mod Walk
pub mod Scan
pub mod Graph
