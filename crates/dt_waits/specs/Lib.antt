pub mod LeftInGraph
pub mod Waits
pub mod Graph
pub mod Steps
pub mod Among
