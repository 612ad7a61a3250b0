pub mod Graphs
pub mod LinksInner
pub mod FindsInner
