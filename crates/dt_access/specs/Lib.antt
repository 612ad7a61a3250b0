pub mod Ids
pub mod Granules
pub mod Clash
pub mod Orders
pub mod ClashSearchInner
pub mod HomesInner
pub mod KeysInner
