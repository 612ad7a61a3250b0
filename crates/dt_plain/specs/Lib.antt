pub mod PlainSchedView
pub mod LinksInner
pub mod GraphsInner
pub mod RanksInner
pub mod IdListsInner
pub mod SurroundingsInner
