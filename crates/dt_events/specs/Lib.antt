pub mod Events
pub mod ReadingInner
pub mod Laws
pub mod Stamps
