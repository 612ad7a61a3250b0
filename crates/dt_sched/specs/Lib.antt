pub mod Views
pub mod Ties
pub mod Decide
pub mod Sched
pub use Rattle.dt_access.specs.Ids
pub use Rattle.dt_access.specs.Clash
pub use Rattle.dt_access.specs.Granules
pub use Rattle.dt_lists.specs.Lists
