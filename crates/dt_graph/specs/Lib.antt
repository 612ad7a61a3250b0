pub mod SeenInner
pub mod SmallStepsInner
pub mod LinksInner
pub mod SubsetInner
pub mod VerticesInner
pub mod NamesInner
pub mod HeldInner
