pub mod Table
pub mod TableCode
pub mod RowsInner
pub mod MovedPlacesInner
pub mod StoredUnitInner
pub mod StoredMovesInner
