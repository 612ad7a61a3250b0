pub mod Report
pub mod ShownTables
pub mod Printable
pub mod Laws
