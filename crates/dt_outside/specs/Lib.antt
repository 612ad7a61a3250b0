pub mod Faults
pub mod Folder
pub mod Sink
