pub mod Loss
pub mod Links
