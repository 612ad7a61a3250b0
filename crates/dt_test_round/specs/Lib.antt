pub mod BegunRegion
pub mod FedRegion
