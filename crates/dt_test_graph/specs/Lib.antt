pub mod PartConditions
