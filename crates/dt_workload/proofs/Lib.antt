mod Forms
mod Steps
pub mod OneForm
pub mod OneFile
pub mod Decisions
pub mod Outcomes
pub mod Callers
