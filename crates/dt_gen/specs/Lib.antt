pub mod Draws
pub mod Load
pub mod Balances
pub mod Summary
pub mod Laws
