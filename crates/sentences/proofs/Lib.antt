pub mod Costs
pub mod Sources
pub mod Writes
pub mod Passes
pub mod Theorems
