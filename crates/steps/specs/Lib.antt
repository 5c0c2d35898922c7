pub mod Choice
pub mod Order
pub mod Ways
pub mod Refusals
pub mod Runs
