pub mod Records
pub mod Inputs
