pub mod Places
pub mod Step
pub mod Run
pub mod Theorems
