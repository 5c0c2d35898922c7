pub mod Runs
pub mod Same
pub mod Rules
pub mod Leaks
pub mod Theorems
