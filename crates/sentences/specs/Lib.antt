pub mod Classes
pub mod Sources
pub mod Writes
pub mod Passes
