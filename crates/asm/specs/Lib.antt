pub mod Assemble
pub mod Parts
