pub mod Reply
pub mod Fetch
pub mod Act
pub mod Parts
pub mod Statements
