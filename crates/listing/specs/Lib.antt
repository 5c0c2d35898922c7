pub mod Names
pub mod Listing
pub mod Lent
pub mod Parts
