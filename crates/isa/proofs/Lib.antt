pub mod Rows
pub mod Codes
pub mod Ranges
pub mod Decodes
pub mod Encodes
pub mod Named
pub mod Theorems
