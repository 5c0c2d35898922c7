pub mod Values
pub mod Lines
pub mod Text
pub mod Order
pub mod Labels
pub mod Theorems
pub mod Examples
