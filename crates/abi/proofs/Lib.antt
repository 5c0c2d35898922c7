pub mod Laws
pub mod Parts
pub mod Sixteen
pub mod Theorems
