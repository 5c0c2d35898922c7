pub mod Laws
pub mod Whole
pub mod Fits
pub mod Theorems
