pub mod Laws
pub mod Fits
pub mod Ranged
pub mod Lent
