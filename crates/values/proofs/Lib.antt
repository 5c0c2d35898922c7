pub mod Bits
pub mod Shifts
pub mod Sums
pub mod Places
pub mod Touches
pub mod Memory
pub mod Rd
pub mod Theorems
