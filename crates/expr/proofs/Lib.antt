pub mod Laws
pub mod Signed
pub mod Names
pub mod Digits
pub mod Alike
pub mod Walk
pub mod Theorems
