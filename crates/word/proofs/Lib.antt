pub mod Fields
pub mod Numbers
pub mod Memory
pub mod Determined
pub mod Truth
