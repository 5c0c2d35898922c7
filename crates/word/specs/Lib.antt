pub mod Bits
pub mod Numbers
pub mod Addresses
pub mod Bytes
pub mod Flags
