pub mod Line
pub mod Fault
pub mod Reader
pub mod Statements
