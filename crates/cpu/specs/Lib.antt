pub mod Control
pub mod Entries
pub mod Cycles
pub mod Exec
