pub mod Psw
pub mod Control
pub mod Exec
pub mod Memory
pub mod Step
pub mod Run
pub mod Theorems
