pub mod Psw
pub mod Records
pub mod Inputs
pub mod Instance
pub mod Written
pub mod Theorems
