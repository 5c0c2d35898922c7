pub mod Marks
pub mod Same
pub mod Never
pub mod Theorems
