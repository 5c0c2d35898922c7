pub mod State
pub mod Step
pub mod Run
pub mod Trace
pub mod Parts
