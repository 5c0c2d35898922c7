pub mod Every
pub mod Keeps
pub mod Stops
pub mod Cut
pub mod Trace
pub mod Count
pub mod Theorems
