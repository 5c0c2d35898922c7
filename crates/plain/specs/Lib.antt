pub mod Plain
pub mod Clean
