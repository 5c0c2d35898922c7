pub mod Assembly
pub mod Written
