pub mod Models
pub mod Statements
pub mod Rules
