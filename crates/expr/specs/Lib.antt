pub mod Value
pub mod Expr
pub mod Parts
