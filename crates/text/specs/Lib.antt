pub mod Words
pub mod Digits
pub mod Fields
pub mod Pages
