pub mod Rows
pub mod Digits
