pub mod Within
pub mod Fields
pub mod Rows
pub mod Limits
