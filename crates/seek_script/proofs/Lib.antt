pub mod Limits
pub mod Within
