pub mod Places
pub mod Ranges
pub mod Each
pub mod Within
