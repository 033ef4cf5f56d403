pub mod Files
pub mod Fits
pub mod Roles
pub mod Steps
pub mod Tables
pub mod Within
