pub mod Contents
pub mod Roles
pub mod Files
pub mod Inputs
pub mod Settings
pub mod Notes
pub mod Stages
