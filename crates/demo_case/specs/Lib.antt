pub mod Draws
pub mod Case
pub mod Laws
