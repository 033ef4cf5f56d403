pub mod Pushed
pub mod Near
