pub mod Faults
pub mod Each
pub mod Header
