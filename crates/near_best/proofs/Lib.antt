pub mod Reach
pub mod Inserted
