pub mod Regret
pub mod Session
