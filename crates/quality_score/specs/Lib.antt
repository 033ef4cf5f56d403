pub mod Score
pub mod Tallied
