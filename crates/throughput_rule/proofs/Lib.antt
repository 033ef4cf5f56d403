pub mod Sums
pub mod Histories
pub mod Chosen
pub mod Loops
