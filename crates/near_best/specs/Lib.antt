pub mod Prices
pub mod Kept
