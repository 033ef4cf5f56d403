pub mod Limits
pub mod CsvLimits
pub mod Within
pub mod Accepted
pub mod Walked
