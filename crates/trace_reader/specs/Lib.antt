pub mod Cycle
pub mod Trace
pub mod TraceCsv
pub mod Walked
