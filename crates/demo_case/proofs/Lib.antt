pub mod Drawn
pub mod Within
pub mod Values
pub mod Bound
