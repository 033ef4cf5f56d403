pub mod Rising
pub mod Sizes
pub mod Limits
pub mod Accepted
