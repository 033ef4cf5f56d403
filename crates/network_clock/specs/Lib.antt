pub mod Limits
pub mod Flow
pub mod Network
pub mod Search
pub mod Shared
