pub mod Counts
pub mod Walks
pub mod Moves
pub mod Views
pub mod Parents
pub mod Kept
pub mod Room
pub mod Steps
