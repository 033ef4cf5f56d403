pub mod Progress
pub mod Test
