pub mod Joint
pub mod Laws
pub mod Table
pub mod Calm
