pub mod Leader
pub mod Order
pub mod Quotients
