pub mod Table
pub mod Field
pub mod Walk
