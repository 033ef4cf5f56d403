pub mod Grid
pub mod Tight
pub mod Gain
pub mod Bound
pub mod Laws
pub mod Table
