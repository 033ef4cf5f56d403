pub mod Loops
pub mod Texts
pub mod PriceLaws
pub mod FirstLines
pub mod Length
