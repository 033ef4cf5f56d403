pub mod Fields
pub mod Line
pub mod Grammar
pub mod Form
pub mod Spelling
pub mod Reading
pub mod Walk
