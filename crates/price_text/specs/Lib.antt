pub mod Form
pub mod Grammar
pub mod Spelling
pub mod Reading
