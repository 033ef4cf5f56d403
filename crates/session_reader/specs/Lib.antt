pub mod Grammar
pub mod Form
pub mod Spelling
pub mod Reading
