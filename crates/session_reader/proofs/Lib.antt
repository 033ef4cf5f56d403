pub mod EventLaws
pub mod Loops
pub mod SheetLaws
