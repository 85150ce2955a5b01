pub mod Samples
pub mod SheetReading
pub mod Inner
