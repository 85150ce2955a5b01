pub mod Sections
pub mod RateInput
pub mod Inner
pub mod SheetReading
pub mod IssuerReading
