pub mod Names
pub mod Keys
pub mod RowReading
pub mod IssuerReading
pub mod Samples
pub mod Gives
