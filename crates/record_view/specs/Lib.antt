pub mod Parts
pub mod Plain
pub mod TagTexts
pub mod Lent
pub mod Spans
pub mod Inner
pub mod Lines
