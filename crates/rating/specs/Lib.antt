pub mod Lent
pub mod TagTexts
