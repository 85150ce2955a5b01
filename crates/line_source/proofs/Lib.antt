pub mod Calling
pub mod LineTexts
pub mod Taking
