pub mod Ascii
pub mod Buffers
pub mod Decimals
pub mod Digits
pub mod Points
pub mod Signs
pub mod Usual
pub mod Whole
