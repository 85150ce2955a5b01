pub mod Legal
pub mod Lists
pub mod Own
pub mod Exports
pub mod Parts
pub mod Files
pub mod WorkedAgreement
mod WholeLaws
