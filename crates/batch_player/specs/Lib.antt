pub mod RateInput
pub mod Calls
pub mod Charges
pub mod Files
pub mod Inner
