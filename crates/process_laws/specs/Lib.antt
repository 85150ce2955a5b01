pub mod LocalSteps
pub mod Histories
