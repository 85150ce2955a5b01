pub mod ReadSteps
pub mod WriteSteps
pub mod WholeTexts
pub mod Limits
pub mod NextBatch
