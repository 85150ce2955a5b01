pub mod FaultLaws
pub mod ReadInputs
