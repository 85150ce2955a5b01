pub mod Faults
pub mod Grammars
pub mod Outcomes
pub mod Parts
pub mod Requests
