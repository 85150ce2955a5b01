pub mod Changes
pub mod Checks
pub mod Faults
pub mod FieldChanges
pub mod Likenesses
pub mod Inner
pub mod Regions
