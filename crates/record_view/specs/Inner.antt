pub mod Placed
pub mod Plain
pub mod TagParts
pub mod RecordSteps
pub mod LineFields
pub mod KeptFields
