pub mod Columns
pub mod Faults
pub mod Inner
pub mod Rows
pub mod TagData
