pub mod Calls
pub mod Faults
pub mod Inner
pub mod Lines
pub mod Reading
