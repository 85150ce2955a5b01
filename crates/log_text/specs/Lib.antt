pub mod LogText
pub mod Steps
pub mod Heads
pub mod Increments
pub mod Faults
pub mod Inner
