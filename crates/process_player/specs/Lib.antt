pub mod Faults
pub mod Starts
pub mod Runs
pub mod Refusals
pub mod Inner
