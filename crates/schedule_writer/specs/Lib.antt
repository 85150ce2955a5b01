pub mod Faults
pub mod Requests
pub mod Inputs
pub mod Refusals
pub mod Schedules
pub mod Checks
pub mod Inner
