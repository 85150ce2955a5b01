pub mod Faults
pub mod Groups
pub mod Inner
pub mod Reports
pub mod Runs
pub mod SampleSheet
