pub mod CommandLine
pub mod Endings
pub mod Runs
pub mod Inner
