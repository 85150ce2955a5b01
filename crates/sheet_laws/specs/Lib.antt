pub mod Longer
pub mod Runs
pub mod Pairs
