pub mod Unchanged
pub mod Worlds
pub mod Runs
pub mod Calls
