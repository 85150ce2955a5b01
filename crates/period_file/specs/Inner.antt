pub mod Calls
pub mod Reading
