pub mod Told
pub mod Requested
pub mod Parts
