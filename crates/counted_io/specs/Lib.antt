pub mod Counts
pub mod Counted
pub mod Devices
pub mod Inner
pub mod Reading
pub mod Streams
pub mod Writing
