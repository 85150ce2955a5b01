pub mod Taking
pub mod Finding
pub mod Seen
pub mod Told
pub mod Passing
mod Failing
