pub mod Told
pub mod Hosts
pub mod Comes
