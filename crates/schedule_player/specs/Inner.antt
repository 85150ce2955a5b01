pub mod Playing
pub mod Held
pub mod Writing
