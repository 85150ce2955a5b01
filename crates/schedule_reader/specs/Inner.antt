pub mod Found
pub mod Packed
