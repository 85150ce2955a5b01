pub mod Blocks
pub mod Wants
