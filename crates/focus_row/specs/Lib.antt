pub mod Cuts
pub mod Inner
pub mod Rows
