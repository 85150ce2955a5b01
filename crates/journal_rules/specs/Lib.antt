pub mod FirstBad
pub mod Inner
pub mod Stores
