pub mod Inner
pub mod Stores
pub mod Walks
pub mod Asked
pub mod Batches
pub mod Extents
pub mod Limits
