pub mod Lent
pub mod Batches
pub mod Asked
pub mod Extents
pub mod Kept
pub mod Offers
pub mod Inner
