pub mod Kept
pub mod Offers
pub mod Inner
pub mod Stores
pub mod Promises
