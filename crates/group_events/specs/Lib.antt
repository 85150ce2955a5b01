pub mod Events
pub mod Snapshots
pub mod Replies
pub mod Batches
pub mod Offers
