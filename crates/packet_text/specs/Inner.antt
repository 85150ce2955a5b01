-- Words of private functions and proofs.
pub mod Heads
pub mod Numbers
pub mod Pieces
pub mod Unread
