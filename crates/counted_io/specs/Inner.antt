-- Words of private functions and proofs.
pub mod Blocks
