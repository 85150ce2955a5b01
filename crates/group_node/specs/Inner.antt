-- Words of private functions and proofs.
pub mod Answering
pub mod Proposing
