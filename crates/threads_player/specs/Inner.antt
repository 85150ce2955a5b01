-- Words of private functions and proofs.
pub mod Plans
