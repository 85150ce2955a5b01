-- Words of private functions and proofs.
pub mod Head
pub mod Left
