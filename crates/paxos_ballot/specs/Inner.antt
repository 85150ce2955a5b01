-- Words of private functions and proofs.
pub mod NodeMarks
pub mod Tallies
