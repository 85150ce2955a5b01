-- Words of private functions and proofs.
pub mod Compared
pub mod Listed
pub mod SaidLines
