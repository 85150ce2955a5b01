-- Words that the public clauses don't cite.
pub mod Members
pub mod Allowed
