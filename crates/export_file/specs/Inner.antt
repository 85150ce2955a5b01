-- Words that the public clauses don't cite.
pub mod Parts
pub mod Writing
