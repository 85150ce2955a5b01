-- Words that the public clauses don't cite.
pub mod Growing
pub mod Snapshots
pub mod Likely
