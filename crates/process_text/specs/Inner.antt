-- Words that the public clauses don't cite.
pub mod Read
pub mod Written
