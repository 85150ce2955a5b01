-- Words that the public clauses don't cite.
pub mod Shelves
pub mod Fronts
pub mod Values
pub mod Amended
pub mod Amenders
pub mod Rows
