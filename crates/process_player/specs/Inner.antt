-- Words that the public clauses don't cite.
pub mod Calls
pub mod SheetAndIssuer
pub mod Reading
pub mod Told
pub mod Groups
pub mod Fronts
pub mod Refusing
