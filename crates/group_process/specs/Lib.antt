pub mod Selves
pub mod Answers
pub mod Added
pub mod Journals
pub mod Inner
