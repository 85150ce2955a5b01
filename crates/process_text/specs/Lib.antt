pub mod Requests
pub mod Answers
pub mod Inner
