pub mod Books
pub mod Agreement
pub mod Kept
pub mod Logs
pub mod Whole
