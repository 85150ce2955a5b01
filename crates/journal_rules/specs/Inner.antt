pub mod Left
pub mod Journaled
