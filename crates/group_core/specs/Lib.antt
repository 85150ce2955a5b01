pub mod Headline
pub mod Playing
pub mod Words
