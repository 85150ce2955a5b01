pub mod Transcripts
pub mod Inner
pub mod Replies
pub mod Faults
