pub mod Offered
pub mod PlayedLaws
pub mod Results
pub mod Texts
pub mod Answered
pub mod TranscriptLaws
pub mod Held
