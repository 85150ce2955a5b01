-- Passed on to the crates above, which so need not name the crate below.
pub use Rattle.schedule_player.specs.Transcripts.{IsPrefixOfTranscript, IsTranscriptOf}
