-- Passed on to the crates above, which so need not name the crate below.
pub use Rattle.byte_text.proofs.PastLines.{HasFront, front_length, has_front, longer_front, past_next, past_none}
