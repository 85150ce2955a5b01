-- Passed on to the crates above, which so need not name the crate below.
pub use Rattle.byte_text.proofs.LineLemmas.{lines_at_feed, lines_without_feed}
