-- Passed on to the crates above, which so need not name the crate below.
pub use Rattle.sheet_text.specs.IssuerReading.{issuer_of_text}
