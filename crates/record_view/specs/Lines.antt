-- Passed on to the crates above, which so need not name the crate below.
pub use Rattle.byte_text.specs.Lines.{IsPast}
