-- The issuer of the worked examples, passed on.
pub use Rattle.sheet_text.specs.Samples.{sample_issuer}
