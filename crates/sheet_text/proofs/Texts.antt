-- Texts that are the same, passed on.
pub use Rattle.byte_text.proofs.Texts.{same_is}
