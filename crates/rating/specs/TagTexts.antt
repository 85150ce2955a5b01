-- Passed on to the crates above, which so need not name the crate below.
pub use Rattle.record_view.specs.TagTexts.{tag_of}
