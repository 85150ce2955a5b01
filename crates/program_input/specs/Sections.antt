-- Passed on to the crates above, which so need not name the crate below.
pub use Rattle.input_sections.specs.Sections.{Unread, whole_of}
