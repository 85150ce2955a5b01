-- Passed on to the crates above, which so need not name the crate below.
pub use Rattle.batch_view.specs.Asked.{asked_in, asked_left, reading_asked, record_asked}
