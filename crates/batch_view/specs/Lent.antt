-- Passed on from the crate that reads one record.
pub use Rattle.record_view.specs.Lent.{model_reading, record_of}
