-- Passed on to the crates above, which so need not name the crate below.
pub use Rattle.batch_store.specs.Stores.{AreAmended, AreAmendedValues, IsStored, Stored, named_between, named_by, position_of, rise, stands_before}
