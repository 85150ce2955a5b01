-- Passed on to the crates above, which so need not name the crate below.
pub use Rattle.period_cut.specs.Limits.{IsCut}
