-- Passed on to the crates above, which so need not name the crate below.
pub use Rattle.group_state.specs.Charged.{ChargesAll}
