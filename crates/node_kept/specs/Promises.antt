-- Passed on to the crates above, which so need not name the crate below.
pub use Rattle.paxos_ballot.specs.Promises.{after_promise, proposes}
