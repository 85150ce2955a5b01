-- Passed on to the crates above, which so need not name the crate below.
pub use Rattle.group_events.specs.Replies.{reply_of}
