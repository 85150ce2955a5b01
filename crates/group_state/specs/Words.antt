-- What events and replies stand for, passed on, so that a crate above needs no name of the crate below.
pub use Rattle.group_events.specs.Events.{event_of}
pub use Rattle.group_events.specs.Replies.{reply_of, is_exported, is_kept_text, is_refused}
pub use Rattle.group_events.specs.declared.replies.Reply.{Reply}
