use Rattle.std.proofs.Common.{◌≡◌, length, take, map}
use Rattle.metering_model.specs.Step.{play}
use Rattle.group_state.specs.Words.{event_of, reply_of}
use Rattle.group_core.proofs.world.World.play_on.Given as goal

-- What is done so far is the run of the events so far.
abbrev pub invariant-loop-event : goal.invariant-loop-event
invariant-loop-event l = record {
  run : (map reply_of l.replies.items, l.self) ≡ play l.fn.self (map event_of (take l.event-index l.events));
  count : length l.replies.items ≡ l.event-index;
}
