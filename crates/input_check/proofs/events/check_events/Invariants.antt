use Rattle.std.proofs.Common.{◌≡◌, ◌-◌, ◌≤◌, List, [], ◌++◌, length}
use Rattle.std.specs.Arc.{arc_value}
use Rattle.metering_model.specs.Batch.{Batch}
use Rattle.schedule_reader.specs.Schedules.{events_in}
use Rattle.fault_lines.specs.Ahead.{AreLatest, ahead_of_all}
use Rattle.input_check.specs.Checks.{said_of_events}
use Rattle.input_check.specs.Inner.Counted.{counted_of_events}
use Rattle.input_check.specs.Inner.Faults.{fault_of}
use Rattle.input_check.proofs.events.check_events.Given as goal

-- What was said so far stands before what is to be said of the events that are left, what was warned of before what is to be warned
-- of behind the batches that were journaled, the events so far have no fault, and what is left is of the text.
abbrev pub invariant-loop : goal.invariant-loop
invariant-loop l =
    (l.fn.told.items ++ said_of_events l.most l.fn.world l.fn.unread ≡ l.told.items ++ said_of_events (l.most - l.counter) l.world l.here)
    × (fault_of (events_in l.most l.fn.unread) ≡ fault_of (events_in (l.most - l.counter) l.here))
    × ((journaled : List Batch) × AreLatest l.latest journaled
    × (l.fn.warned.items ++ ahead_of_all [] (counted_of_events l.most l.fn.world l.fn.unread)
    ≡ l.warned.items ++ ahead_of_all journaled (counted_of_events (l.most - l.counter) l.world l.here)))
    × ((l.here.text ≡ (arc_value l.text).items) × (l.here.from ≤ length (arc_value l.text).items))
