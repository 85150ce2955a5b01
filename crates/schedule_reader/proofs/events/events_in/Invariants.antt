use Rattle.std.proofs.Common.{◌≡◌, ◌-◌, ◌≤◌, length, map, All}
use Rattle.schedule_reader.specs.Schedules.{events_in}
use Rattle.schedule_reader.specs.Inner.Found.{in_front}
use Rattle.schedule_reader.specs.Inner.Packed.{IsPackedIn, unpacked}
use Rattle.schedule_reader.proofs.events.events_in.Given as goal

-- The events found so far stand before those that are still to be read, and their lines are whole lines of the text, behind which the
-- reader goes on.
abbrev pub invariant-loop : goal.invariant-loop
invariant-loop l = record {
  events : events_in l.most l.fn.unread ≡ in_front (map (unpacked l.text) l.packed.items) (events_in (l.most - l.counter) l.here);
  packed : All (IsPackedIn l.text) l.packed.items;
  text : l.here.text ≡ l.text;
  within : l.here.from ≤ length l.text;
}
