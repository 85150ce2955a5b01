use Rattle.std.proofs.Common.{◌≡◌, ◌≤◌, ◌++◌, ◌-◌, [], length, map}
use Rattle.metering_model.specs.Sheet.{Issuer}
use Rattle.schedule_writer.specs.Inputs.{batches_of, closes_from, items_in}
use Rattle.schedule_writer.specs.Inner.Judged.{IsAskedWithin, IsJudged}
use Rattle.schedule_writer.specs.Inner.Plans.{taken_of}
use Rattle.schedule_writer.proofs.judging.take_items.Given as goal

-- What was found, and what is left behind it, are all; and the batches so far were journaled, and ask for this.
abbrev pub invariant-loop : goal.invariant-loop
invariant-loop l =
    record {
      here : l.here ≤ length l.input;
      batches : map taken_of l.items.batches.items ++ batches_of (items_in (length l.input - l.counter) l.input l.here)
          ≡ batches_of (items_in (length l.input) l.input l.fn.from);
      closes : l.items.closes.items ++ closes_from (length l.items.batches.items) (items_in (length l.input - l.counter) l.input l.here)
          ≡ closes_from 0 (items_in (length l.input) l.input l.fn.from);
      judged : (issuer : Issuer) → IsJudged l.sheet issuer [] l.fn.world l.fn.items.asked.agents l.fn.items.asked.last
          → IsJudged l.sheet issuer (map taken_of l.items.batches.items) l.world l.items.asked.agents l.items.asked.last;
      within : IsAskedWithin l.items.asked.agents l.items.asked.last;
    }
