use Rattle.std.proofs.Common.{◌≡◌, ◌-◌}
use Rattle.schedule_reader.specs.Schedules.{events_in}
use Rattle.schedule_writer.specs.declared.plans.Seen.{Seen}
use Rattle.schedule_writer.specs.Inner.Plans.{IsDone, nothing_seen, plan_of}
use Rattle.schedule_writer.proofs.certifying.do_events.Given as goal

-- The journals are those of the world, and whatever is done behind the events that are left is done behind all.
abbrev pub invariant-loop : goal.invariant-loop
invariant-loop l =
    record {
      same : l.journals.batches ≡ l.world.journals;
      done : (last : Seen) → IsDone (plan_of l.plan) l.seen last l.world (events_in (l.most - l.counter) l.here)
          → IsDone (plan_of l.plan) nothing_seen last l.fn.world (events_in l.most l.fn.unread);
    }
