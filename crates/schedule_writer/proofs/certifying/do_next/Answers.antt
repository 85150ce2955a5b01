use Rattle.schedule_reader.specs.Events.{planned_of}
use Rattle.schedule_writer.proofs.certifying.do_next.Goals as goal

pub returns-in-Ok-next : goal.returns-in-Ok-next
returns-in-Ok-next c =
    record {
      done = record {
        event = planned_of c.in-Ok.parts.0;
        is_read = c.in-Ok.ensures.event;
        done = rw c.in-Ok-next.is at c.do_made-next.ensures.seen;
        after = rw c.in-Ok-next.is at c.do_made-next.ensures.world;
      };
      journals = rw c.in-Ok-next.is at c.do_made-next.ensures.journals;
    }
