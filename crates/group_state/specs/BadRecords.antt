-- The record for which a batch is not journaled.
use Rattle.std.specs.Prelude.{Bool, ◌&&◌, ◌==◌, nat_le, if◌then◌else◌, Option, None, Result, Ok, Err}
use Rattle.metering_model.specs.Batch.{Batch}
use Rattle.metering_model.specs.Holding.{Position, placed, put}
use Rattle.metering_model.specs.JournalRules.{next_seq}
use Rattle.metering_model.specs.Step.{batch_of}
use Rattle.metering_model.specs.World.{World, Event, Journal, Deliver, Start, Restart, Export, Keep, Revive}
use Rattle.metering_model.specs.declared.Refusal.{Refusal}
use Rattle.journal_rules.specs.FirstBad.{first_bad}

-- whether a batch is of an agent of the world, and comes next in its journal
abbrev pub is_next : World → Batch → Bool
is_next w b = nat_le b.agent w.agents && (b.seq == next_seq w.journals b.agent)

-- Of a batch that comes next, the place of the first record that breaks a rule of the journals, which have the batch too.
abbrev pub bad_in : World → Batch → Option Position
bad_in w b = if is_next w b then first_bad w.sheet (put w.journals b) (placed b) else None

abbrev pub bad_of : World → Result Batch Refusal → Option Position
bad_of w (Ok b) = bad_in w b
bad_of w (Err why) = None

-- of a batch that an event hands in
abbrev pub bad_record : World → Event → Option Position
bad_record w (Journal offer) = bad_of w (batch_of offer)
bad_record w (Deliver k i) = None
bad_record w (Start i) = None
bad_record w (Restart i) = None
bad_record w (Export i p) = None
bad_record w (Keep i) = None
bad_record w (Revive i offer) = None
