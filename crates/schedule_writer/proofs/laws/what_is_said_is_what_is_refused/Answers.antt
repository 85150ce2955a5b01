use Rattle.schedule_writer.specs.Inner.SaidLines.{said_of_refused}
use Rattle.schedule_writer.proofs.SaidLaws.{said_first, said_of_taken, taken_of_none}
use Rattle.schedule_writer.proofs.laws.what_is_said_is_what_is_refused.Goals as goal

pub returns : goal.returns
returns c = record { section = said_of_refused; first = said_first; none = said_of_taken; only = taken_of_none }
