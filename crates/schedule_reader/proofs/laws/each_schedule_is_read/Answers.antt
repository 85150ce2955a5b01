-- A text is read where it has the form of a schedule, and only there.
use Rattle.schedule_reader.proofs.ScheduleForms.{schedule_read}
use Rattle.schedule_reader.proofs.WrittenSchedules.{schedule_written}
use Rattle.schedule_reader.proofs.laws.each_schedule_is_read.Goals as goal

pub returns-clause-form : goal.returns-clause-form
returns-clause-form c = schedule_read

pub returns-clause-taken : goal.returns-clause-taken
returns-clause-taken c = schedule_written
