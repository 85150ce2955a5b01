use Rattle.std.proofs.Common.{Err, refl}
use Rattle.schedule_writer.proofs.KnownLaws.{tells_unread}
use Rattle.schedule_writer.proofs.writing.schedule_text.Goals as goal

pub returns-in-Err-clause-faults : goal.returns-in-Err-clause-faults
returns-in-Err-clause-faults g c =
    tells_unread (Err c.in-Err.fault) (g.R.Source.remaining c.args.reader.now) c.in-Err.fault refl c.in-Err.ensures.fault
