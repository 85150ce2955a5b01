use Rattle.std.proofs.Common.{◌≡◌, Some}
use Rattle.std.specs.Arc.{arc_value}
use Rattle.metering_model.specs.BatchReading.{fields_in}
use Rattle.metering_model.specs.KeptText.{cut_in}
use Rattle.metering_model.proofs.KeptLines.{cut_read}
use Rattle.log_text.proofs.increment_lines.read_cut.Goals as goal

pub returns-in-Ok-Some : goal.returns-in-Ok-Some
returns-in-Ok-Some c =
    let read : cut_in c.args.agents (fields_in c.args.fields.now) ≡ Some (arc_value c.in-Ok-Some.cut) = cc (rw c.in-Ok-Some.field-0-is at c.in-Ok-Some.ensures) in
    (read, (cut_read c.args.agents c.args.fields.now (arc_value c.in-Ok-Some.cut) read).1.size)
