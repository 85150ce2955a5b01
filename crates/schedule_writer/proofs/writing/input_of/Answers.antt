use Rattle.std.proofs.Common.{◌≡◌, ℕ, [], Vec, Err, sym, ap, ◌∙◌}
use Rattle.std.specs.declared.alloc.Global.{Global}
use Rattle.counted_io.specs.Counts.{count_after}
use Rattle.metering_model.specs.Transcript.{line}
use Rattle.fault_lines.specs.Told.{said_of_fault}
use Rattle.schedule_writer.proofs.KnownLaws.{no_call, refused_long}
use Rattle.schedule_writer.proofs.writing.input_of.Goals as goal

pub returns-in-Err-Schedule-clause-fault : goal.returns-in-Err-Schedule-clause-fault
returns-in-Err-Schedule-clause-fault g c =
    let told = c.in-Err-Schedule in
    let long = told.ensures.section told.fault (ap Err told.field-0-is) in
    refused_long (g.R.Source.remaining c.args.reader.now) told.fault c.refused_for.result long.0 long.1 c.refused_for.ensures

pub returns-in-Err-Schedule-clause-count : goal.returns-in-Err-Schedule-clause-count
returns-in-Err-Schedule-clause-count g c =
    let told = c.in-Err-Schedule in
    let calm = no_call (Vec ℕ Global) (λ words. line words ≡ said_of_fault [] told.fault) c.refused_for.result c.refused_for.ensures in
    (rw told.field-0-is at told.ensures.count) ∙ sym (ap (λ b. count_after b (g.R.Source.failed_calls c.args.reader.now)) calm)
