use Rattle.std.proofs.Common.{◌<◌, ◌≤◌, length, arith}
use Rattle.batch_view.specs.Batches.{batch_of}
use Rattle.fault_lines.proofs.RecordWords.{never, no_batch_told, none_told, nothing_more}
use Rattle.fault_lines.proofs.batches.put_record_at.Goals as goal

pub returns-in_default : goal.returns-in_default
returns-in_default c = nothing_more c.args.told.now.items _ (no_batch_told c.args.sheet.now c.args.text.now c.args.index c.in_default.field-0 c.in_default.ensures.err)

pub returns-in-None : goal.returns-in-None
returns-in-None c =
    let there = rw c.in-Ok.ensures.ok.0 at c.in-None.ensures.there in
    let no : c.args.index < length (batch_of c.args.text.now).records → ⊥ = λ low. never (there.1 low) in
    let past : length (batch_of c.args.text.now).records ≤ c.args.index = omega (arith, no) in
    nothing_more c.args.told.now.items _ (none_told c.args.sheet.now c.args.text.now c.args.index past)
