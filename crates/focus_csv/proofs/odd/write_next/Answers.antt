-- What the writer writes is the field, and it is sent on.
use Rattle.std.proofs.Common.{◌≢◌, ◌++◌}
use Rattle.csv.specs.Writing.{fields_written, writer_pending, writer_setup, writer_under}
use Rattle.csv.specs.declared.writer.QuoteStyle.TheVariants as style
use Rattle.focus_csv.proofs.CsvText.{field_behind}
use Rattle.focus_csv.proofs.odd.write_next.Goals as goal

pub returns-clause-written : goal.returns-clause-written
returns-clause-written c = λ ready.
    let usual = c.requires in
    let plain : (writer_setup c.args.writer.now).style ≢ style.NonNumeric = rw usual (λ e. cc e) in
    let old = c.args.writer.now in
    let mid = c.write_field.new.self in
    let new = c.flush.new.self in
    field_behind (writer_setup old) (fields_written old) c.args.field.now (writer_under old).items (writer_pending old)
    ((writer_under mid).items ++ writer_pending mid) (writer_under new).items (writer_pending new)
    usual ready.some ready.out c.in-Ok-flush.ensures.pending (c.in-Ok.ensures.text plain) c.in-Ok-flush.ensures.bytes
