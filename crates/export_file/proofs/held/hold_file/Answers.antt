-- A small file is the text alone.
use Rattle.std.proofs.Common.{ap, ◌∙◌}
use Rattle.metering_model.specs.File.{file}
use Rattle.metering_model.specs.Transcript.{line_count}
use Rattle.focus_csv.specs.Rows.{joined}
use Rattle.export_file.proofs.PartLaws.{none_behind, put_alone}
use Rattle.export_file.proofs.held.hold_file.Goals as goal

pub returns-then-not-is_great-clause-file : goal.returns-then-not-is_great-clause-file
returns-then-not-is_great-clause-file c =
    let text = c.put_file_in.new.text.items in
    let whole = file (joined c.args.batches.now) in
    none_behind text c.args.folded.now whole (put_alone text c.args.text.now.items whole c.in_ok-put_file_in.ensures.put c.requires.0) c.requires.1

pub returns-then-not-is_great-clause-lines : goal.returns-then-not-is_great-clause-lines
returns-then-not-is_great-clause-lines c =
    let text = c.put_file_in.new.text.items in
    let whole = file (joined c.args.batches.now) in
    c.line_count.ensures ∙ ap line_count (c.deref.ensures.value ∙ put_alone text c.args.text.now.items whole c.in_ok-put_file_in.ensures.put c.requires.0)
