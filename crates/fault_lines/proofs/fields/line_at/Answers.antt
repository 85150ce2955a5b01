use Rattle.std.proofs.Common.{sym, ap, ◌∙◌}
use Rattle.std.specs.List.{slice_get}
use Rattle.metering_model.specs.BatchReading.{lines_in}
use Rattle.fault_lines.proofs.FieldLines.{line_there, no_line_there}
use Rattle.fault_lines.proofs.fields.line_at.Goals as goal

pub returns-in-Some-first_line : goal.returns-in-Some-first_line
returns-in-Some-first_line c =
    let text = c.args.text.now in
    let lines = ap (λ t. (lines_in t).lines) c.split_at.ensures.back ∙ c.in-Some.ensures.lines in
    ap (λ n. slice_get (lines_in text).lines n) (sym c.saturating_sub.ensures)
    ∙ line_there text c.split_at.result.1.now c.saturating_sub.result lines c.in-Some-first_line.line.now c.in-Some-first_line.field-0-1.now c.in-Some-first_line.ensures

pub returns-in-None : goal.returns-in-None
returns-in-None c =
    let text = c.args.text.now in
    let lines = ap (λ t. (lines_in t).lines) c.split_at.ensures.back ∙ c.in-Some.ensures.lines in
    ap (λ n. slice_get (lines_in text).lines n) (sym c.saturating_sub.ensures) ∙ no_line_there text c.split_at.result.1.now c.saturating_sub.result lines c.in-None.ensures
