use Rattle.fault_lines.proofs.SectionLaws.{line_found, no_whole}
use Rattle.fault_lines.proofs.sections.from_line.Goals as goal

pub returns-in-Ok : goal.returns-in-Ok
returns-in-Ok c = λ code.
    line_found code c.args.line c.args.text.now _ c.behind_lines.result c.in-Ok.ensures.whole (rw c.saturating_sub.ensures at c.behind_lines.ensures)

pub returns-in-Err : goal.returns-in-Err
returns-in-Err c = λ code. (_, no_whole code c.args.line c.args.text.now _ c.in-Err.ensures.whole)
