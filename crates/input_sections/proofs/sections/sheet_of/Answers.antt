use Rattle.std.proofs.Common.{Err, sym, ap, subst, ◌∙◌}
use Rattle.toml.specs.Errors.{IsBlank}
use Rattle.price_sheet.specs.SheetReading.{sheet_of_text}
use Rattle.input_sections.specs.declared.faults.ScheduleCode.TheVariants.{Sheet}
use Rattle.input_sections.specs.declared.faults.ScheduleFault.TheVariants.{Refused}
use Rattle.input_sections.proofs.ReadLaws.{not_utf8, read_well, read_badly}
use Rattle.input_sections.proofs.ToldLaws.{sheet_refused, sheet_wants}
use Rattle.input_sections.proofs.sections.sheet_of.Goals as goal

pub returns-in_default-clause-refused : goal.returns-in_default-clause-refused
returns-in_default-clause-refused c = λ _. not_utf8 sheet_of_text (Refused Sheet c.args.line) c.args.text.now c.in_default.ensures.cases.0

pub returns-in-Ok-read-clause-taken : goal.returns-in-Ok-read-clause-taken
returns-in-Ok-read-clause-taken c =
    let text = c.in-Ok.ensures.cases in
    read_well sheet_of_text (Refused Sheet c.args.line) c.args.text.now _ text.1 (ap sheet_of_text (sym text.0) ∙ c.in-Ok-read.ensures.taken)

pub returns-in-Err-clause-refused : goal.returns-in-Err-clause-refused
returns-in-Err-clause-refused c = λ other.
    let text = c.in-Ok.ensures.cases in
    let told = sheet_refused c.in-Err.fault c.args.line _ c.told_of_sheet.ensures other in
    let read = ap sheet_of_text (sym text.0) ∙ c.in-Err.ensures.refused told.0 in
    read_badly sheet_of_text (Refused Sheet c.args.line) c.args.text.now c.in-Err.fault text.1 read ∙ ap Err (sym told.1)

pub returns-in-Err-clause-want : goal.returns-in-Err-clause-want
returns-in-Err-clause-want c = λ is.
    let text = c.in-Ok.ensures.cases in
    let blank = c.in-Err.ensures.want (sheet_wants c.in-Err.fault c.args.line (sym c.told_of_sheet.ensures ∙ is)) in
    (text.1, subst (λ t. ¬ IsBlank t) text.0 blank)
