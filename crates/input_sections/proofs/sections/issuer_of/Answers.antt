use Rattle.std.proofs.Common.{Err, sym, ap, ◌∙◌}
use Rattle.sheet_text.specs.IssuerReading.{issuer_of_text}
use Rattle.input_sections.specs.declared.faults.ScheduleCode.TheVariants.{Issuer}
use Rattle.input_sections.specs.declared.faults.ScheduleFault.TheVariants.{Refused}
use Rattle.input_sections.proofs.ReadLaws.{not_utf8, read_well, read_badly}
use Rattle.input_sections.proofs.ToldLaws.{issuer_refused}
use Rattle.input_sections.proofs.sections.issuer_of.Goals as goal

pub returns-in_default-clause-refused : goal.returns-in_default-clause-refused
returns-in_default-clause-refused c = λ _. not_utf8 issuer_of_text (Refused Issuer c.args.line) c.args.text.now c.in_default.ensures.cases.0

pub returns-in-Ok-read-clause-taken : goal.returns-in-Ok-read-clause-taken
returns-in-Ok-read-clause-taken c =
    let text = c.in-Ok.ensures.cases in
    read_well issuer_of_text (Refused Issuer c.args.line) c.args.text.now _ text.1 (ap issuer_of_text (sym text.0) ∙ c.in-Ok-read.ensures.taken)

pub returns-in-Err-clause-refused : goal.returns-in-Err-clause-refused
returns-in-Err-clause-refused c = λ other.
    let text = c.in-Ok.ensures.cases in
    let told = issuer_refused c.in-Err.fault c.args.line _ c.told_of_issuer.ensures other in
    let read = ap issuer_of_text (sym text.0) ∙ c.in-Err.ensures.refused told.0 in
    read_badly issuer_of_text (Refused Issuer c.args.line) c.args.text.now c.in-Err.fault text.1 read ∙ ap Err (sym told.1)
