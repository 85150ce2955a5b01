-- A table that is read as a sheet, and a text that is no TOML.
use Rattle.std.proofs.lemmas.Result.{IfOk-weaker, IfErr-weaker}
use Rattle.metering_model.specs.SheetRules.{IsSheet}
use Rattle.price_sheet.specs.SheetReading.{sheet_of_text}
use Rattle.price_sheet.proofs.BlankLaws.{not_blank}
use Rattle.price_sheet.proofs.SheetLaws.{sheet_read}
use Rattle.price_sheet.proofs.sheets.Sheet.read.Goals as goal

pub returns-in-Ok-clause-taken : goal.returns-in-Ok-clause-taken
unfolding sheet_of_text
returns-in-Ok-clause-taken c = rw c.in-Ok.ensures.ok c.of_table.ensures.taken

pub returns-in-Ok-clause-refused : goal.returns-in-Ok-clause-refused
unfolding sheet_of_text
returns-in-Ok-clause-refused c = rw c.in-Ok.ensures.ok c.of_table.ensures.refused

pub returns-in-Ok-clause-rules : goal.returns-in-Ok-clause-rules
returns-in-Ok-clause-rules c = IfOk-weaker c.of_table.result _ IsSheet (λ sheet h. sheet_read _ sheet h) c.of_table.ensures.taken

pub returns-in-Ok-clause-want : goal.returns-in-Ok-clause-want
returns-in-Ok-clause-want c = IfErr-weaker c.of_table.result _ _ (λ fault h is. not_blank _ _ c.in-Ok.ensures.ok (h is)) c.of_table.ensures.want
