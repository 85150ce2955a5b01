-- A text that begins with the word has a section of a sheet, and else the sheet without rows stands in its place.
use Rattle.std.proofs.Common.{◌≡◌, ◌≢◌, ◌∙◌, ℕ, Bool, true, false, cond, Result, Ok, Err, IfOk, IfErr, sym, ap, subst, codes}
use Rattle.metering_model.specs.Sheet.{Sheet}
use Rattle.input_sections.specs.declared.faults.ScheduleFault.{ScheduleFault}
use Rattle.input_sections.specs.declared.faults.ScheduleFault.TheVariants.{OutOfMemory}
use Rattle.input_sections.specs.RateInput.{default_sheet, if_begun}
use Rattle.input_sections.specs.Sections.{Unread, begins_with, left, sheet_section}
use Rattle.price_sheet.specs.SheetReading.{empty_sheet}
use Rattle.input_sections.proofs.rates.sheet_or_default.Goals as goal

abbrev sheet_in : Unread → Result (Sheet × Unread) ScheduleFault
sheet_in = if_begun (codes "sheet ") sheet_section default_sheet

module _ (u : Unread) {b : Bool} (is : b ≡ begins_with (codes "sheet ") (left u)) where
  begun : b ≡ true → sheet_in u ≡ sheet_section u
  begun begins = ap (λ t. cond t (sheet_section u) (Ok (default_sheet, u))) (sym is ∙ begins)

  missing : b ≡ false → (sheet : Sheet) {month : ℕ} → sheet ≡ empty_sheet month → month ≡ 24_300 → sheet_in u ≡ Ok (sheet, u)
  missing other sheet {month} empty base =
      ap (λ t. cond t (sheet_section u) (Ok (default_sheet, u))) (sym is ∙ other) ∙ ap (λ (s : Sheet). Ok (s, u)) (sym (empty ∙ ap empty_sheet base))

  taken_begun : b ≡ true → (r : Result (Sheet × Unread) ScheduleFault) → IfOk r (λ x. sheet_section u ≡ Ok (x.0, x.1)) → IfOk r (λ x. sheet_in u ≡ Ok (x.0, x.1))
  taken_begun begins r = subst (λ (o : Result (Sheet × Unread) ScheduleFault). IfOk r (λ x. o ≡ Ok (x.0, x.1))) (sym (begun begins))

  refused_begun : b ≡ true → (r : Result (Sheet × Unread) ScheduleFault) → IfErr r (λ fault. fault ≢ OutOfMemory → sheet_section u ≡ Err fault) → IfErr r (λ fault. fault ≢ OutOfMemory → sheet_in u ≡ Err fault)
  refused_begun begins r = subst (λ (o : Result (Sheet × Unread) ScheduleFault). IfErr r (λ fault. fault ≢ OutOfMemory → o ≡ Err fault)) (sym (begun begins))

pub returns-then-begins_with-clause-taken : goal.returns-then-begins_with-clause-taken
returns-then-begins_with-clause-taken c = taken_begun c.args.unread c.begins_with.ensures c.if-begins_with.true c.read_sheet.result c.read_sheet.ensures.taken

pub returns-then-begins_with-clause-refused : goal.returns-then-begins_with-clause-refused
returns-then-begins_with-clause-refused c = refused_begun c.args.unread c.begins_with.ensures c.if-begins_with.true c.read_sheet.result c.read_sheet.ensures.refused

pub returns-then-begins_with-clause-rules : goal.returns-then-begins_with-clause-rules
returns-then-begins_with-clause-rules c = c.read_sheet.ensures.rules

pub returns-then-begins_with-clause-text : goal.returns-then-begins_with-clause-text
returns-then-begins_with-clause-text c = c.read_sheet.ensures.text

pub returns-in-Ok-clause-taken : goal.returns-in-Ok-clause-taken
returns-in-Ok-clause-taken c = missing c.args.unread c.begins_with.ensures c.if-begins_with.false c.in-Ok.sheet c.in-Ok.ensures c.of.ensures
