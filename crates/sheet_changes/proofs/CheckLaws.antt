-- What check says of two sheets, case by case.
use Rattle.std.proofs.Common.{◌≡◌, ◌≢◌, ℕ, List, [], ◌++◌, Result, Ok, Err, refl, sym, ap, subst, ◌∙◌, append-nil, codes}
use Rattle.std.specs.Prelude.{IsOk, OnOk}
use Rattle.std.proofs.lemmas.Bool.{false≢true}
use Rattle.metering_model.specs.FirstFailure.{◌>>=◌}
use Rattle.metering_model.specs.Limits.{most_sheet_lines}
use Rattle.metering_model.specs.Sheet.{Sheet}
use Rattle.metering_model.proofs.StepLaws.{ok_step_from}
use Rattle.fault_lines.specs.Told.{said_of_fault}
use Rattle.fault_lines.specs.UnknownKeys.{unknown_from}
use Rattle.input_sections.specs.declared.faults.ScheduleCode.TheVariants as code
use Rattle.input_sections.specs.declared.faults.ScheduleFault.{ScheduleFault}
use Rattle.input_sections.specs.declared.faults.ScheduleFault.TheVariants.{OutOfMemory, Refused}
use Rattle.input_sections.specs.Sections.{Section, Unread, read_as, section_in, sheet_section, whole_of}
use Rattle.price_sheet.specs.SheetReading.{sheet_of_text}
use Rattle.program_input.proofs.FaultLaws.{first_fails}
use Rattle.sheet_changes.specs.Changes.{two_sheets_in}
use Rattle.sheet_changes.specs.Checks.{beginnings_in, said_of, said_of_two_sheets, warned_of, warned_of_two_sheets}
use Rattle.sheet_changes.specs.Inner.SaidLines.{fault_said, none_warned}

-- ---- both sections are taken

pub taken_says : (text : List ℕ) → IsOk (two_sheets_in text) → said_of_two_sheets text ≡ []
unfolding said_of_two_sheets
taken_says text ok = by_both (two_sheets_in text) ok
  where
    by_both : (r : Result (Sheet × Sheet) ScheduleFault) → IsOk r → said_of text r ≡ []
    by_both (Ok both) is = refl
    by_both (Err fault) is = absurd (false≢true is)

module _ (text : List ℕ) (u : Unread) (s : Section) (ok : IsOk (two_sheets_in text)) (whole : whole_of text ≡ Ok u) (opens : section_in code.Sheet (codes "sheet ") most_sheet_lines u ≡ Ok s) where
  begun_where : (sheet : Sheet) (r : Result (Sheet × Sheet) ScheduleFault) → sheet_section u ≡ Ok (sheet, s.rest) → two_sheets_in text ≡ r → IsOk r → beginnings_in text ≡ Ok (u, s.rest)
  unfolding beginnings_in
  begun_where sheet (Ok both) first is taken =
      ok_step_from (whole_of text) _ u _ whole
      (ok_step_from (sheet_section u) _ (sheet, s.rest) _ first (ok_step_from (two_sheets_in text) _ both _ is refl))
  begun_where sheet (Err fault) first is taken = absurd (false≢true taken)

  refused_where : (fault : ScheduleFault) → sheet_section u ≡ Err fault → two_sheets_in text ≡ Err fault
  unfolding two_sheets_in
  refused_where fault first = ok_step_from (whole_of text) _ u _ whole (first_fails (sheet_section u) _ fault first)

  begun_by : (r : Result Sheet ScheduleFault) → sheet_section u ≡ (r >>= λ (sheet : Sheet). Ok (sheet, s.rest)) → beginnings_in text ≡ Ok (u, s.rest)
  begun_by (Ok sheet) first = begun_where sheet (two_sheets_in text) first refl ok
  begun_by (Err fault) first = absurd (false≢true (subst IsOk (refused_where fault first) ok))

  first_section : sheet_section u ≡ (read_as sheet_of_text (Refused code.Sheet u.line) s.text >>= λ (sheet : Sheet). Ok (sheet, s.rest))
  unfolding sheet_section
  first_section = ok_step_from (section_in code.Sheet (codes "sheet ") most_sheet_lines u) _ s _ opens refl

  pub both_warned : warned_of_two_sheets text ≡ unknown_from u ++ unknown_from s.rest
  unfolding warned_of_two_sheets
  both_warned = ap warned_of (begun_by (read_as sheet_of_text (Refused code.Sheet u.line) s.text) first_section)

module _ (text : List ℕ) (fault : ScheduleFault) (ok : IsOk (two_sheets_in text)) where
  pub is_whole : whole_of text ≡ Err fault → ⊥
  unfolding two_sheets_in
  is_whole none = false≢true (subst IsOk (first_fails (whole_of text) _ fault none) ok)

  pub is_opened : (u : Unread) → whole_of text ≡ Ok u → section_in code.Sheet (codes "sheet ") most_sheet_lines u ≡ Err fault → ⊥
  unfolding two_sheets_in sheet_section
  is_opened u whole none =
      false≢true
      (subst IsOk
      (ok_step_from (whole_of text) _ u _ whole
      (first_fails (sheet_section u) _ fault (first_fails (section_in code.Sheet (codes "sheet ") most_sheet_lines u) _ fault none)))
      ok)

-- ---- one of them is refused

module _ {T E : Type 0} (text before : List ℕ) (fault : ScheduleFault) (refused : fault ≢ OutOfMemory → two_sheets_in text ≡ Err fault) where
  pub fault_told : (r : Result T E) (told : List ℕ) → OnOk r (fault ≢ OutOfMemory) → OnOk r (told ≡ before ++ said_of_fault text fault) → OnOk r (told ≡ before ++ said_of_two_sheets text)
  fault_told (Ok x) told known is = is ∙ ap (λ t. before ++ t) (sym (fault_said text fault (refused known)))
  fault_told (Err e) told known is = tt

  pub none_told : (r : Result T E) → OnOk r (fault ≢ OutOfMemory) → OnOk r (before ≡ before ++ warned_of_two_sheets text)
  none_told (Ok x) known = sym (append-nil before) ∙ ap (λ t. before ++ t) (sym (none_warned text fault (refused known)))
  none_told (Err e) known = tt
