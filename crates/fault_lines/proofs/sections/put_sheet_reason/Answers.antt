use Rattle.std.proofs.Common.{◌≡◌, ◌++◌, List, ℕ, OnOk, sym, ap, subst, ◌∙◌}
use Rattle.price_sheet.specs.SheetReading.{sheet_of_text}
use Rattle.fault_lines.specs.TextKinds.{opening_words}
use Rattle.fault_lines.specs.TomlStops.{sheet_words}
use Rattle.fault_lines.specs.Told.{said_by, said_of}
use Rattle.fault_lines.proofs.SectionLaws.{said_of_other, said_of_utf8}
use Rattle.fault_lines.proofs.ToldPieces.{put_one}
use Rattle.fault_lines.proofs.sections.put_sheet_reason.Goals as goal

pub returns-in_default : goal.returns-in_default
returns-in_default c =
    let said = c.opening_words.ensures ∙ sym (ap (said_of (sheet_words c.args.line) sheet_of_text (opening_words c.args.text.now c.args.line)) c.in_default.ensures) in
    put_one c.extend_from_slice.result c.args.told.now.items c.extend_from_slice.new.self.items _ _ said c.extend_from_slice.ensures.items

pub returns-in-Ok : goal.returns-in-Ok
returns-in-Ok c =
    let text = c.in-Ok.ensures.cases in
    let there = ap (said_of (sheet_words c.args.line) sheet_of_text (opening_words c.args.text.now c.args.line)) c.in-Some.ensures in
    let said = ap (λ t. said_by (sheet_words c.args.line t) (sheet_of_text t)) text.0 ∙ sym (there ∙ said_of_utf8 (sheet_words c.args.line c.in-Some.section.now) sheet_of_text c.in-Some.section.now text.1) in
    subst (λ (t : List ℕ). OnOk c.put_sheet_answer.result (c.put_sheet_answer.new.told.items ≡ c.args.told.now.items ++ t)) said c.put_sheet_answer.ensures

pub returns-in-Err : goal.returns-in-Err
returns-in-Err c =
    let there = ap (said_of (sheet_words c.args.line) sheet_of_text (opening_words c.args.text.now c.args.line)) c.in-Some.ensures in
    let said = sym (there ∙ said_of_other (sheet_words c.args.line c.in-Some.section.now) sheet_of_text c.in-Some.section.now c.in-Err.ensures.cases.0) in
    put_one c.extend_from_slice-in-Err.result c.args.told.now.items c.extend_from_slice-in-Err.new.self.items _ _ said c.extend_from_slice-in-Err.ensures.items
