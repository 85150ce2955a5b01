-- What stands behind the code of a section is what its own reader says of the text of its lines.
use Rattle.std.proofs.Common.{◌≡◌, ℕ, ◌+◌, ◌-◌, ◌<◌, ◌≤◌, ◌^◌, true, List, ◌++◌, length, Some, Ok, codes, refl, ap, ◌∙◌, arith, le-leb}
use Rattle.std.specs.List.{list_all}
use Rattle.metering_model.specs.Batch.{lacks}
use Rattle.metering_model.specs.Limits.{most_input_bytes, most_issuer_lines, most_sheet_lines}
use Rattle.metering_model.specs.Schedule.{AreLines, TextLines, lines_text, section_text}
use Rattle.metering_model.proofs.StepLaws.{test_step_from}
use Rattle.price_sheet.specs.SheetReading.{sheet_of_text}
use Rattle.sheet_text.specs.IssuerReading.{issuer_of_text}
use Rattle.input_sections.specs.declared.faults.ScheduleCode.{ScheduleCode}
use Rattle.input_sections.specs.declared.faults.ScheduleCode.TheVariants as code
use Rattle.input_sections.specs.Sections.{Unread, lines_left, section_of, whole_of}
use Rattle.schedule_reader.proofs.WrittenLines.{lines_written, section_written}
use Rattle.fault_lines.specs.TextKinds.{opening_words}
use Rattle.fault_lines.specs.Told.{said_of, section_on}
use Rattle.fault_lines.specs.TomlStops.{issuer_words, sheet_words}
use Rattle.fault_lines.proofs.SectionLaws.{line_at, section_there}
use Rattle.input_check.specs.Checks.{IsSaidOfSection}

module _ (c : ScheduleCode) (word : List ℕ) (most : ℕ) (small : most < 10 ^ 64) (whole : lacks 10 word ≡ true) where
  -- the section below so many lines is the one that stands there
  on_its_line : (above ls : TextLines) (rest : List ℕ) → list_all (lacks 10) above ≡ true → AreLines most ls
      → length (lines_text above ++ (section_text word ls ++ rest)) ≤ most_input_bytes
      → section_on c word most (1 + length above) (lines_text above ++ (section_text word ls ++ rest)) ≡ Some (lines_text ls)
  on_its_line above ls rest lack are short =
      let text = lines_text above ++ (section_text word ls ++ rest) in
      let u : Unread = record { text = text; from = 0; line = 1 } in
      let all : whole_of text ≡ Ok u = test_step_from _ _ _ _ (le-leb _ _ short) refl in
      let stands = lines_written u above (section_text word ls ++ rest) lack refl in
      let back : length above ≡ 1 + length above - 1 = omega arith in
      let enough : 1 + length above - 1 ≤ length (lines_left u) = omega (arith, stands.0) in
      let there = line_at c (1 + length above) text u _ all enough (ap (λ m. (section_of m u).rest) back) in
      let found = section_written c word most _ ls rest small whole are stands.2 in
      section_there c (1 + length above) text word most _ found.0 there found.1 ∙ ap Some found.2

pub sheet_reason : IsSaidOfSection code.Sheet (codes "sheet ") most_sheet_lines sheet_words sheet_of_text
sheet_reason above ls rest lack are short =
    ap (said_of (sheet_words (1 + length above)) sheet_of_text (opening_words (lines_text above ++ (section_text (codes "sheet ") ls ++ rest)) (1 + length above)))
    (on_its_line code.Sheet (codes "sheet ") most_sheet_lines (omega arith) refl above ls rest lack are short)

pub issuer_reason : IsSaidOfSection code.Issuer (codes "issuer ") most_issuer_lines issuer_words issuer_of_text
issuer_reason above ls rest lack are short =
    ap (said_of (issuer_words (1 + length above)) issuer_of_text (opening_words (lines_text above ++ (section_text (codes "issuer ") ls ++ rest)) (1 + length above)))
    (on_its_line code.Issuer (codes "issuer ") most_issuer_lines (omega arith) refl above ls rest lack are short)
