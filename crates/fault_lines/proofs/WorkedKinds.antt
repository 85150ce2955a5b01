-- What a text is that is none of its kind, and a line that ends with a carriage return.
use Rattle.std.proofs.Common.{◌≡◌, ℕ, List, [], ◌∷◌, ◌++◌, None, refl, codes}
use Rattle.std.specs.Fmt.{digits}
use Rattle.metering_model.specs.NumberText.{worth_of}
use Rattle.metering_model.specs.Schedule.{lines_text}
use Rattle.metering_model.specs.declared.BatchCode.TheVariants.{Head, Text, Count, TooLong}
use Rattle.metering_model.specs.declared.Refusal.TheVariants.{BadBatch}
use Rattle.sheet_text.proofs.WorkedSteps.{days_from_civil, day_count, days_of_years, days_of_months}
use Rattle.input_sections.specs.RateInput.{default_sheet}
use Rattle.input_sections.specs.declared.faults.ScheduleCode.TheVariants as code
use Rattle.input_sections.specs.declared.faults.ScheduleFault.TheVariants.{Refused}
use Rattle.fault_lines.specs.Fields.{fault_field}
use Rattle.fault_lines.specs.TextKinds.{batch_words, kind_words}
use Rattle.input_sections.specs.Sections.{section_in}
use Rattle.fault_lines.specs.Told.{from_line, said_of_fault, section_on, told_of_text}

of_nothing : kind_words [] ≡ codes " empty"
of_nothing = refl

with_a_mark : kind_words (239 ∷ 187 ∷ 191 ∷ codes "SCHEDULE 1") ≡ codes " byte order mark"
with_a_mark = refl

in_utf16 : kind_words (255 ∷ 254 ∷ 83 ∷ 0 ∷ []) ≡ codes " UTF-16"
in_utf16 = refl

in_utf16_the_other_way : kind_words (254 ∷ 255 ∷ 0 ∷ 83 ∷ []) ≡ codes " UTF-16"
in_utf16_the_other_way = refl

with_a_return : kind_words (codes "SCHEDULE 1" ++ 13 ∷ 10 ∷ codes "nodes 3") ≡ codes " carriage return"
with_a_return = refl

-- in the second line it is none of the first
of_another_kind : kind_words (codes "SCHEDULE 2" ++ 10 ∷ codes "nodes 3" ++ 13 ∷ 10 ∷ []) ≡ []
of_another_kind = refl

a_schedule_with_a_mark : said_of_fault (239 ∷ 187 ∷ 191 ∷ codes "SCHEDULE 1" ++ 10 ∷ []) (Refused code.Head 1) ≡ lines_text (codes "line 1: L1 byte order mark" ∷ [])
unfolding digits
a_schedule_with_a_mark = refl

-- ---- a line that is to open a section

a_sheet_with_returns : said_of_fault (codes "sheet 1" ++ 13 ∷ 10 ∷ codes "base" ++ 13 ∷ 10 ∷ []) (Refused code.Sheet 1) ≡ lines_text (codes "line 1: L4 carriage return" ∷ [])
unfolding digits section_on from_line section_in
a_sheet_with_returns = refl

a_sheet_behind_a_mark : said_of_fault (239 ∷ 187 ∷ 191 ∷ codes "sheet 1" ++ 10 ∷ codes "base" ++ 10 ∷ []) (Refused code.Sheet 1) ≡ lines_text (codes "line 1: L4 byte order mark" ∷ [])
unfolding digits section_on from_line section_in
a_sheet_behind_a_mark = refl

an_issuer_with_a_return : said_of_fault (codes "sheet 1" ++ 10 ∷ codes "base" ++ 10 ∷ codes "issuer 7" ++ 13 ∷ 10 ∷ []) (Refused code.Issuer 3) ≡ lines_text (codes "line 3: L5 carriage return" ∷ [])
unfolding digits section_on from_line section_in
an_issuer_with_a_return = refl

-- only the first line tells what the text is
an_issuer_with_a_mark : said_of_fault (codes "sheet 1" ++ 10 ∷ codes "base" ++ 10 ∷ 239 ∷ 187 ∷ 191 ∷ codes "issuer 7" ++ 10 ∷ []) (Refused code.Issuer 3) ≡ lines_text (codes "line 3: L5" ∷ [])
unfolding digits section_on from_line section_in
an_issuer_with_a_mark = refl

-- ---- a batch that opens on line 27

abbrev region_batch : List ℕ
region_batch =
    codes "B2|1|1|1" ++ 10 ∷ codes "U|2025-01-10T00:00:00Z|2025-01-10T02:00:00Z|acc-7|vm-1|cpu|5400||env=prod|eu-1" ++ 13 ∷ 10 ∷ []

a_return_behind_a_region : told_of_text 26 default_sheet region_batch None (BadBatch (record { code = Text; line = 2 })) ≡ lines_text (codes "line 28: G1 V6 region carriage return" ∷ [])
unfolding digits fault_field days_from_civil day_count days_of_years days_of_months worth_of
a_return_behind_a_region = refl

a_return_behind_a_head : told_of_text 26 default_sheet (codes "B2|1|1|1" ++ 13 ∷ 10 ∷ []) None (BadBatch (record { code = Head; line = 1 })) ≡ lines_text (codes "line 27: G1 V1 carriage return" ∷ [])
unfolding digits fault_field
a_return_behind_a_head = refl

no_text : told_of_text 26 default_sheet [] None (BadBatch (record { code = Head; line = 1 })) ≡ lines_text (codes "line 27: G1 V1 empty" ∷ [])
unfolding digits fault_field
no_text = refl

-- of a text that is too long, whatever its length is here, the same is told
too_long_with_a_mark : told_of_text 26 default_sheet (239 ∷ 187 ∷ 191 ∷ []) None (BadBatch (record { code = TooLong; line = 1 })) ≡ lines_text (codes "line 27: G1 V8 byte order mark" ∷ [])
unfolding digits fault_field
too_long_with_a_mark = refl

too_long_in_utf16 : batch_words (255 ∷ 254 ∷ []) (record { code = TooLong; line = 1 }) ≡ codes " UTF-16"
too_long_in_utf16 = refl

too_long_with_a_return : batch_words (codes "B2|1|1|1" ++ 13 ∷ 10 ∷ []) (record { code = TooLong; line = 1 }) ≡ codes " carriage return"
too_long_with_a_return = refl

-- the line that is told is asked, and not the one above it
a_return_above : told_of_text 26 default_sheet (codes "B1|1|1|2" ++ 13 ∷ 10 ∷ codes "x" ++ 10 ∷ []) None (BadBatch (record { code = Count; line = 2 })) ≡ lines_text (codes "line 28: G1 V2" ∷ [])
unfolding digits fault_field
a_return_above = refl
