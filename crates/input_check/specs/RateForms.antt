-- Of which parts an input that is to be rated is joined, and what its sections are read as.
use Rattle.std.specs.Prelude.{◌≡◌, ℕ, ◌≤◌, false, List, [], ◌++◌, length, Option, Some, None, Result, Ok, codes, IsTrue}
use Rattle.std.specs.Str.{is_utf8}
use Rattle.metering_model.specs.Limits.{most_input_bytes, most_issuer_lines, most_sheet_lines}
use Rattle.metering_model.specs.Schedule.{TextLines, AreLines, lines_text, section_text}
use Rattle.price_sheet.specs.SheetReading.{sheet_of_text}
use Rattle.sheet_text.specs.Samples.{sample_issuer}
use Rattle.sheet_text.specs.IssuerReading.{issuer_of_text}
use Rattle.input_sections.specs.RateInput.{RateInput, default_sheet}
use Rattle.input_sections.specs.Sections.{begins_with}

-- The lines of a section with a sheet, and of one with an issuer, each where it is there, and the text of the batch.
pub record RateForm : Type 0 where
  pub sheet : Option TextLines
  pub issuer : Option TextLines
  pub batch : List ℕ

abbrev pub text_if_there : List ℕ → Option TextLines → List ℕ
text_if_there word (Some ls) = section_text word ls
text_if_there word None = []

abbrev pub text_behind_sheet : RateForm → List ℕ
text_behind_sheet f = text_if_there (codes "issuer ") f.issuer ++ f.batch

-- the sheet's section, the issuer's section, and the batch
abbrev pub rate_form_text : RateForm → List ℕ
rate_form_text f = text_if_there (codes "sheet ") f.sheet ++ text_behind_sheet f

-- The lines of the section are read as this. Where it is not there, what the program has in its place is given, and what stands
-- there instead does not begin as the section would.
abbrev pub IsPart : {A E : Type 0} → ℕ → List ℕ → (List ℕ → Result A E) → A → Option TextLines → List ℕ → A → Type 0
IsPart most word read missing (Some ls) behind given = AreLines most ls × IsTrue (is_utf8 (lines_text ls)) × (read (lines_text ls) ≡ Ok given)
IsPart most word read missing None behind given = (begins_with word behind ≡ false) × (given ≡ missing)

-- The input joins these parts, and its sections are read as what is given.
pub record IsRateForm (text : List ℕ) (given : RateInput) (f : RateForm) : Type 0 where
  pub joined : text ≡ rate_form_text f
  pub short : length text ≤ most_input_bytes
  pub sheet : IsPart most_sheet_lines (codes "sheet ") sheet_of_text default_sheet f.sheet (text_behind_sheet f) given.sheet
  pub issuer : IsPart most_issuer_lines (codes "issuer ") issuer_of_text sample_issuer f.issuer f.batch given.issuer
  pub batch : f.batch ≡ given.batch
