-- What a rating is given: a sheet and an issuer, each if its section is there, and a batch.
use Rattle.std.specs.Prelude.{ℕ, if◌then◌else◌, List, Result, Ok, codes}
use Rattle.metering_model.specs.FirstFailure.{◌>>=◌}
use Rattle.metering_model.specs.Sheet.{Sheet, Issuer}
use Rattle.price_sheet.specs.SheetReading.{empty_sheet}
use Rattle.sheet_text.specs.Samples.{sample_issuer}
use Rattle.input_sections.specs.declared.faults.ScheduleFault.{ScheduleFault}
use Rattle.input_sections.specs.Sections.{Unread, left, whole_of, begins_with, sheet_section, issuer_section}

pub record RateInput : Type 0 where
  pub sheet : Sheet
  pub issuer : Issuer
  pub batch : List ℕ

-- without rows, from 2025-01 on, which is counted from January of the year 0
abbrev pub default_sheet : Sheet
default_sheet = empty_sheet 24_300

-- what a section is, where the word stands that opens it, and else what stands in its place
abbrev pub if_begun : {A : Type 0} → List ℕ → (Unread → Result (A × Unread) ScheduleFault) → A → Unread → Result (A × Unread) ScheduleFault
if_begun word section missing u = if begins_with word (left u) then section u else Ok (missing, u)

-- what a text gives, or its first fault by line
unfoldable pub rate_input_in : List ℕ → Result RateInput ScheduleFault
rate_input_in text = do
  u ← whole_of text
  sheet ← if_begun (codes "sheet ") sheet_section default_sheet u
  issuer ← if_begun (codes "issuer ") issuer_section sample_issuer sheet.1
  Ok (record { sheet = sheet.0; issuer = issuer.0; batch = left issuer.1 })
