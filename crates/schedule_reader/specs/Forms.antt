-- Of which schedule a text is the text, and what its sections are read as.
use Rattle.std.specs.Prelude.{◌≡◌, ℕ, List, Ok, IsTrue}
use Rattle.std.specs.Str.{is_utf8}
use Rattle.metering_model.specs.Schedule.{Schedule, HasScheduleForm, lines_text}
use Rattle.input_sections.specs.SheetReading.{sheet_of_text}
use Rattle.input_sections.specs.IssuerReading.{issuer_of_text}
use Rattle.schedule_reader.specs.Schedules.{ReadSchedule}

-- The text is that of the schedule, and what is read of it are its parts.
pub record IsReadOf (text : List ℕ) (r : ReadSchedule) (s : Schedule) : Type 0 where
  pub form : HasScheduleForm text s
  pub voters : s.voters ≡ r.voters
  pub observers : s.observers ≡ r.observers
  pub agents : s.agents ≡ r.agents
  pub sheet_utf8 : IsTrue (is_utf8 (lines_text s.sheet))
  pub sheet : sheet_of_text (lines_text s.sheet) ≡ Ok r.sheet
  pub issuer_utf8 : IsTrue (is_utf8 (lines_text s.issuer))
  pub issuer : issuer_of_text (lines_text s.issuer) ≡ Ok r.issuer
  pub events : s.events ≡ r.events

-- what is read of some schedule's text
abbrev pub IsRead : List ℕ → ReadSchedule → Type 0
IsRead text r = (s : Schedule) × IsReadOf text r s
