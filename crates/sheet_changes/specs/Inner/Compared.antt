-- What the comparison of two sheets finds.
use Rattle.std.specs.Prelude.{◌≡◌, ⊤, ℕ, Bool, if◌then◌else◌, int_lt, List, ◌++◌, filter, All, IsTrue, Option, Some, None, Result, Ok, ℤ, ◌<ℤ◌, option_map}
use Rattle.std.specs.List.{Contains}
use Rattle.metering_model.specs.Sheet.{PriceRow, Commitment, Region, Sheet}
use Rattle.metering_model.specs.PriceInForce.{price_in_force, commitment_with}
use Rattle.sheet_laws.specs.Longer.{without_from}
use Rattle.metering_model.specs.Batch.{is_empty}
use Rattle.metering_model.specs.FirstFailure.{◌>>=◌, holds_or}
use Rattle.input_sections.specs.declared.faults.ScheduleCode.TheVariants as code
use Rattle.input_sections.specs.declared.faults.ScheduleFault.{ScheduleFault}
use Rattle.input_sections.specs.declared.faults.ScheduleFault.TheVariants.{Refused}
use Rattle.input_sections.specs.Sections.{Unread, left, sheet_section}
use Rattle.sheet_changes.specs.Changes as model
use Rattle.sheet_changes.specs.Regions.{ids_of}

-- ---- prices

-- what the old sheet has in force the new one has too, but for the day that it is in force from
abbrev pub Stays : Option PriceRow → Option PriceRow → Type 0
Stays None new = ⊤
Stays (Some p) new = option_map without_from new ≡ Some (without_from p)

-- so on a day, of a SKU
abbrev pub StaysOn : Sheet → Sheet → List ℕ → ℤ → Type 0
StaysOn old new sku day = Stays (price_in_force old sku day) (price_in_force new sku day)

abbrev pub earlier : Option ℤ → ℤ → ℤ
earlier None day = day
earlier (Some first) day = if int_lt first day then first else day

-- The day is the first one on which a row begins and the new sheet has not in force what the old one has; there is none where
-- it has it whenever a row begins.
abbrev pub IsFirstDay : Sheet → Sheet → List PriceRow → Option ℤ → Type 0
IsFirstDay old new rows None = All (λ r. StaysOn old new r.sku r.from) rows
IsFirstDay old new rows (Some day) =
    ((r : PriceRow) × Contains rows r × (r.from ≡ day) × ¬ StaysOn old new r.sku r.from) × All (λ r. r.from <ℤ day → StaysOn old new r.sku r.from) rows

-- The day is found among these rows and among those that were looked at before.
abbrev pub GoesThrough : Sheet → Sheet → Option ℤ → List PriceRow → Option ℤ → Type 0
GoesThrough old new first rows found = (before : List PriceRow) → IsFirstDay old new before first → IsFirstDay old new (before ++ rows) found

-- ---- commitments

abbrev pub HasSame : Sheet → Sheet → Commitment → Type 0
HasSame old new c = commitment_with new c.id ≡ commitment_with old c.id

-- ---- regions

-- the lines of those that pass a test
abbrev pub lines_of : (Region → Bool) → List Region → List ℕ
lines_of test rows = model.region_lines (ids_of (filter test rows))

-- ---- what is asked for

-- the likeness says that the new sheet goes on from the day, and no region is listed
abbrev pub StaysBy : Option ℤ → model.Likeness → (none_listed : Bool) → Type 0
StaysBy None l none_listed = ⊤
StaysBy (Some day) l none_listed = IsTrue none_listed × model.GoesOnBy l day

-- ---- the input

-- A fault where anything is left.
abbrev pub nothing_behind : Unread → Result (Unit {0}) ScheduleFault
nothing_behind u = holds_or (is_empty (left u)) (Refused code.Sheet u.line)

-- The sheet of the last section; or the first fault by line.
abbrev pub last_sheet : Unread → Result Sheet ScheduleFault
last_sheet u = do
  new ← sheet_section u
  _ ← nothing_behind new.1
  Ok new.0
