-- Want of memory is told of a section exactly where reading it met it.
use Rattle.std.proofs.Common.{◌≡◌, ◌≢◌, ℕ, refl}
use Rattle.sheet_text.specs.declared.faults.SheetFault.{SheetFault}
use Rattle.sheet_text.specs.declared.faults.SheetFault.TheVariants as sheets
use Rattle.sheet_text.specs.declared.faults.IssuerFault.{IssuerFault}
use Rattle.sheet_text.specs.declared.faults.IssuerFault.TheVariants as issuers
use Rattle.input_sections.specs.declared.faults.ScheduleCode.TheVariants.{Sheet, Issuer}
use Rattle.input_sections.specs.declared.faults.ScheduleFault.{ScheduleFault}
use Rattle.input_sections.specs.declared.faults.ScheduleFault.TheVariants.{Refused, OutOfMemory}
use Rattle.input_sections.specs.Inner.Told.{told_of_sheet, told_of_issuer}

pub sheet_refused : (fault : SheetFault) (line : ℕ) (told : ScheduleFault) → told ≡ told_of_sheet fault line → told ≢ OutOfMemory
    → (fault ≢ sheets.OutOfMemory) × (told ≡ Refused Sheet line)
sheet_refused sheets.OutOfMemory line told is other = absurd (other is)
sheet_refused sheets.NotToml line told is other = (λ same. absurd (cc), is)
sheet_refused (sheets.Missing place key) line told is other = (λ same. absurd (cc), is)
sheet_refused (sheets.BadValue place key) line told is other = (λ same. absurd (cc), is)
sheet_refused (sheets.Duplicate place) line told is other = (λ same. absurd (cc), is)
sheet_refused (sheets.UnknownSku place key) line told is other = (λ same. absurd (cc), is)

pub sheet_wants : (fault : SheetFault) (line : ℕ) → told_of_sheet fault line ≡ OutOfMemory → fault ≡ sheets.OutOfMemory
sheet_wants sheets.OutOfMemory line is = refl
sheet_wants sheets.NotToml line is = absurd (cc)
sheet_wants (sheets.Missing place key) line is = absurd (cc)
sheet_wants (sheets.BadValue place key) line is = absurd (cc)
sheet_wants (sheets.Duplicate place) line is = absurd (cc)
sheet_wants (sheets.UnknownSku place key) line is = absurd (cc)

pub issuer_refused : (fault : IssuerFault) (line : ℕ) (told : ScheduleFault) → told ≡ told_of_issuer fault line → told ≢ OutOfMemory
    → (fault ≢ issuers.OutOfMemory) × (told ≡ Refused Issuer line)
issuer_refused issuers.OutOfMemory line told is other = absurd (other is)
issuer_refused issuers.NotToml line told is other = (λ same. absurd (cc), is)
issuer_refused (issuers.Missing key) line told is other = (λ same. absurd (cc), is)
issuer_refused (issuers.BadValue key) line told is other = (λ same. absurd (cc), is)
