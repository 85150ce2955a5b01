-- What a fault within a section is told as, where the section opens at that line.
use Rattle.std.specs.Prelude.{ℕ}
use Rattle.sheet_text.specs.declared.faults.SheetFault.{SheetFault}
use Rattle.sheet_text.specs.declared.faults.SheetFault.TheVariants as sheets
use Rattle.sheet_text.specs.declared.faults.IssuerFault.{IssuerFault}
use Rattle.sheet_text.specs.declared.faults.IssuerFault.TheVariants as issuers
use Rattle.input_sections.specs.declared.faults.ScheduleCode.TheVariants.{Sheet, Issuer}
use Rattle.input_sections.specs.declared.faults.ScheduleFault.{ScheduleFault}
use Rattle.input_sections.specs.declared.faults.ScheduleFault.TheVariants.{Refused, OutOfMemory}

abbrev pub told_of_sheet : SheetFault → ℕ → ScheduleFault
told_of_sheet sheets.OutOfMemory line = OutOfMemory
told_of_sheet sheets.NotToml line = Refused Sheet line
told_of_sheet (sheets.Missing place key) line = Refused Sheet line
told_of_sheet (sheets.BadValue place key) line = Refused Sheet line
told_of_sheet (sheets.Duplicate place) line = Refused Sheet line
told_of_sheet (sheets.UnknownSku place key) line = Refused Sheet line

abbrev pub told_of_issuer : IssuerFault → ℕ → ScheduleFault
told_of_issuer issuers.OutOfMemory line = OutOfMemory
told_of_issuer issuers.NotToml line = Refused Issuer line
told_of_issuer (issuers.Missing key) line = Refused Issuer line
told_of_issuer (issuers.BadValue key) line = Refused Issuer line
