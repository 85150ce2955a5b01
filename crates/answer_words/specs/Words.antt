-- The words of what is wrong with a section of an input.
use Rattle.std.specs.Prelude.{ℕ, List, ◌++◌, codes}
use Rattle.metering_model.specs.Transcript.{with_number}
use Rattle.sheet_text.specs.declared.faults.Place.{Place}
use Rattle.sheet_text.specs.declared.faults.Place.TheVariants as place
use Rattle.sheet_text.specs.declared.faults.SheetFault.{SheetFault}
use Rattle.sheet_text.specs.declared.faults.SheetFault.TheVariants as sheet
use Rattle.sheet_text.specs.declared.faults.IssuerFault.{IssuerFault}
use Rattle.sheet_text.specs.declared.faults.IssuerFault.TheVariants as issuer
use Rattle.sheet_text.specs.declared.names.Key.{Key}
use Rattle.sheet_text.specs.Names.{key_name}
use Rattle.input_sections.specs.declared.faults.ScheduleCode.{ScheduleCode}
use Rattle.input_sections.specs.declared.faults.ScheduleCode.TheVariants as code

abbrev pub section_code_text : ScheduleCode → List ℕ
section_code_text code.Head = codes "L1"
section_code_text code.Nodes = codes "L2"
section_code_text code.Agents = codes "L3"
section_code_text code.Sheet = codes "L4"
section_code_text code.Issuer = codes "L5"
section_code_text code.Event = codes "L6"
section_code_text code.Lines = codes "L7"
section_code_text code.TooLong = codes "L8"

-- a section's fault, and the line of the input that it is told at
abbrev pub section_text : ScheduleCode → ℕ → List ℕ
section_text code line = section_code_text code ++ with_number (codes " line ") line

-- which table of a sheet, and which of its rows, counted from 1
abbrev pub place_text : Place → List ℕ
place_text place.Top = codes "top"
place_text (place.Price row) = with_number (codes "price ") row
place_text (place.Commitment row) = with_number (codes "commitment ") row
place_text (place.Region row) = with_number (codes "region ") row

-- a code, the place, and the key that was looked at
abbrev pub key_text : List ℕ → Place → Key → List ℕ
key_text code place key = code ++ place_text place ++ codes " " ++ key_name key

abbrev pub sheet_fault_text : SheetFault → List ℕ
sheet_fault_text sheet.NotToml = codes "S1"
sheet_fault_text (sheet.Missing place key) = key_text (codes "S2 ") place key
sheet_fault_text (sheet.BadValue place key) = key_text (codes "S3 ") place key
sheet_fault_text (sheet.Duplicate place) = codes "S4 " ++ place_text place
sheet_fault_text (sheet.UnknownSku place key) = key_text (codes "S5 ") place key
sheet_fault_text sheet.OutOfMemory = codes "S6"

abbrev pub issuer_fault_text : IssuerFault → List ℕ
issuer_fault_text issuer.NotToml = codes "I1"
issuer_fault_text (issuer.Missing key) = codes "I2 " ++ key_name key
issuer_fault_text (issuer.BadValue key) = codes "I3 " ++ key_name key
issuer_fault_text issuer.OutOfMemory = codes "I4"
