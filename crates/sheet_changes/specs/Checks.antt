-- What `check` says of the input of two sheets: what is wrong with it, and behind that which keys no reader takes.
use Rattle.std.specs.Prelude.{ℕ, List, [], ◌++◌, Option, Result, Ok, Err}
use Rattle.metering_model.specs.FirstFailure.{◌>>=◌}
use Rattle.metering_model.specs.Sheet.{Sheet}
use Rattle.fault_lines.specs.Checked.{IsSaid}
use Rattle.fault_lines.specs.Told.{said_of_fault}
use Rattle.fault_lines.specs.UnknownKeys.{unknown_from}
use Rattle.input_sections.specs.declared.faults.ScheduleFault.{ScheduleFault}
use Rattle.input_sections.specs.Sections.{Unread, sheet_section, whole_of}
use Rattle.sheet_changes.specs.Changes.{two_sheets_in}

-- the first fault of the two sections, with its reader's reason, or nothing
abbrev pub said_of : List ℕ → Result (Sheet × Sheet) ScheduleFault → List ℕ
said_of text (Ok both) = []
said_of text (Err fault) = said_of_fault text fault

unfoldable pub said_of_two_sheets : List ℕ → List ℕ
said_of_two_sheets text = said_of text (two_sheets_in text)

-- Where the two sections begin, if both are taken and nothing stands behind them.
unfoldable pub beginnings_in : List ℕ → Result (Unread × Unread) ScheduleFault
beginnings_in text = do
  u ← whole_of text
  old ← sheet_section u
  both ← two_sheets_in text
  Ok (u, old.1)

-- Of each of them the keys that no reader takes. Where a section is refused nothing is warned of.
abbrev pub warned_of : Result (Unread × Unread) ScheduleFault → List ℕ
warned_of (Ok both) = unknown_from both.0 ++ unknown_from both.1
warned_of (Err fault) = []

unfoldable pub warned_of_two_sheets : List ℕ → List ℕ
warned_of_two_sheets text = warned_of (beginnings_in text)

-- What is said of an input and what is warned of, which is all that a reader gives where its bytes are known.
abbrev pub IsCheckOf : (known : Option (List ℕ)) (input said warned : List ℕ) → Type 0
IsCheckOf = IsSaid said_of_two_sheets warned_of_two_sheets
