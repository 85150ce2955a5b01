-- What an input has that is refused.
use Rattle.std.specs.Prelude.{◌≡◌, ℕ, ◌+◌, ◌<◌, ◌≤◌, nat_le, if◌then◌else◌, true, false, List, [], ◌∷◌, ◌++◌, length, drop, Option, Some, None, Result, Ok, Err, codes, ◌⊎◌}
use Rattle.std.specs.List.{list_all}
use Rattle.std.specs.Option.{option_map}
use Rattle.metering_model.specs.Batch.{lacks}
use Rattle.metering_model.specs.BatchReading.{is_same, lines_in}
use Rattle.metering_model.specs.KeptText.{KeptAmong}
use Rattle.metering_model.specs.Limits.{most_input_bytes, most_issuer_lines, most_sheet_lines, most_transcript_bytes}
use Rattle.metering_model.specs.Schedule.{TextLines, lines_text}
use Rattle.metering_model.specs.Transcript.{line}
use Rattle.input_sections.specs.declared.faults.ScheduleFault.{ScheduleFault}
use Rattle.input_sections.specs.declared.faults.ScheduleFault.TheVariants.{Refused}
use Rattle.input_sections.specs.declared.faults.ScheduleCode.TheVariants as code
use Rattle.input_sections.specs.Sections.{left, number_behind}
use Rattle.log_text.specs.declared.faults.LogCode.{LogCode}
use Rattle.log_text.specs.LogText.{AgentOf, NodeOf, ReadLog, Who, has_head, log_in, most_kept_lines, section_in}
use Rattle.group_process.specs.Journals.{keeps_journal_of}
use Rattle.process_player.specs.declared.faults.ProcessFault.{ProcessFault}
use Rattle.process_player.specs.declared.faults.ProcessFault.TheVariants as fault
use Rattle.process_player.specs.declared.heads.ProcessKind.{ProcessKind}
use Rattle.process_player.specs.Starts.{Preamble, heads_log, kind_word, preamble_in}

-- ---- what is judged as a preamble

-- with the line that opens it
abbrev pub section_below : TextLines → Option ℕ → Option ℕ
section_below ls None = None
section_below ls (Some n) = if nat_le n (length ls) then Some (1 + n) else None

-- so many of these lines are a section
abbrev pub section_lines : (word : List ℕ) (most : ℕ) → TextLines → Option ℕ
section_lines word most [] = None
section_lines word most (l ∷ ls) = section_below ls (number_behind word most l)

abbrev pub with_issuer : TextLines → Option ℕ → Option ℕ
with_issuer ls None = None
with_issuer ls (Some n) = option_map (λ m. 2 + n + m) (section_lines (codes "issuer ") most_issuer_lines (drop (2 + n) ls))

-- so many of these lines are a preamble: two, and two sections
abbrev pub preamble_lines : TextLines → Option ℕ
preamble_lines ls = with_issuer ls (section_lines (codes "sheet ") most_sheet_lines (drop 2 ls))

-- two lines are what has to stand first: the kind's, and one that heads a log of such a process
abbrev pub HeadsAreRight : ProcessKind → (one own : List ℕ) → Type 0
HeadsAreRight k one own = (is_same one (kind_word k) ≡ true) × (heads_log k own ≡ true)

-- The last of these lines is the first that is another than has to stand there: the first of all, which is not the kind's; the
-- second, behind the kind's, which heads no log of such a process; the third, behind two right ones, which opens no sheet; or
-- one behind two right ones and a sheet section, which opens no issuer. What the lines within that section say does not count here.
pub data EndWrong (k : ProcessKind) : TextLines → Type 0 where
  AtFirst : (l : List ℕ) → is_same l (kind_word k) ≡ false → EndWrong k (l ∷ [])
  AtSecond : (one l : List ℕ) → is_same one (kind_word k) ≡ true
      → heads_log k l ≡ false → EndWrong k (one ∷ l ∷ [])
  AtSheet : (one own l : List ℕ) → HeadsAreRight k one own
      → number_behind (codes "sheet ") most_sheet_lines l ≡ None → EndWrong k (one ∷ own ∷ l ∷ [])
  AtIssuer : (one own : List ℕ) (sheet : TextLines) (l : List ℕ) → HeadsAreRight k one own
      → section_lines (codes "sheet ") most_sheet_lines sheet ≡ Some (length sheet)
      → number_behind (codes "issuer ") most_issuer_lines l ≡ None → EndWrong k (one ∷ own ∷ sheet ++ l ∷ [])

-- The front is all that there is, and no preamble; or none has ended in it, and it has more bytes than one may have, whatever
-- follows; or it is whole lines, a preamble and nothing else, or up to the first that is another.
pub data IsJudged (k : ProcessKind) : (front more : List ℕ) → Type 0 where
  IsAll : (front : List ℕ) → preamble_lines (lines_in front).lines ≡ None → IsJudged k front []
  IsTooLong : (front more : List ℕ) → most_input_bytes < length front → preamble_lines (lines_in front).lines ≡ None
      → IsJudged k front more
  IsPreamble : (ls : TextLines) (more : List ℕ) → list_all (lacks 10) ls ≡ true → preamble_lines ls ≡ Some (length ls)
      → IsJudged k (lines_text ls) more
  IsUpToWrong : (ls : TextLines) (more : List ℕ) → list_all (lacks 10) ls ≡ true → EndWrong k ls
      → IsJudged k (lines_text ls) more

-- What is judged of the input is refused so as a preamble.
pub record RefusesPreamble (k : ProcessKind) (input : List ℕ) (why : ScheduleFault) : Type 0 where
  pub front : List ℕ
  pub more : List ℕ
  pub joined : input ≡ front ++ more
  pub judged : IsJudged k front more
  pub refused : preamble_in k front ≡ Err why

-- ---- what was stored

-- so many lines of a log stand there
abbrev pub log_there : ℕ → TextLines → Option ℕ → Result ℕ ScheduleFault
log_there number ls None = Err (Refused code.Event number)
log_there number ls (Some n) = if nat_le n (length ls) then Ok n else Err (Refused code.Lines number)

-- How many lines of a log stand below the first of these, which has that number: none below `new`.
abbrev pub stored_lines : (number : ℕ) → TextLines → Result ℕ ScheduleFault
stored_lines number [] = Err (Refused code.Lines number)
stored_lines number (l ∷ ls) = if is_same l (codes "new") then Ok 0 else log_there number ls (section_in (codes "log ") most_kept_lines l)

-- A line says how many lines of a log stand below it, and they do.
pub record SaysLog (text : List ℕ) : Type 0 where
  pub said : List ℕ
  pub lines : TextLines
  pub whole : list_all (lacks 10) lines ≡ true
  pub is_said : section_in (codes "log ") most_kept_lines said ≡ Some (length lines)
  pub more : List ℕ
  pub joined : text ≡ line said ++ lines_text lines ++ more

-- The process's own log is damaged there, and no longer than a log may be: one that is longer is `TooLong` alone.
pub record RefusesLog (own : ReadLog) (text : List ℕ) (at_fault : LogCode) (number : ℕ) : Type 0 where
  pub says : SaysLog text
  pub short : length (lines_text says.lines) ≤ most_transcript_bytes
  pub own_head : has_head own.head (lines_text says.lines) ≡ true
  pub refused : log_in (lines_text says.lines) ≡ Err (record { code = at_fault; line = number })

-- Its head is another.
pub record RefusesHead (own : ReadLog) (text : List ℕ) : Type 0 where
  pub says : SaysLog text
  pub other : has_head own.head (lines_text says.lines) ≡ false

-- an agent's, and not its journal alone without a gap
abbrev pub IsNoJournal : Who → KeptAmong → Type 0
IsNoJournal (NodeOf i) k = ⊥
IsNoJournal (AgentOf a) k = keeps_journal_of a k.kept ≡ false

-- It is the agent's own, and no journal of it.
pub record RefusesJournal (own : ReadLog) (text : List ℕ) : Type 0 where
  pub says : SaysLog text
  pub kept : KeptAmong
  pub is_log : log_in (lines_text says.lines) ≡ Ok (record { head = own.head; kept = kept })
  pub no_journal : IsNoJournal own.head.who kept

-- A preamble stands first, and of its head and the number of the line behind it that holds of what follows.
pub record Behind (k : ProcessKind) (input : List ℕ) (Holds : ReadLog → ℕ → List ℕ → Type 0) : Type 0 where
  pub preamble : Preamble
  pub first : List ℕ
  pub stored : List ℕ
  pub joined : input ≡ first ++ stored
  pub is_read : preamble_in k first ≡ Ok preamble
  pub whole : left preamble.rest ≡ []
  pub holds : Holds preamble.own preamble.rest.line stored

-- ---- the whole

-- The input has what that fault tells. One that is no refusal says nothing of it. `TooLong` tells of no line and no command: only
-- that what stands behind what begins a process, log and commands together, has more bytes than may be held at once.
abbrev pub Rejects : ProcessKind → (input : List ℕ) → ProcessFault → Type 0
Rejects k input fault.Read = Unit {0}
Rejects k input (fault.Section why) = RefusesPreamble k input why ⊎ Behind k input (λ own number stored. stored_lines number (lines_in stored).lines ≡ Err why)
Rejects k input (fault.Log at_fault number) = Behind k input (λ own next stored. RefusesLog own stored at_fault number)
Rejects k input fault.OtherLog = Behind k input (λ own next stored. RefusesHead own stored)
Rejects k input fault.NoJournal = Behind k input (λ own next stored. RefusesJournal own stored)
Rejects k input fault.TooLong = Behind k input (λ own next stored. most_transcript_bytes < length stored)
Rejects k input fault.Write = Unit {0}
Rejects k input fault.OutOfMemory = Unit {0}
