-- What was read and taken of a stream, and what was done with it.
use Rattle.std.specs.Prelude.{◌≡◌, ◌≢◌, ℕ, ◌-◌, ◌<◌, ◌≤◌, List, [], ◌++◌, length, take, drop, Option, Ok, Err}
use Rattle.std.specs.List.{flat_map}
use Rattle.std.specs.Io.KnownBytes.{Appends, Consumes, IsAtEnd}
use Rattle.counted_io.specs.Writing.{AppendsPrefix}
use Rattle.process_text.specs.declared.processes.Process.{Process}
use Rattle.metering_model.specs.BatchReading.{lines_in}
use Rattle.metering_model.specs.KeptText.{KeptAmong}
use Rattle.metering_model.specs.Sheet.{Sheet, Issuer}
use Rattle.input_sections.specs.declared.faults.ScheduleFault.TheVariants.{Refused}
use Rattle.input_sections.specs.declared.faults.ScheduleCode.TheVariants as code
use Rattle.input_sections.specs.Sections.{Unread}
use Rattle.input_sections.specs.Sections as sections
use Rattle.log_text.specs.LogText.{ReadLog}
use Rattle.process_player.specs.declared.faults.ProcessFault.{ProcessFault}
use Rattle.process_player.specs.declared.faults.ProcessFault.TheVariants as fault
use Rattle.process_player.specs.declared.heads.ProcessKind.{ProcessKind}
use Rattle.process_player.specs.Starts.{Begins, IsStored, preamble_in}
use Rattle.process_player.specs.Refusals.{stored_lines}
use Rattle.process_player.specs.Runs.{Asked, Does, IsAsked, Serves, bytes_of}

-- More bytes came, and of these and those before them some were taken: the rest is ahead.
pub record Passes (ahead rest : List ℕ) (left left' : Option (List ℕ)) (taken : List ℕ) : Type 0 where
  pub came : List ℕ
  pub consumed : Consumes left left' came
  pub joined : ahead ++ came ≡ taken ++ rest

-- A process was asked, and answered; all of it was taken and written.
pub record Continues (p q : Process) (ahead rest : List ℕ) (left left' old new : Option (List ℕ)) : Type 0 where
  pub asked : List Asked
  pub said : List ℕ
  pub serves : Serves p asked q said
  pub passes : Passes ahead rest left left' (flat_map bytes_of asked)
  pub written : Appends old new said

-- no whole command stands there
abbrev pub IsTorn : Process → List ℕ → Type 0
IsTorn p piece = (a : Asked) (more : List ℕ) → IsAsked p a → piece ≢ bytes_of a ++ more

-- It was asked once: what it answers was written, and less than a block is ahead behind that.
pub record ServesOne (p q : Process) (ahead rest : List ℕ) (left left' old new : Option (List ℕ)) : Type 0 where
  pub asked : Asked
  pub said : List ℕ
  pub does : Does p asked q said
  pub passes : Passes ahead rest left left' (bytes_of asked)
  pub written : Appends old new said
  pub at_hand : length rest < 65_536

-- It was asked once: a prefix of what it answers was written, while less than a block was ahead behind that.
pub record StopsWithin (p : Process) (ahead : List ℕ) (left left' old new : Option (List ℕ)) : Type 0 where
  pub next : Process
  pub asked : Asked
  pub said : List ℕ
  pub rest : List ℕ
  pub does : Does p asked next said
  pub passes : Passes ahead (bytes_of asked ++ rest) left left' []
  pub written : AppendsPrefix old new said
  pub at_hand : length rest < 65_536

-- It was not asked, or nothing of its answer was written. Where a read failed, no whole command is ahead.
pub record StopsBefore (p : Process) (why : ProcessFault) (ahead rest : List ℕ) (left left' old new : Option (List ℕ)) : Type 0 where
  pub written : new ≡ old
  pub passes : Passes ahead rest left left' []
  pub torn : why ≡ fault.Read → IsTorn p rest

-- It was not asked, since the input ends.
pub record EndsHere (p q : Process) (ahead rest : List ℕ) (left left' old new : Option (List ℕ)) : Type 0 where
  pub process : q ≡ p
  pub written : new ≡ old
  pub passes : Passes ahead rest left left' []
  pub end : IsAtEnd left'
  pub torn : IsTorn q rest

-- A command of the process stands there: its first line ends, and all of it does, with less than a block behind it.
pub record IsCommandAt (p : Process) (text : List ℕ) (end all : ℕ) : Type 0 where
  pub some : 1 ≤ end
  pub ordered : end ≤ all
  pub within : all ≤ length text
  pub at_hand : length (drop all text) < 65_536
  pub asked : IsAsked p (record { first = take (end - 1) text; below = drop end (take all text) })
  pub split : text ≡ bytes_of (record { first = take (end - 1) text; below = drop end (take all text) }) ++ drop all text

-- It went on as long as that, and then it stopped. Where a read failed, no whole command is ahead.
pub record ContinuesWhole (p : Process) (why : ProcessFault) (ahead rest : List ℕ) (left left' old new : Option (List ℕ)) : Type 0 where
  pub last : Process
  pub continues : Continues p last ahead rest left left' old new
  pub torn : why ≡ fault.Read → IsTorn last rest

-- It went on as long as that, and then a prefix of an answer was written.
pub record ContinuesWithin (p : Process) (ahead : List ℕ) (left left' old new : Option (List ℕ)) : Type 0 where
  pub last : Process
  pub rest : List ℕ
  pub between : Option (List ℕ)
  pub middle : Option (List ℕ)
  pub continues : Continues p last ahead rest left middle old between
  pub stops : StopsWithin last rest middle left' between new

-- A preamble was taken, and nothing behind it, of which less than a block is ahead.
pub record HasRead (k : ProcessKind) (own : ReadLog) (sheet : Sheet) (issuer : Issuer) (next : ℕ) (ahead rest : List ℕ) (left left' : Option (List ℕ)) : Type 0 where
  pub text : List ℕ
  pub behind : Unread
  pub is_read : preamble_in k text ≡ Ok (record { own = own; sheet = sheet; issuer = issuer; rest = behind })
  pub whole : sections.left behind ≡ []
  pub counted : behind.line ≡ next
  pub passes : Passes ahead rest left left' text
  pub at_hand : length rest < 65_536

-- What was stored last was taken, of the text that tells it: less than a block is ahead behind that.
pub record HasTaken (own : ReadLog) (kept : KeptAmong) (ahead rest : List ℕ) (left left' : Option (List ℕ)) : Type 0 where
  pub text : List ℕ
  pub is_stored : IsStored own text kept
  pub passes : Passes ahead rest left left' text
  pub at_hand : length rest < 65_536

-- A process was begun by what was taken, and less than a block is ahead behind that.
pub record HasBegun (k : ProcessKind) (p : Process) (ahead rest : List ℕ) (left left' : Option (List ℕ)) : Type 0 where
  pub text : List ℕ
  pub begins : Begins k text p
  pub passes : Passes ahead rest left left' text
  pub at_hand : length rest < 65_536

-- More came, and nothing of it was taken: what is ahead falls short.
pub record FallsShort (is_short : List ℕ → Type 0) (ahead rest : List ℕ) (left left' : Option (List ℕ)) : Type 0 where
  pub passes : Passes ahead rest left left' []
  pub short : is_short rest

-- Fewer lines are ahead than tell what was stored, the first of which has that number.
abbrev pub AreStoredShort : (next : ℕ) → List ℕ → Type 0
AreStoredShort next rest = stored_lines next (lines_in rest).lines ≡ Err (Refused code.Lines next)
