-- The parts of what is refused, each of what is ahead and still to come where it begins.
use Rattle.std.specs.Prelude.{◌≡◌, ◌<◌, ℕ, true, false, List, ◌++◌, length, Option, Some, None, Err}
use Rattle.metering_model.specs.BatchReading.{lines_in}
use Rattle.metering_model.specs.Limits.{most_transcript_bytes}
use Rattle.log_text.specs.LogText.{LogHead, ReadLog, has_head, log_in}
use Rattle.process_player.specs.declared.faults.ProcessFault.{ProcessFault}
use Rattle.process_player.specs.declared.faults.ProcessFault.TheVariants as fault
use Rattle.process_player.specs.declared.heads.ProcessKind.{ProcessKind}
use Rattle.process_player.specs.Refusals.{RefusesHead, RefusesLog, RefusesPreamble, stored_lines}

-- all that is ahead and still to come, where that is known
abbrev pub OfAll : (List ℕ → Type 0) → (ahead : List ℕ) → (left : Option (List ℕ)) → Type 0
OfAll Holds ahead None = Unit {0}
OfAll Holds ahead (Some bytes) = Holds (ahead ++ bytes)

abbrev pub RejectsPreamble : ProcessKind → ProcessFault → List ℕ → Type 0
RejectsPreamble k fault.Read text = Unit {0}
RejectsPreamble k (fault.Section why) text = RefusesPreamble k text why
RejectsPreamble k (fault.Log code number) text = ⊥
RejectsPreamble k fault.OtherLog text = ⊥
RejectsPreamble k fault.NoJournal text = ⊥
RejectsPreamble k fault.TooLong text = ⊥
RejectsPreamble k fault.Write text = ⊥
RejectsPreamble k fault.OutOfMemory text = Unit {0}

abbrev pub RejectsStored : (own : ReadLog) (next : ℕ) → ProcessFault → List ℕ → Type 0
RejectsStored own next fault.Read text = Unit {0}
RejectsStored own next (fault.Section why) text = stored_lines next (lines_in text).lines ≡ Err why
RejectsStored own next (fault.Log code number) text = RefusesLog own text code number
RejectsStored own next fault.OtherLog text = RefusesHead own text
RejectsStored own next fault.NoJournal text = ⊥
RejectsStored own next fault.TooLong text = most_transcript_bytes < length text
RejectsStored own next fault.Write text = ⊥
RejectsStored own next fault.OutOfMemory text = Unit {0}

-- the log itself is refused, or it is another's
abbrev pub RejectsLog : LogHead → (log : List ℕ) → ProcessFault → Type 0
RejectsLog head log fault.Read = ⊥
RejectsLog head log (fault.Section why) = ⊥
RejectsLog head log (fault.Log code number) = (has_head head log ≡ true) × (log_in log ≡ Err (record { code = code; line = number }))
RejectsLog head log fault.OtherLog = has_head head log ≡ false
RejectsLog head log fault.NoJournal = ⊥
RejectsLog head log fault.TooLong = ⊥
RejectsLog head log fault.Write = ⊥
RejectsLog head log fault.OutOfMemory = Unit {0}
