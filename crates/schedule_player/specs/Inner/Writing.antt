-- What a call leaves in a writer, and its count of failed calls.
use Rattle.std.specs.Prelude.{◌≡◌, ℕ, List, Option, Some, Result, Err, OnOk, OnErr, is_err}
use Rattle.std.specs.Io.KnownBytes.{Appends}
use Rattle.counted_io.specs.Counts.{count_after}
use Rattle.counted_io.specs.Writing.{AppendsPrefix}
use Rattle.program_input.specs.declared.faults.PlayFault.{PlayFault}
use Rattle.program_input.specs.Faults.{tells_of_writer}
use Rattle.schedule_player.specs.Transcripts.{IsTranscriptOf, IsPrefixOfTranscript}

-- An error is one failed call, and a prefix of the text was written that is not all of it. No other call failed.
pub record FailsWithin {A E : Type 0} (result : Result A E) (old new : Option (List ℕ)) (failed failed' : ℕ) (text : List ℕ) : Type 0 where
  pub prefix : OnErr result (AppendsPrefix old new text)
  pub count : failed' ≡ count_after (is_err result) failed

-- A text was written: with Ok all of it, and after `Write`, one failed call, a prefix of it. No other call failed.
pub record Writes {A : Type 0} (result : Result A PlayFault) (old new : Option (List ℕ)) (failed failed' : ℕ) (text : List ℕ) : Type 0 where
  pub written : OnOk result (Appends old new text)
  pub prefix : result ≡ Err PlayFault.Write → AppendsPrefix old new text
  pub count : failed' ≡ count_after (tells_of_writer result) failed

-- The transcript of an input was written: with Ok all of it, after `Write`, one failed call, a prefix of it, and out of memory
-- that of some first events, or nothing. No other call failed.
pub record WritesTranscript {A : Type 0} (result : Result A PlayFault) (input : List ℕ) (old new : Option (List ℕ)) (failed failed' : ℕ) : Type 0 where
  pub transcript : OnOk result ((text : List ℕ) × IsTranscriptOf (Some input) input text × Appends old new text)
  pub prefix : result ≡ Err PlayFault.Write → (text : List ℕ) × IsTranscriptOf (Some input) input text × AppendsPrefix old new text
  pub memory : result ≡ Err PlayFault.OutOfMemory → (text : List ℕ) × IsPrefixOfTranscript (Some input) input text × Appends old new text
  pub count : failed' ≡ count_after (tells_of_writer result) failed
