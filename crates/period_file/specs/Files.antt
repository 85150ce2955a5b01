-- What is answered of an input that is asked for a period's file.
use Rattle.std.specs.Prelude.{◌≡◌, ℕ, nat_le, if◌then◌else◌, List, length, Option, IfSome, Result, Ok, Err, OnErr}
use Rattle.std.specs.Io.KnownBytes.{Appends}
use Rattle.metering_model.specs.Limits.{most_transcript_bytes}
use Rattle.counted_io.specs.Writing.{AppendsPrefix, AppendsSome}
use Rattle.transcript_laws.specs.FirstFiles.{FirstFile, NoFile, TornFile, WholeFile, first_file, part_of}
use Rattle.period_file.specs.declared.faults.FileFault.{FileFault}
use Rattle.period_file.specs.declared.faults.FileFault.TheVariants as fault

abbrev pub answer_of : FirstFile → Result (List ℕ) FileFault
answer_of NoFile = Err fault.NoFile
answer_of (TornFile part) = Err fault.Torn
answer_of (WholeFile file) = Ok file

-- the first file of the period in an input of at most 4 GiB, or why there is none
unfoldable pub file_in : ℕ → List ℕ → Result (List ℕ) FileFault
file_in period input = if nat_le (length input) most_transcript_bytes then answer_of (first_file period input) else Err fault.TooLong

-- the faults that an input has, and no device
abbrev pub IsRefusal : FileFault → Type 0
IsRefusal fault.NoFile = Unit {0}
IsRefusal fault.Torn = Unit {0}
IsRefusal fault.TooLong = Unit {0}
IsRefusal fault.Read = ⊥
IsRefusal fault.Write = ⊥
IsRefusal fault.OutOfMemory = ⊥

-- The bytes are the input, which is all that a reader gives where its bytes are known; and the file is the first one of the period.
pub record IsFileOf (known : Option (List ℕ)) (period : ℕ) (input file : List ℕ) : Type 0 where
  pub is_input : IfSome known (λ bytes. input ≡ bytes)
  pub is_file : file_in period input ≡ Ok file

-- Known contents grew by all bytes of the period's first file that the input has.
pub record AppendsPart (known : Option (List ℕ)) (period : ℕ) (old new : Option (List ℕ)) : Type 0 where
  pub input : List ℕ
  pub is_input : IfSome known (λ bytes. input ≡ bytes)
  pub is_torn : file_in period input ≡ Err fault.Torn
  pub appended : Appends old new (part_of (first_file period input))

-- They grew by a prefix of these bytes, or by all.
pub record AppendsPrefixOf (known : Option (List ℕ)) (period : ℕ) (old new : Option (List ℕ)) : Type 0 where
  pub input : List ℕ
  pub is_input : IfSome known (λ bytes. input ≡ bytes)
  pub appended : AppendsSome old new (part_of (first_file period input))

-- They grew by a prefix of these bytes, which is not all of them.
pub record AppendsLess (known : Option (List ℕ)) (period : ℕ) (old new : Option (List ℕ)) : Type 0 where
  pub input : List ℕ
  pub is_input : IfSome known (λ bytes. input ≡ bytes)
  pub appended : AppendsPrefix old new (part_of (first_file period input))

-- What an answer that is a fault leaves of the file: of a torn one all that the input has, after `Write` less than that, and else
-- a prefix of it, or all.
pub record WritesAtFault {A : Type 0} (answer : Result A FileFault) (known : Option (List ℕ)) (period : ℕ) (old new : Option (List ℕ)) : Type 0 where
  pub torn : answer ≡ Err fault.Torn → AppendsPart known period old new
  pub prefix : OnErr answer (AppendsPrefixOf known period old new)
  pub less : answer ≡ Err fault.Write → AppendsLess known period old new
