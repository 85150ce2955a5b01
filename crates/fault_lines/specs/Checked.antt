-- What is said of an input that is checked, of whatever kind, and of what it is warned.
use Rattle.std.specs.Prelude.{◌≡◌, ◌≢◌, ℕ, ◌+◌, ◌<◌, List, [], ◌∷◌, ◌++◌, length, Option, Result, Ok, Err, IfOk, IfErr, IfSome, codes}
use Rattle.std.specs.Io.KnownBytes.{Appends}
use Rattle.counted_io.specs.Streams.{UsesStreams}
use Rattle.counted_io.specs.Writing.{AppendsPrefix}
use Rattle.metering_model.specs.Limits.{most_input_bytes}
use Rattle.metering_model.specs.Transcript.{line_count}
use Rattle.program_input.specs.Faults.{RefusesNothing, tells_of_reader, tells_of_writer}
use Rattle.program_input.specs.declared.faults.PlayFault.{PlayFault}
use Rattle.program_input.specs.declared.faults.PlayFault.TheVariants.{Write}

-- Of an input, which is all that a reader gives where its bytes are known, this is said, and of this it is warned.
pub record IsSaid (said_of warned_of : List ℕ → List ℕ) (known : Option (List ℕ)) (input said warned : List ℕ) : Type 0 where
  pub is_input : IfSome known (λ bytes. input ≡ bytes)
  pub is_said : said ≡ said_of input
  pub is_warned : warned ≡ warned_of input

-- Whatever is said has a line, or more.
abbrev pub SaysLines : (List ℕ → List ℕ) → Type 0
SaysLines said_of = (text : List ℕ) → line_count (said_of text) ≡ 0 → said_of text ≡ []

-- Of what is longer than an input may be, that alone is said, and of nothing it is warned.
abbrev pub SaysTooLong : (said_of warned_of : List ℕ → List ℕ) → Type 0
SaysTooLong said_of warned_of =
    (text : List ℕ) → most_input_bytes < length text → (said_of text ≡ codes "line 1: L8" ++ 10 ∷ []) × (warned_of text ≡ [])

-- An input was checked, of which this may be said. What is answered counts the lines of what is wrong; warnings are not counted.
pub record Checks {W : Type 0} (IsSaidOf : (known : Option (List ℕ)) (input said warned : List ℕ) → Type 0) (answer : Result ℕ PlayFault) (writer writer' : W) (left left' old new : Option (List ℕ)) (read_fails read_fails' write_fails write_fails' : ℕ) : Type 0 where
  -- With Ok just what is said of the input was written, and behind it of what it is warned; the lines of the first are counted.
  pub said : IfOk answer (λ count. (input said warned : List ℕ) × IsSaidOf left input said warned × Appends old new (said ++ warned) × (count ≡ line_count said))
  -- Where nothing is wrong, just the warnings were written.
  pub ahead : answer ≡ Ok 0 → (input warned : List ℕ) × IsSaidOf left input [] warned × Appends old new warned
  -- After `Write` a prefix of it was, and never all of it.
  pub prefix : answer ≡ Err Write → (input said warned : List ℕ) × IsSaidOf left input said warned × AppendsPrefix old new (said ++ warned)
  pub kept : IfErr answer (λ fault. fault ≢ Write → writer' ≡ writer)
  -- Neither `Schedule` nor `Refused` is ever answered.
  pub refuses : RefusesNothing answer
  -- Where nothing is wrong, nothing is left to read. `Read` and `Write` come of one failed call each, and no other call fails.
  pub streams : UsesStreams (most_input_bytes + 1) (answer ≡ Ok 0) (tells_of_reader answer) (tells_of_writer answer) left left' read_fails read_fails' write_fails write_fails'
