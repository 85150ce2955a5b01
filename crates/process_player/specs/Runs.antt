-- A process over a stream of bytes: what begins it, what it is asked, and what it writes.
use Rattle.std.specs.Prelude.{◌≡◌, ◌≢◌, ℕ, ◌<◌, List, [], ◌∷◌, ◌++◌, length, true, Option, ◌⊎◌}
use Rattle.std.specs.List.{flat_map, list_all}
use Rattle.std.specs.Io.KnownBytes.{Appends, Consumes, IsAtEnd}
use Rattle.counted_io.specs.Writing.{AppendsPrefix}
use Rattle.metering_model.specs.Batch.{lacks}
use Rattle.metering_model.specs.Schedule.{TextLines, lines_text}
use Rattle.metering_model.specs.Transcript.{line}
use Rattle.process_text.specs.declared.processes.Process.{Process}
use Rattle.process_text.specs.Answers.{Answers, begun_text}
use Rattle.process_text.specs.Requests.{lines_below}
use Rattle.process_player.specs.declared.faults.ProcessFault.{ProcessFault}
use Rattle.process_player.specs.declared.faults.ProcessFault.TheVariants as fault
use Rattle.process_player.specs.declared.heads.ProcessKind.{ProcessKind}
use Rattle.process_player.specs.Starts.{Begins}

-- a line, without its line feed, and the lines that belong to it, each with its own
pub record Asked : Type 0 where
  pub first : List ℕ
  pub below : List ℕ

abbrev pub bytes_of : Asked → List ℕ
bytes_of a = line a.first ++ a.below

-- The process is asked just that: as many lines stand below the first as belong to it there.
pub record IsAsked (p : Process) (a : Asked) : Type 0 where
  pub is_line : lacks 10 a.first ≡ true
  pub lines : TextLines
  pub whole : list_all (lacks 10) lines ≡ true
  pub counted : length lines ≡ lines_below p a.first
  pub below : a.below ≡ lines_text lines

-- it answers that, and is another then
pub record Does (p : Process) (a : Asked) (q : Process) (said : List ℕ) : Type 0 where
  pub is_asked : IsAsked p a
  pub answers : Answers p a.first a.below q said

-- It answers one, and then goes on as `Then` says.
pub record DoesFirst (p : Process) (a : Asked) (Then : Process → List ℕ → Type 0) (said : List ℕ) : Type 0 where
  pub next : Process
  pub one : List ℕ
  pub more : List ℕ
  pub does : Does p a next one
  pub then : Then next more
  pub joined : said ≡ one ++ more

-- It is asked these, one after the other, and answers so.
abbrev pub Serves : (first : Process) → List Asked → (last : Process) → (said : List ℕ) → Type 0
Serves p [] r said = (r ≡ p) × (said ≡ [])
Serves p (a ∷ asked) r said = DoesFirst p a (λ q more. Serves q asked r more) said

-- A process is begun, is asked and answers: of these bytes all were taken but a piece.
pub record IsRun (k : ProcessKind) (bytes : List ℕ) (last : Process) (said piece : List ℕ) : Type 0 where
  pub begun : List ℕ
  pub asked : List Asked
  pub joined : bytes ≡ begun ++ flat_map bytes_of asked ++ piece
  pub first : Process
  pub begins : Begins k begun first
  pub answers : List ℕ
  pub serves : Serves first asked last answers
  pub is_said : said ≡ begun_text first ++ answers

-- Those bytes came of a source, and just what such a run says went out: each answer whole.
pub record Runs (k : ProcessKind) (known known' old new : Option (List ℕ)) (last : Process) (piece : List ℕ) : Type 0 where
  pub bytes : List ℕ
  pub consumed : Consumes known known' bytes
  pub said : List ℕ
  pub is_run : IsRun k bytes last said piece
  pub written : Appends old new said

-- These bytes came, and no front of them begins a process.
pub record BeginsNone (k : ProcessKind) (known known' : Option (List ℕ)) : Type 0 where
  pub came : List ℕ
  pub consumed : Consumes known known' came
  pub none : (text more : List ℕ) (p : Process) → Begins k text p → came ≢ text ++ more

-- Nothing was written: the writer is as it was. Where a call of the reader failed, no front of all that had come begins a process: so
-- whenever more is read, a process that is begun by what came has said so.
pub record StaysUnbegun {W : Type 0} (k : ProcessKind) (why : ProcessFault) (known known' : Option (List ℕ)) (old new : W) : Type 0 where
  pub unwritten : new ≡ old
  pub unbegun : why ≡ fault.Read → BeginsNone k known known'

-- The input has begun a process, and just whole answers were written, to what it asks first. The rest was read, or is left. Where a
-- call of the reader failed, the piece holds no whole command: so whenever more is read, all that came whole was answered.
pub record RunsWhole (k : ProcessKind) (why : ProcessFault) (known known' old new : Option (List ℕ)) : Type 0 where
  pub last : Process
  pub piece : List ℕ
  pub runs : Runs k known known' old new last piece
  pub answered : why ≡ fault.Read → (a : Asked) (more : List ℕ) → IsAsked last a → piece ≢ bytes_of a ++ more

-- the same, whatever stopped it, and whatever was left
pub record HasAnswered (k : ProcessKind) (known old new : Option (List ℕ)) : Type 0 where
  pub why : ProcessFault
  pub left : Option (List ℕ)
  pub whole : RunsWhole k why known left old new

-- All bytes came, and the piece behind the last command is none: it has no line, or fewer lines than belong to its first.
pub record RunsToEnd (k : ProcessKind) (known known' old new : Option (List ℕ)) : Type 0 where
  pub last : Process
  pub piece : List ℕ
  pub runs : Runs k known known' old new last piece
  pub end : IsAtEnd known'
  pub torn : (a : Asked) (more : List ℕ) → IsAsked last a → piece ≢ bytes_of a ++ more

-- Of what is said first a prefix went out. Behind the text that began the process less than 65,536 bytes were read: so what is said
-- first does not wait for a block more.
pub record TornFirst (k : ProcessKind) (known known' old new : Option (List ℕ)) : Type 0 where
  pub begun : List ℕ
  pub piece : List ℕ
  pub consumed : Consumes known known' (begun ++ piece)
  pub at_hand : length piece < 65_536
  pub first : Process
  pub begins : Begins k begun first
  pub written : AppendsPrefix old new (begun_text first)

-- Behind whole answers a prefix of the next one went out. Behind the command that it answers less than 65,536 bytes were read: so no
-- answer waits for a block behind its command.
pub record TornLater (k : ProcessKind) (known known' old new : Option (List ℕ)) : Type 0 where
  pub last : Process
  pub asked : Asked
  pub piece : List ℕ
  pub between : Option (List ℕ)
  pub runs : Runs k known known' old between last (bytes_of asked ++ piece)
  pub at_hand : length piece < 65_536
  pub next : Process
  pub one : List ℕ
  pub does : Does last asked next one
  pub written : AppendsPrefix between new one

abbrev pub RunsTorn : ProcessKind → (known known' old new : Option (List ℕ)) → Type 0
RunsTorn k known known' old new = TornFirst k known known' old new ⊎ TornLater k known known' old new
