-- What a host makes of an answer. It knows the lines that begin with `kept` and `send`, and looks into none of the lines that these count.
use Rattle.std.specs.Prelude.{◌≡◌, ◌≤◌, ◌^◌, ℕ, zero, suc, ◌==◌, if◌then◌else◌, List, [], ◌∷◌, ◌++◌, length, take, drop, Option, Some, None, codes, unwrap_or}
use Rattle.std.specs.Option.{option_map}
use Rattle.metering_model.specs.BatchReading.{lines_in, whole_in}
use Rattle.metering_model.specs.KeptText.{text_of_lines}
use Rattle.metering_model.specs.World.{Packet}
use Rattle.metering_model.specs.Transcript.{file_of, line_count}
use Rattle.process_laws.specs.LocalSteps.{Answer, Words, HasTaken, HasBegun, HasJournaled, HasExported, KeptIs, HasSent, NodeWentOn, AgentWentOn, RefusedFor}
use Rattle.packet_text.specs.PacketText.{◌>>=◌, HasPacketText, packet_text}
use Rattle.log_text.specs.LogText.{HasIncrementText, Increment, behind_word, increment_text, most_kept_lines, section_in}
use Rattle.process_text.specs.Answers.{words_text}

-- ---- how an answer is read

-- who gets the lines that a line counts
pub data Receiver : Type 0 where
  ToLog : Receiver
  ToNodes : Receiver

-- a line that counts the lines below it which these get
pub record Section : Type 0 where
  pub receiver : Receiver
  pub lines : ℕ

abbrev pub behind_space : List ℕ → Option (List ℕ)
behind_space [] = None
behind_space (c ∷ cs) = if c == 32 then Some cs else behind_space cs

-- of `send all N` and `send I N` the number N. For whom the packet is, is advice: that word is passed over.
abbrev pub packet_lines : List ℕ → Option ℕ
packet_lines line = do
  rest ← behind_word (codes "send ") line
  number ← behind_space rest
  whole_in 1 most_kept_lines number

abbrev pub for_receiver : Receiver → ℕ → Section
for_receiver receiver lines = record { receiver = receiver; lines = lines }

-- `kept N`, or `send` with a word and N
abbrev pub section_said : List ℕ → Option Section
section_said line = elim (section_in (codes "kept ") most_kept_lines line) [
  | Some n ↦ Some (for_receiver ToLog n)
  | None ↦ option_map (for_receiver ToNodes) (packet_lines line)
]

-- what the log gets, the text of each packet, and the last line with what stands below it
pub record Told : Type 0 where
  pub kept : List ℕ
  pub sent : List (List ℕ)
  pub last : List ℕ

abbrev pub just : List ℕ → Told
just last = record { kept = []; sent = []; last = last }

-- a section's lines, above what else is told
abbrev pub with_lines : Receiver → List ℕ → Told → Told
with_lines ToLog lines t = record t { kept = lines ++ t.kept }
with_lines ToNodes lines t = record t { sent = lines ∷ t.sent }

-- As long as a line counts lines below it, these are its section; the next line is the last, with all below it. There are no more sections
-- than lines.
abbrev pub told_by : (most : ℕ) → List (List ℕ) → (rest : List ℕ) → Told
told_by zero ls rest = just (text_of_lines ls ++ rest)
told_by (suc m) [] rest = just rest
told_by (suc m) (l ∷ ls) rest = elim (section_said l) [
  | None ↦ just (text_of_lines (l ∷ ls) ++ rest)
  | Some s ↦ with_lines s.receiver (text_of_lines (take s.lines ls)) (told_by m (drop s.lines ls) rest)
]

abbrev pub told_in : List ℕ → Told
told_in text = told_by (length (lines_in text).lines) (lines_in text).lines (lines_in text).rest

-- ---- where an answer ends

-- more lines than any machine has room for
abbrev pub most_lines : ℕ
most_lines = 10 ^ 18

-- of `exported period P lines M` the number M
abbrev pub file_lines : List ℕ → Option ℕ
file_lines line = do
  rest ← behind_word (codes "exported period ") line
  lines ← behind_space rest
  number ← behind_word (codes "lines ") lines
  whole_in 0 most_lines number

-- of `kept lines N` the number N
abbrev pub kept_lines : List ℕ → Option ℕ
kept_lines line = do
  number ← behind_word (codes "kept lines ") line
  whole_in 0 most_lines number

-- how many lines stand below the last line: those of a file, or of what is kept, and else none
abbrev pub lines_under : List ℕ → ℕ
lines_under line = elim (file_lines line) [ Some n ↦ n | None ↦ unwrap_or (kept_lines line) 0 ]

-- the first answer of a text, and what stands behind it
pub record FirstTold : Type 0 where
  pub told : Told
  pub behind : List ℕ

abbrev pub first_by : (most : ℕ) → List (List ℕ) → (rest : List ℕ) → FirstTold
first_by zero ls rest = record { told = just []; behind = text_of_lines ls ++ rest }
first_by (suc m) [] rest = record { told = just []; behind = rest }
first_by (suc m) (l ∷ ls) rest = elim (section_said l) [
  | None ↦ record { told = just (text_of_lines (l ∷ take (lines_under l) ls)); behind = text_of_lines (drop (lines_under l) ls) ++ rest }
  | Some s ↦
      let more : FirstTold = first_by m (drop s.lines ls) rest in
      record { told = with_lines s.receiver (text_of_lines (take s.lines ls)) more.told; behind = more.behind }
]

abbrev pub first_told : List ℕ → FirstTold
first_told text = first_by (length (lines_in text).lines) (lines_in text).lines (lines_in text).rest

-- ---- what is meant

-- what a log gets: just the increment's text, where there is one
abbrev pub text_added : Option Increment → List ℕ
text_added None = []
text_added (Some i) = increment_text i

-- the packet's text, where one is sent
abbrev pub texts_sent : (name : List ℕ) → Option Packet → List (List ℕ)
texts_sent name None = []
texts_sent name (Some p) = packet_text name p ∷ []

-- what an answer in a group of that name is to tell a host
abbrev pub meant : (name : List ℕ) → Option Increment → Answer → Told
meant name added a = record { kept = text_added added; sent = texts_sent name a.sends; last = words_text a.words }

-- what is added, if anything, may stand in a log of so many agents
abbrev pub MayBeAdded : (agents : ℕ) → Option Increment → Type 0
MayBeAdded agents None = Unit {0}
MayBeAdded agents (Some i) = HasIncrementText agents i

-- what is sent, if anything, may be written as a packet of the group
abbrev pub MayBeSent : (name : List ℕ) → Option Packet → Type 0
MayBeSent name None = Unit {0}
MayBeSent name (Some p) = HasPacketText name p

-- What stands below the last line has no more lines than can be counted, and a kept text ends in a line feed, as each does.
abbrev pub CanBeCounted : Words → Type 0
CanBeCounted (HasTaken learned) = Unit {0}
CanBeCounted (HasBegun ballot) = Unit {0}
CanBeCounted (HasJournaled seq) = Unit {0}
CanBeCounted (HasExported s) = line_count (file_of s) ≤ most_lines
CanBeCounted (KeptIs text) = (line_count text ≤ most_lines) × ((lines_in text).rest ≡ [])
CanBeCounted HasSent = Unit {0}
CanBeCounted (NodeWentOn period round) = Unit {0}
CanBeCounted (AgentWentOn seq) = Unit {0}
CanBeCounted (RefusedFor why) = Unit {0}
