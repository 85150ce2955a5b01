-- What the program writes of replies.
use Rattle.std.specs.Prelude.{ℕ, ◌==◌, List, [], ◌∷◌, ◌++◌, Option, Some, None, codes, decimal, count_by}
use Rattle.std.specs.List.{flat_map}
use Rattle.metering_model.specs.BatchReading.{BatchCode, Head, Count, Fields, Time, Number, Text, Tags, TooLong, BatchFault}
use Rattle.metering_model.specs.Rows.{rows}
use Rattle.metering_model.specs.File.{file}
use Rattle.metering_model.specs.World.{Snapshot, Reply, Journaled, Delivered, Started, Restarted, Exported, Refused, Refusal, BadBatch, WrongSeq, BadTarget, Unpriced, NoPacket, NoNode, NotClosed, Missing, AllClosed, NoBallot, WorldFull, NoAgent, Observer, KeptTextFault, KeptText, BadKept, NotKept}
use Rattle.metering_model.specs.KeptText.{KeptCode, BadHead, BadCut, NoBatch, NotInOrder, HasExtra}

abbrev pub line : List ℕ → List ℕ
line t = t ++ 10 ∷ []

-- a word and a number behind it
abbrev pub with_number : List ℕ → ℕ → List ℕ
with_number word n = word ++ decimal n

abbrev pub code_text : BatchCode → List ℕ
code_text Head = codes "V1"
code_text Count = codes "V2"
code_text Fields = codes "V3"
code_text Time = codes "V4"
code_text Number = codes "V5"
code_text Text = codes "V6"
code_text Tags = codes "V7"
code_text TooLong = codes "V8"

abbrev pub fault_text : BatchFault → List ℕ
fault_text fault = code_text fault.code ++ with_number (codes " line ") fault.line

abbrev pub kept_code_text : KeptCode → List ℕ
kept_code_text BadHead = codes "H1"
kept_code_text BadCut = codes "H2"
kept_code_text NoBatch = codes "H3"
kept_code_text NotInOrder = codes "H4"
kept_code_text HasExtra = codes "H5"

abbrev pub kept_fault_text : KeptTextFault → List ℕ
kept_fault_text fault = kept_code_text fault.code ++ with_number (codes " line ") fault.line

abbrev pub refusal_text : Refusal → List ℕ
refusal_text (BadBatch fault) = codes "G1 " ++ fault_text fault
refusal_text (WrongSeq wanted) = with_number (codes "G2 wanted ") wanted
refusal_text BadTarget = codes "G3"
refusal_text Unpriced = codes "G4"
refusal_text NoPacket = codes "G5"
refusal_text NoNode = codes "G6"
refusal_text (NotClosed learned) = with_number (codes "G7 learned ") learned
refusal_text (Missing agent seq) = with_number (codes "G8 agent ") agent ++ with_number (codes " seq ") seq
refusal_text AllClosed = codes "G9"
refusal_text NoBallot = codes "G10"
refusal_text WorldFull = codes "G11"
refusal_text NoAgent = codes "G12"
refusal_text Observer = codes "G13"
refusal_text (BadKept fault) = codes "G14 " ++ kept_fault_text fault
refusal_text NotKept = codes "G15"

abbrev pub if_any : List ℕ → Option ℕ → List ℕ
if_any word None = []
if_any word (Some n) = with_number word n

abbrev pub file_of : Snapshot → List ℕ
file_of s = file (rows s.sheet s.issuer s.batches s.period s.from s.to)

abbrev pub line_count : List ℕ → ℕ
line_count t = count_by (λ c. c == 10) t

abbrev pub reply_text : Reply → List ℕ
reply_text (Journaled k) = line (with_number (codes "journaled packet ") k)
reply_text (Delivered sent learned) = line (codes "delivered" ++ if_any (codes " sent ") sent ++ if_any (codes " learned ") learned)
reply_text (Started b k) = line (with_number (codes "started ballot ") b ++ with_number (codes " packet ") k)
reply_text Restarted = line (codes "restarted")
reply_text (Exported s) =
    line (with_number (codes "exported period ") s.period ++ with_number (codes " lines ") (line_count (file_of s))) ++ file_of s
reply_text (KeptText text) = line (with_number (codes "kept lines ") (line_count text)) ++ text
reply_text (Refused refusal) = line (codes "refused " ++ refusal_text refusal)

abbrev pub transcript : List Reply → List ℕ
transcript replies = flat_map reply_text replies
