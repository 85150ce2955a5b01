-- What nodes and agents send, as lines of text: the one text that a packet of a group has, and what a text is read as.
use Rattle.std.specs.Prelude.{ℕ, ◌+◌, ◌≤◌, ◌==◌, ◌&&◌, ◌||◌, Bool, true, false, nat_le, if◌then◌else◌, List, [], ◌∷◌, ◌++◌, length, map, take, drop, All, IsTrue, Option, Some, None, unwrap_or, codes, decimal}
use Rattle.std.specs.List.{list_all}
use Rattle.std.specs.Option.{option_map}
use Rattle.std.specs.Result.{result_ok}
use Rattle.metering_model.specs.Limits.{most_agents, last_sequence, last_period, last_node, last_ballot, most_journal_lines}
use Rattle.metering_model.specs.NumberText.{is_digit}
use Rattle.metering_model.specs.Dates.{IsPeriod}
use Rattle.metering_model.specs.Batch.{Batch, IsWellFormed, line_of_fields, batch_text, is_empty}
use Rattle.metering_model.specs.BatchReading.{is_same, whole_in, fields_in, lines_in, batch_in}
use Rattle.metering_model.specs.Cut.{Cut}
use Rattle.metering_model.specs.Ballot.{Vote}
use Rattle.metering_model.specs.World.{Packet, CarriesBatch, Prepare, Promise, Accept, Accepted, Decided}
use Rattle.metering_model.specs.KeptText.{IsBallotNumber, cut_in, text_of_lines}

-- a packet, and the name of the group in which it is sent
pub record GroupPacket : Type 0 where
  pub group : List ℕ
  pub packet : Packet

-- ---- the text

-- a vote's fields behind those of its promise: its ballot and its cut, or the ballot 0, which no vote has
abbrev pub vote_fields : Option Vote → List (List ℕ)
vote_fields None = codes "0" ∷ []
vote_fields (Some v) = decimal v.ballot ∷ map decimal v.cut

-- the head line, and one for each record
abbrev pub lines_of_batch : Batch → ℕ
lines_of_batch b = 1 + length b.records

-- a packet's word, and its numbers
abbrev pub packet_fields : Packet → List (List ℕ)
packet_fields (CarriesBatch b) = codes "batch" ∷ decimal (lines_of_batch b) ∷ []
packet_fields (Prepare period ballot) = codes "prepare" ∷ decimal period ∷ decimal ballot ∷ []
packet_fields (Promise from period ballot vote) = codes "promise" ∷ decimal from ∷ decimal period ∷ decimal ballot ∷ vote_fields vote
packet_fields (Accept period ballot cut) = codes "accept" ∷ decimal period ∷ decimal ballot ∷ map decimal cut
packet_fields (Accepted from period ballot cut) = codes "accepted" ∷ decimal from ∷ decimal period ∷ decimal ballot ∷ map decimal cut
packet_fields (Decided period cut) = codes "decided" ∷ decimal period ∷ map decimal cut

-- what stands below a packet's line: the lines of its batch
abbrev pub text_below : Packet → List ℕ
text_below (CarriesBatch b) = batch_text b
text_below (Prepare period ballot) = []
text_below (Promise from period ballot vote) = []
text_below (Accept period ballot cut) = []
text_below (Accepted from period ballot cut) = []
text_below (Decided period cut) = []

-- the format, the group, and the packet's own fields
abbrev pub packet_text : List ℕ → Packet → List ℕ
packet_text group p = line_of_fields (codes "P1" ∷ group ∷ packet_fields p) ++ text_below p

-- bytes of a group's name
abbrev pub most_group_bytes : ℕ
most_group_bytes = 32

-- a digit, a letter or `-`
abbrev pub is_group_byte : ℕ → Bool
is_group_byte c = is_digit c || (nat_le 65 c && nat_le c 90) || (nat_le 97 c && nat_le c 122) || (c == 45)

abbrev pub is_group : List ℕ → Bool
is_group name = nat_le 1 (length name) && nat_le (length name) most_group_bytes && list_all is_group_byte name

-- a cut of some number of agents: for each a sequence, or 0
pub record IsSentCut (cut : Cut) : Type 0 where
  pub agents : (1 ≤ length cut) × (length cut ≤ most_agents)
  pub low : All (λ seq. seq ≤ last_sequence) cut

abbrev pub IsSentVote : Option Vote → Type 0
IsSentVote None = Unit {0}
IsSentVote (Some v) = IsBallotNumber v.ballot × IsSentCut v.cut

-- Each number is within its limits, and a batch is well-formed; nodes are numbered from 0. What the numbers of a packet are to
-- one another is not asked else.
abbrev pub IsSent : Packet → Type 0
IsSent (CarriesBatch b) = IsWellFormed b
IsSent (Prepare period ballot) = IsPeriod period × IsBallotNumber ballot
IsSent (Promise from period ballot vote) = (from ≤ last_node) × IsPeriod period × IsBallotNumber ballot × IsSentVote vote
IsSent (Accept period ballot cut) = IsPeriod period × IsBallotNumber ballot × IsSentCut cut
IsSent (Accepted from period ballot cut) = (from ≤ last_node) × IsPeriod period × IsBallotNumber ballot × IsSentCut cut
IsSent (Decided period cut) = IsPeriod period × IsSentCut cut

-- The packet may be written as one of the group: the name is one, each number is within its limits, and a batch is well-formed.
pub record HasPacketText (name : List ℕ) (p : Packet) : Type 0 where
  pub group : IsTrue (is_group name)
  pub packet : IsSent p

-- a packet that is one line
abbrev pub is_line : Packet → Bool
is_line (CarriesBatch b) = false
is_line (Prepare period ballot) = true
is_line (Promise from period ballot vote) = true
is_line (Accept period ballot cut) = true
is_line (Accepted from period ballot cut) = true
is_line (Decided period cut) = true

-- bytes of a packet that is one line: a promise with a vote of 64 agents, each number as long as it may be
abbrev pub most_line_bytes : ℕ
most_line_bytes = 578

-- bytes of a packet's line above a batch, and of the greatest batch
abbrev pub most_packet_bytes : ℕ
most_packet_bytes = 65_583

-- ---- reading

-- steps of which each has to find something
infixl 10 ◌>>=◌
abbrev pub ◌>>=◌ : {A B : Type 0} → Option A → (A → Option B) → Option B
(Some x) >>= f = f x
None >>= f = None

-- goes on where the test holds
abbrev pub holds : Bool → Option (Unit {0})
holds true = Some tt
holds false = None

abbrev pub period_in : List ℕ → Option ℕ
period_in t = whole_in 0 last_period t

abbrev pub ballot_in : List ℕ → Option ℕ
ballot_in t = whole_in 1 last_ballot t

abbrev pub node_in : List ℕ → Option ℕ
node_in t = whole_in 0 last_node t

-- a cut of as many agents as there are fields
abbrev pub sent_cut_in : List (List ℕ) → Option Cut
sent_cut_in fields = if nat_le 1 (length fields) && nat_le (length fields) most_agents then cut_in (length fields) fields else None

abbrev pub some_vote_in : List ℕ → List (List ℕ) → Option Vote
some_vote_in ballot cut = do
  b ← ballot_in ballot
  c ← sent_cut_in cut
  Some (record { ballot = b; cut = c })

-- a vote's ballot and its cut, or a lone 0 where there is no vote
abbrev pub sent_vote_in : List (List ℕ) → Option (Option Vote)
sent_vote_in [] = None
sent_vote_in (none ∷ []) = if is_same none (codes "0") then Some None else None
sent_vote_in (ballot ∷ cut) = option_map Some (some_vote_in ballot cut)

abbrev pub prepare_in : List (List ℕ) → Option Packet
prepare_in (period ∷ ballot ∷ []) = do
  p ← period_in period
  b ← ballot_in ballot
  Some (Prepare p b)
prepare_in _ = None

abbrev pub promise_in : List (List ℕ) → Option Packet
promise_in (from ∷ period ∷ ballot ∷ vote) = do
  i ← node_in from
  p ← period_in period
  b ← ballot_in ballot
  v ← sent_vote_in vote
  Some (Promise i p b v)
promise_in _ = None

abbrev pub accept_in : List (List ℕ) → Option Packet
accept_in (period ∷ ballot ∷ cut) = do
  p ← period_in period
  b ← ballot_in ballot
  c ← sent_cut_in cut
  Some (Accept p b c)
accept_in _ = None

abbrev pub accepted_in : List (List ℕ) → Option Packet
accepted_in (from ∷ period ∷ ballot ∷ cut) = do
  i ← node_in from
  p ← period_in period
  b ← ballot_in ballot
  c ← sent_cut_in cut
  Some (Accepted i p b c)
accepted_in _ = None

abbrev pub decided_in : List (List ℕ) → Option Packet
decided_in (period ∷ cut) = do
  p ← period_in period
  c ← sent_cut_in cut
  Some (Decided p c)
decided_in _ = None

-- the packet of that word whose numbers these are, if it is one line
abbrev pub line_packet_in : List ℕ → List (List ℕ) → Option Packet
line_packet_in word numbers =
    if is_same word (codes "prepare") then prepare_in numbers
    else (if is_same word (codes "promise") then promise_in numbers
    else (if is_same word (codes "accept") then accept_in numbers
    else (if is_same word (codes "accepted") then accepted_in numbers
    else (if is_same word (codes "decided") then decided_in numbers else None))))

-- the batch that all below is, which has as many lines as are said
abbrev pub batch_packet_in : List (List ℕ) → List ℕ → Option Packet
batch_packet_in (lines ∷ []) below = do
  n ← whole_in 1 most_journal_lines lines
  b ← result_ok (batch_in below)
  _ ← holds (n == lines_of_batch b)
  Some (CarriesBatch b)
batch_packet_in _ below = None

abbrev pub word_packet_in : List ℕ → List (List ℕ) → List ℕ → Option Packet
word_packet_in word numbers below =
    if is_same word (codes "batch") then batch_packet_in numbers below
    else (if is_empty below then line_packet_in word numbers else None)

-- what the fields of the first line are, with this below it
abbrev pub packet_of_fields : List (List ℕ) → List ℕ → Option GroupPacket
packet_of_fields (version ∷ name ∷ word ∷ numbers) below = do
  _ ← holds (is_same version (codes "P1"))
  _ ← holds (is_group name)
  p ← word_packet_in word numbers below
  Some (record { group = name; packet = p })
packet_of_fields _ below = None

abbrev pub packet_of_lines : List (List ℕ) → List ℕ → Option GroupPacket
packet_of_lines [] rest = None
packet_of_lines (l ∷ ls) rest = packet_of_fields (fields_in l) (text_of_lines ls ++ rest)

-- the packet whose text this is, and its group
abbrev pub packet_in : List ℕ → Option GroupPacket
packet_in text = packet_of_lines (lines_in text).lines (lines_in text).rest

-- ---- the first packet of a text

-- how many lines are said to stand below that of a packet: for a batch its number, else none
abbrev pub lines_said : List (List ℕ) → ℕ
lines_said (version ∷ name ∷ word ∷ lines ∷ numbers) = if is_same word (codes "batch") then unwrap_or (whole_in 1 most_journal_lines lines) 0 else 0
lines_said _ = 0

-- the packet of these fields with so many lines below, and the text behind those
abbrev pub packet_and_rest : ℕ → List (List ℕ) → List (List ℕ) → List ℕ → Option (GroupPacket × List ℕ)
packet_and_rest lines fields ls rest = do
  p ← packet_of_fields fields (text_of_lines (take lines ls))
  Some (p, text_of_lines (drop lines ls) ++ rest)

abbrev pub first_packet_of_lines : List (List ℕ) → List ℕ → Option (GroupPacket × List ℕ)
first_packet_of_lines [] rest = None
first_packet_of_lines (l ∷ ls) rest = packet_and_rest (lines_said (fields_in l)) (fields_in l) ls rest

-- The packet that a text's first line is, with as many lines below as that line says, and what stands behind them.
abbrev pub first_packet_in : List ℕ → Option (GroupPacket × List ℕ)
first_packet_in text = first_packet_of_lines (lines_in text).lines (lines_in text).rest

-- ---- memory

-- the word of a packet that has a batch or a cut, or may have one: each but that of a Prepare
abbrev pub is_stored_word : List ℕ → Bool
is_stored_word word =
    is_same word (codes "batch") || is_same word (codes "promise") || is_same word (codes "accept") || is_same word (codes "accepted")
    || is_same word (codes "decided")

-- the format, a group's name, and such a word, whatever follows
abbrev pub is_stored_head : List (List ℕ) → Bool
is_stored_head (version ∷ name ∷ word ∷ numbers) = is_same version (codes "P1") && is_group name && is_stored_word word
is_stored_head _ = false

abbrev pub is_first_stored : List (List ℕ) → Bool
is_first_stored [] = false
is_first_stored (l ∷ ls) = is_stored_head (fields_in l)

-- The text's first line begins as that of such a packet: no other is read with memory of its own.
abbrev pub may_take_memory : List ℕ → Bool
may_take_memory text = is_first_stored (lines_in text).lines
