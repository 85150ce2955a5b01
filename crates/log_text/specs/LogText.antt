-- What a node or an agent stores, as lines of text: a head line, then perhaps the text of what it kept at some time, and then what
-- each step since has added to that, in order. What is read of such a text is what is kept.
use Rattle.std.specs.Prelude.{◌≡◌, ℕ, zero, suc, ◌+◌, ◌≤◌, ◌==◌, ◌&&◌, ◌||◌, not, Bool, true, false, nat_le, nat_lt, if◌then◌else◌, List, [], ◌∷◌, ◌++◌, length, map, take, drop, IsTrue, Option, Some, None, Result, Ok, Err, ok_or, unwrap_or, codes, decimal}
use Rattle.std.specs.List.{flat_map}
use Rattle.std.specs.Option.{option_map, is_some}
use Rattle.std.specs.Result.{result_ok}
use Rattle.metering_model.specs.Limits.{most_agents, most_nodes, most_rounds, last_ballot, last_node, last_period, most_journal_lines, most_transcript_bytes}
use Rattle.metering_model.specs.Dates.{IsPeriod}
use Rattle.metering_model.specs.FirstFailure.{◌>>=◌, holds_or}
use Rattle.metering_model.specs.Batch.{Batch, IsWellFormed, line_of_fields, batch_text, is_empty}
use Rattle.metering_model.specs.BatchReading.{is_same, whole_in, fields_in, lines_in, batch_in}
use Rattle.metering_model.specs.Cut.{Cut}
use Rattle.metering_model.specs.Holding.{held, put}
use Rattle.metering_model.specs.Ballot.{Acceptor, Vote, new_acceptor, is_not_below}
use Rattle.metering_model.specs.World.{Kept, new_kept}
use Rattle.metering_model.specs.KeptText.{KeptAmong, HasText, IsBallotNumber, IsCutAmong, ballot_numbered, cut_in, kept_in, kept_text, promised_number, text_of_lines, vote_cuts, vote_number}
use Rattle.packet_text.specs.PacketText.{is_group, lines_of_batch}
pub use Rattle.log_text.specs.declared.faults.LogCode.{LogCode}
pub use Rattle.log_text.specs.declared.faults.LogCode.TheVariants.{Head as BadHead, Kept as BadKept, Increment as BadIncrement, Torn, TooLong}

-- ---- whose it is

-- a node is numbered from 0, an agent from 1
pub data Who : Type 0 where
  NodeOf : ℕ → Who
  AgentOf : ℕ → Who

-- the group's name, whose log it is, and how many nodes vote, how many observe, and how many agents there are
pub record LogHead : Type 0 where
  pub group : List ℕ
  pub who : Who
  pub voters : ℕ
  pub observers : ℕ
  pub agents : ℕ

abbrev pub who_fields : Who → List (List ℕ)
who_fields (NodeOf i) = codes "node" ∷ decimal i ∷ []
who_fields (AgentOf a) = codes "agent" ∷ decimal a ∷ []

abbrev pub head_fields : LogHead → List (List ℕ)
head_fields h = codes "G1" ∷ h.group ∷ who_fields h.who ++ decimal h.voters ∷ decimal h.observers ∷ decimal h.agents ∷ []

abbrev pub head_text : LogHead → List ℕ
head_text h = line_of_fields (head_fields h)

-- a text begins with just that head line
abbrev pub has_head : LogHead → (text : List ℕ) → Bool
has_head h text = is_same (take (length (head_text h)) text) (head_text h)

-- of a group of so many nodes and agents
abbrev pub is_among : Who → (nodes agents : ℕ) → Bool
is_among (NodeOf i) nodes agents = nat_lt i nodes
is_among (AgentOf a) nodes agents = nat_le 1 a && nat_le a agents

-- The numbers are those of a schedule, and whose log it is there is in the group.
pub record IsLogHead (h : LogHead) : Type 0 where
  pub group : IsTrue (is_group h.group)
  pub voters : 1 ≤ h.voters
  pub nodes : h.voters + h.observers ≤ most_nodes
  pub agents : (1 ≤ h.agents) × (h.agents ≤ most_agents)
  pub who : IsTrue (is_among h.who (h.voters + h.observers) h.agents)

-- ---- what a step adds

-- the next round was begun; a promise or a vote was made in a period; the period's cut was learned; a batch was taken
pub data Increment : Type 0 where
  BeginsRound : ℕ → Increment
  SetsBallots : (period : ℕ) → Acceptor → Increment
  Learns : (period : ℕ) → Cut → Increment
  Takes : Batch → Increment

-- what is kept with it: promise and vote are of the period that is not learned yet
abbrev pub kept_with : Increment → Kept → Kept
kept_with (BeginsRound round) k = record k { round = round }
kept_with (SetsBallots period acceptor) k = record k { acceptor = acceptor }
kept_with (Learns period cut) k = record k { learned = k.learned ++ cut ∷ []; acceptor = new_acceptor }
kept_with (Takes b) k = record k { holding = put k.holding b }

abbrev pub among_with : Increment → KeptAmong → KeptAmong
among_with i k = record k { kept = kept_with i k.kept }

-- what is kept when all were added, in order
abbrev pub kept_after : KeptAmong → List Increment → KeptAmong
kept_after k [] = k
kept_after k (i ∷ is) = kept_after (among_with i k) is

abbrev pub acceptor_fields : Acceptor → List (List ℕ)
acceptor_fields a = decimal (promised_number a.promised) ∷ decimal (vote_number a.vote) ∷ flat_map (λ cut. map decimal cut) (vote_cuts a.vote)

-- a word, and so many lines below
abbrev pub section_line : List ℕ → ℕ → List ℕ
section_line word lines = word ++ decimal lines ++ 10 ∷ []

abbrev pub increment_text : Increment → List ℕ
increment_text (BeginsRound round) = line_of_fields (codes "round" ∷ decimal round ∷ [])
increment_text (SetsBallots period acceptor) = line_of_fields (codes "ballot" ∷ decimal period ∷ acceptor_fields acceptor)
increment_text (Learns period cut) = line_of_fields (codes "learned" ∷ decimal period ∷ map decimal cut)
increment_text (Takes b) = section_line (codes "batch ") (lines_of_batch b) ++ batch_text b

-- Each number is within its limits, cuts are of so many agents, and a batch is well-formed.
abbrev pub HasIncrementText : ℕ → Increment → Type 0
HasIncrementText agents (BeginsRound round) = (1 ≤ round) × (round ≤ most_rounds)
HasIncrementText agents (SetsBallots period a) =
    IsPeriod period
    × ((ballot : ℕ) → a.promised ≡ Some ballot → IsBallotNumber ballot)
    × ((v : Vote) → a.vote ≡ Some v → IsBallotNumber v.ballot × IsCutAmong agents v.cut)
HasIncrementText agents (Learns period cut) = IsPeriod period × IsCutAmong agents cut
HasIncrementText agents (Takes b) = IsWellFormed b

-- ---- what may come next

abbrev pub is_same_vote : Option Vote → Option Vote → Bool
is_same_vote None None = true
is_same_vote None (Some w) = false
is_same_vote (Some v) None = false
is_same_vote (Some v) (Some w) = (v.ballot == w.ballot) && is_same v.cut w.cut

abbrev pub is_promised : ℕ → Option ℕ → Bool
is_promised ballot None = false
is_promised ballot (Some promised) = ballot == promised

-- a vote of that ballot
abbrev pub is_vote_at : ℕ → Option Vote → Bool
is_vote_at ballot None = false
is_vote_at ballot (Some v) = v.ballot == ballot

-- A promise is there, and is not below the one before; the vote is the one before, or is made at the promised ballot; and one of
-- the two is new. So a promise is never lowered, and a vote gives way to one at the promised ballot alone.
abbrev pub ballots_go_on : Acceptor → Acceptor → Bool
ballots_go_on old new = elim new.promised [
  | None ↦ false
  | Some ballot ↦
      is_not_below ballot old.promised
      && (is_same_vote old.vote new.vote || is_vote_at ballot new.vote)
      && not (is_promised ballot old.promised && is_same_vote old.vote new.vote)
]

-- Whether it goes on from what is kept. Rounds are begun, and periods learned, one after the other; a promise or a vote is of the first
-- period that is not learned; and a batch is taken once, of an agent that there is. So a line that is written
-- twice in a row is refused.
abbrev pub goes_on : Increment → KeptAmong → Bool
goes_on (BeginsRound round) k = round == k.kept.round + 1
goes_on (SetsBallots period acceptor) k = (period == length k.kept.learned) && ballots_go_on k.kept.acceptor acceptor
goes_on (Learns period cut) k = period == length k.kept.learned
goes_on (Takes b) k = nat_le b.agent k.agents && not (is_some (held k.kept.holding b.agent b.seq))

-- each has a text, and goes on from those before it
abbrev pub GoOn : KeptAmong → List Increment → Type 0
GoOn k [] = Unit {0}
GoOn k (i ∷ is) = HasIncrementText k.agents i × IsTrue (goes_on i k) × GoOn (among_with i k) is

-- ---- the whole

-- who has begun nothing and holds nothing
abbrev pub nothing_kept : ℕ → KeptAmong
nothing_kept agents = record { agents = agents; kept = new_kept }

-- What is kept before any increment: the base, which was kept at some time, or nothing where a log says none.
abbrev pub kept_at_first : LogHead → Option KeptAmong → KeptAmong
kept_at_first h base = unwrap_or base (nothing_kept h.agents)

abbrev pub base_text : Option KeptAmong → List ℕ
base_text None = []
base_text (Some k) = section_line (codes "kept ") (length (lines_in (kept_text k)).lines) ++ kept_text k

abbrev pub log_text : LogHead → Option KeptAmong → List Increment → List ℕ
log_text h base increments = head_text h ++ base_text base ++ flat_map increment_text increments

-- bytes of a log: as many as of each other input that is read as it comes
abbrev pub most_log_bytes : ℕ
most_log_bytes = most_transcript_bytes

-- lines of what a log begins with: more than fit below its head line
abbrev pub most_kept_lines : ℕ
most_kept_lines = 4_294_967_295

pub record HasLog (h : LogHead) (base : Option KeptAmong) (increments : List Increment) : Type 0 where
  pub head : IsLogHead h
  pub first : (k : KeptAmong) → base ≡ Some k → HasText k × (k.agents ≡ h.agents)
  pub go_on : GoOn (kept_at_first h base) increments
  pub short : length (log_text h base increments) ≤ most_log_bytes

-- ---- reading

-- where what is refused begins, a line counted from 1, and why
pub record LogTextFault : Type 0 where
  pub code : LogCode
  pub line : ℕ

abbrev pub at_log_line : {A : Type 0} → ℕ → Result A LogCode → Result A LogTextFault
at_log_line line (Ok x) = Ok x
at_log_line line (Err c) = Err (record { code = c; line = line })

abbrev pub who_in : (word number : List ℕ) → Option Who
who_in word number =
    if is_same word (codes "node") then option_map NodeOf (whole_in 0 last_node number)
    else (if is_same word (codes "agent") then option_map AgentOf (whole_in 1 most_agents number) else None)

abbrev pub head_in : List (List ℕ) → Result LogHead LogCode
head_in (version ∷ group ∷ word ∷ number ∷ voters ∷ observers ∷ agents ∷ []) = do
  _ ← holds_or (is_same version (codes "G1")) BadHead
  _ ← holds_or (is_group group) BadHead
  who ← ok_or (who_in word number) BadHead
  v ← ok_or (whole_in 1 most_nodes voters) BadHead
  o ← ok_or (whole_in 0 most_nodes observers) BadHead
  a ← ok_or (whole_in 1 most_agents agents) BadHead
  _ ← holds_or (nat_le (v + o) most_nodes) BadHead
  _ ← holds_or (is_among who (v + o) a) BadHead
  Ok (record { group = group; who = who; voters = v; observers = o; agents = a })
head_in _ = Err BadHead

-- what stands behind a word with which a text begins
abbrev pub behind_word : (word text : List ℕ) → Option (List ℕ)
behind_word word text = if is_same (take (length word) text) word then Some (drop (length word) text) else None

-- how many lines a line says to be below, if it has that word
abbrev pub section_in : (word : List ℕ) (most : ℕ) (line : List ℕ) → Option ℕ
section_in word most line = elim (behind_word word line) [ None ↦ None | Some number ↦ whole_in 1 most number ]

abbrev pub round_in : List (List ℕ) → Option Increment
round_in (round ∷ []) = option_map BeginsRound (whole_in 1 most_rounds round)
round_in _ = None

-- a vote of that ballot, which has a cut; the ballot 0 is of none, and has none
abbrev pub vote_in : (agents ballot : ℕ) → List (List ℕ) → Option (Option Vote)
vote_in agents zero [] = Some None
vote_in agents zero (field ∷ fields) = None
vote_in agents (suc b) fields = option_map (λ cut. Some (record { ballot = suc b; cut = cut })) (cut_in agents fields)

abbrev pub acceptor_of : ℕ → Option Vote → Acceptor
acceptor_of promised vote = record { promised = ballot_numbered promised; vote = vote }

abbrev pub ballots_in : ℕ → List (List ℕ) → Option Increment
ballots_in agents (period ∷ promised ∷ ballot ∷ cut) =
    elim (whole_in 0 last_period period) [
      | None ↦ None
      | Some n ↦ elim (whole_in 0 last_ballot promised) [
        | None ↦ None
        | Some p ↦ elim (whole_in 0 last_ballot ballot) [
          | None ↦ None
          | Some b ↦ option_map (λ vote. SetsBallots n (acceptor_of p vote)) (vote_in agents b cut)
        ]
      ]
    ]
ballots_in agents _ = None

abbrev pub learned_in : ℕ → List (List ℕ) → Option Increment
learned_in agents (period ∷ cut) = elim (whole_in 0 last_period period) [ None ↦ None | Some n ↦ option_map (Learns n) (cut_in agents cut) ]
learned_in agents [] = None

-- an increment that is one line
abbrev pub line_increment_in : ℕ → List (List ℕ) → Option Increment
line_increment_in agents (word ∷ fields) =
    if is_same word (codes "round") then round_in fields
    else (if is_same word (codes "ballot") then ballots_in agents fields
    else (if is_same word (codes "learned") then learned_in agents fields else None))
line_increment_in agents [] = None

-- the batch that so many lines are
abbrev pub batch_of_lines : ℕ → List (List ℕ) → Option Batch
batch_of_lines n ls = elim (result_ok (batch_in (text_of_lines (take n ls)))) [
  | None ↦ None
  | Some b ↦ if n == lines_of_batch b then Some b else None
]

-- The increment of a line and of the lines that it says to be below it, and the lines behind. Where there are fewer it is torn.
abbrev pub first_increment : ℕ → List ℕ → List (List ℕ) → Result (Increment × List (List ℕ)) LogCode
first_increment agents l ls = elim (section_in (codes "batch ") most_journal_lines l) [
  | Some n ↦ if nat_le n (length ls) then ok_or (option_map (λ b. (Takes b, drop n ls)) (batch_of_lines n ls)) BadIncrement else Err Torn
  | None ↦ ok_or (option_map (λ i. (i, ls)) (line_increment_in agents (fields_in l))) BadIncrement
]

abbrev pub lines_of_increment : Increment → ℕ
lines_of_increment (BeginsRound round) = 1
lines_of_increment (SetsBallots period acceptor) = 1
lines_of_increment (Learns period cut) = 1
lines_of_increment (Takes b) = 1 + lines_of_batch b

-- what is kept when the lines end, and the number of the line behind them
pub record KeptThere : Type 0 where
  pub kept : KeptAmong
  pub line : ℕ

-- The increments of all these lines, of which the first has that number. Each takes a line or more, so as many as there are lines
-- suffice.
abbrev pub increments_in : (most line : ℕ) → KeptAmong → List (List ℕ) → Result KeptThere LogTextFault
increments_in most line k [] = Ok (record { kept = k; line = line })
increments_in zero line k (l ∷ ls) = Err (record { code = BadIncrement; line = line })
increments_in (suc most) line k (l ∷ ls) = do
  one ← at_log_line line (first_increment k.agents l ls)
  _ ← at_log_line line (holds_or (goes_on one.0 k) BadIncrement)
  increments_in most (line + lines_of_increment one.0) (among_with one.0 k) one.1

-- what a log says it begins with, from so many lines: it is of as many agents as the group has
abbrev pub kept_of_lines : ℕ → ℕ → List (List ℕ) → Option KeptAmong
kept_of_lines agents n ls = elim (result_ok (kept_in (text_of_lines (take n ls)))) [
  | None ↦ None
  | Some k ↦ if n == length (lines_in (kept_text k)).lines && (k.agents == agents) then Some k else None
]

-- what lines are read as a log's base: what is kept by it, the lines behind it, and the number of the first of these
pub record ReadBase : Type 0 where
  pub kept : KeptAmong
  pub line : ℕ
  pub left : List (List ℕ)

-- where no base is said, nothing is kept
abbrev pub without_base : ℕ → List (List ℕ) → ReadBase
without_base agents ls = record { kept = nothing_kept agents; line = 2; left = ls }

-- The line below the head may say how many lines of what is kept follow: it has the number 2. A fault of these is told there, and
-- where there are fewer they are torn.
abbrev pub base_in : ℕ → List (List ℕ) → Result ReadBase LogTextFault
base_in agents [] = Ok (without_base agents [])
base_in agents (l ∷ ls) = elim (section_in (codes "kept ") most_kept_lines l) [
  | None ↦ Ok (without_base agents (l ∷ ls))
  | Some n ↦ at_log_line 2 (
      if nat_le n (length ls) then ok_or (option_map (λ k. record { kept = k; line = 3 + n; left = drop n ls }) (kept_of_lines agents n ls)) BadKept else Err Torn)
]

-- what was read of a log: its head, and what is kept
pub record ReadLog : Type 0 where
  pub head : LogHead
  pub kept : KeptAmong

abbrev pub log_below : LogHead → List (List ℕ) → List ℕ → Result ReadLog LogTextFault
log_below h ls rest = do
  first ← base_in h.agents ls
  there ← increments_in (length first.left) first.line first.kept first.left
  _ ← at_log_line there.line (holds_or (is_empty rest) Torn)
  Ok (record { head = h; kept = there.kept })

abbrev pub log_of_lines : List (List ℕ) → List ℕ → Result ReadLog LogTextFault
log_of_lines [] rest = Err (record { code = BadHead; line = 1 })
log_of_lines (l ∷ ls) rest = at_log_line 1 (head_in (fields_in l)) >>= λ h. log_below h ls rest

-- What is kept by whose log this is, or its first fault. Where a text ends within an increment, that is torn, and what stands above it
-- is a log.
unfoldable pub log_in : List ℕ → Result ReadLog LogTextFault
log_in text =
    if nat_le (length text) most_log_bytes then log_of_lines (lines_in text).lines (lines_in text).rest
    else Err (record { code = TooLong; line = 1 })
