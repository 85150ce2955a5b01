-- Why nothing is read, and what is left of a log while it is read.
use Rattle.std.specs.Prelude.{◌≡◌, ℕ, zero, ◌+◌, suc, ◌==◌, ◌&&◌, if◌then◌else◌, nat_le, ok_or, List, [], ◌∷◌, length, true, Result, Ok, Err, MatchResult, Option, Some, None}
use Rattle.std.specs.Option.{option_map}
use Rattle.std.specs.Result.{result_ok}
use Rattle.metering_model.specs.FirstFailure.{◌>>=◌, holds_or}
use Rattle.metering_model.specs.Batch.{Batch, is_empty}
use Rattle.metering_model.specs.BatchReading.{batch_in, lines_in, whole_in}
use Rattle.metering_model.specs.Ballot.{Vote}
use Rattle.metering_model.specs.Limits.{last_ballot, most_agents, most_nodes}
use Rattle.metering_model.specs.KeptText.{KeptAmong, IsBallotNumber, kept_in, kept_text}
use Rattle.packet_text.specs.PacketText.{lines_of_batch}
use Rattle.node_kept.specs.Kept.{IsKept}
use Rattle.log_text.specs.LogText.{Increment, SetsBallots, ReadBase, KeptThere, LogCode, LogTextFault, BadKept, Torn, among_with, at_log_line, ballots_in, first_increment, base_in, goes_on, increments_in, lines_of_increment, nothing_kept, vote_in}
use Rattle.log_text.specs.declared.faults.LogFault.{LogFault}
use Rattle.log_text.specs.declared.faults.LogFault.TheVariants.{Refused, OutOfMemory}
use Rattle.log_text.specs.declared.faults.Unread.{Unread}
use Rattle.log_text.specs.declared.faults.Unread.TheVariants.{NotThere, NoMemory}

-- how many nodes vote, how many observe, how many there are, and how many agents
pub record Sizes : Type 0 where
  pub voters : ℕ
  pub observers : ℕ
  pub nodes : ℕ
  pub agents : ℕ

-- the sizes of a group, of which a head says the nodes apart
abbrev pub sizes_in : (voters observers agents : List ℕ) → Option Sizes
sizes_in voters observers agents = elim (whole_in 1 most_nodes voters) [
  | None ↦ None
  | Some v ↦ elim (whole_in 0 most_nodes observers) [
    | None ↦ None
    | Some o ↦ elim (whole_in 1 most_agents agents) [
      | None ↦ None
      | Some a ↦ if nat_le (v + o) most_nodes then Some (record { voters = v; observers = o; nodes = v + o; agents = a }) else None
    ]
  ]
]

-- what is said where nothing of the kind stands there; want of memory says nothing
abbrev pub IfNotThere : Unread → Type 0 → Type 0
IfNotThere NotThere P = P
IfNotThere NoMemory P = Unit {0}

-- what is said of a fault that is told; want of memory says nothing
abbrev pub IfTold : LogFault → (LogTextFault → Type 0) → Type 0
IfTold (Refused code line) P = P (record { code = code; line = line })
IfTold OutOfMemory P = Unit {0}

abbrev pub IsPromise : Option ℕ → Type 0
IsPromise promised = (ballot : ℕ) → promised ≡ Some ballot → IsBallotNumber ballot

abbrev pub IsVoteAmong : ℕ → Option Vote → Type 0
IsVoteAmong agents vote = (v : Vote) → vote ≡ Some v → IsBallotNumber v.ballot × (length v.cut ≡ agents)

-- what is kept with an increment, if one is there and goes on from what was kept
abbrev pub gone_on : KeptAmong → Option Increment → Option KeptAmong
gone_on k None = None
gone_on k (Some i) = if goes_on i k then Some (among_with i k) else None

-- what a call that adds an increment to what is kept says: with Ok it was added; else none is there that goes on, or memory is wanting
abbrev pub Adds : {A : Type 0} → Result A Unread → (before after : KeptAmong) → Option Increment → Type 0
Adds result k next o = MatchResult result (λ _. (gone_on k o ≡ Some next) × IsKept next) (λ why. IfNotThere why (gone_on k o ≡ None))

-- The increment is that of the line and of what stands below it, and this is left behind it.
pub record IsFirst (agents : ℕ) (line below : List ℕ) (i : Increment) (left : List ℕ) : Type 0 where
  pub read : first_increment agents line (lines_in below).lines ≡ Ok (i, (lines_in left).lines)
  pub rest : (lines_in left).rest ≡ (lines_in below).rest
  pub lines_of : lines_of_increment i + length (lines_in left).lines ≡ 1 + length (lines_in below).lines

-- With the first increment, of so many lines, the one is kept behind the other.
pub record IsStep (k : KeptAmong) (line below : List ℕ) (next : KeptAmong) (lines : ℕ) (left : List ℕ) : Type 0 where
  pub increment : Increment
  pub first : IsFirst k.agents line below increment left
  pub goes : goes_on increment k ≡ true
  pub kept : next ≡ among_with increment k
  pub lines_of : lines ≡ lines_of_increment increment
  pub is_kept : IsKept next

-- On that line stands no increment that goes on from what is kept.
abbrev pub HasNoStep : KeptAmong → (number : ℕ) → (line below : List ℕ) → LogTextFault → Type 0
HasNoStep k number l below f = (most : ℕ) → increments_in (suc most) number k (l ∷ (lines_in below).lines) ≡ Err f

-- what is kept when the text's increments, the first on that line, have been added, if nothing else stands there
abbrev pub when_whole : List ℕ → KeptThere → Result KeptAmong LogTextFault
when_whole text there = at_log_line there.line (holds_or (is_empty (lines_in text).rest) Torn) >>= λ u. Ok there.kept

abbrev pub kept_below : ℕ → KeptAmong → List ℕ → Result KeptAmong LogTextFault
kept_below line k text = increments_in (length (lines_in text).lines) line k (lines_in text).lines >>= when_whole text

-- what is kept by the lines below a head line, of a group of so many agents
abbrev pub all_below : ℕ → List ℕ → Result KeptAmong LogTextFault
all_below agents text = base_in agents (lines_in text).lines >>= λ first.
    increments_in (length first.left) first.line first.kept first.left >>= when_whole text

-- a vote's ballot, and its cut: the ballot 0 is of none
abbrev pub told_vote : ℕ → List ℕ → List (List ℕ) → Option (Option Vote)
told_vote agents ballot cut = elim (whole_in 0 last_ballot ballot) [ None ↦ None | Some b ↦ vote_in agents b cut ]

abbrev pub vote_of_fields : ℕ → List (List ℕ) → Option (Option Vote)
vote_of_fields agents [] = None
vote_of_fields agents (ballot ∷ cut) = told_vote agents ballot cut

-- the batch that a text is, of so many lines
abbrev pub batch_of_text : ℕ → List ℕ → Option Batch
batch_of_text n t = elim (result_ok (batch_in t)) [ None ↦ None | Some b ↦ if n == lines_of_batch b then Some b else None ]

-- what is kept, of so many agents, that a text is, of so many lines
abbrev pub kept_of_text : (agents lines : ℕ) → List ℕ → Option KeptAmong
kept_of_text agents n t = elim (result_ok (kept_in t)) [
  | None ↦ None
  | Some k ↦ if n == length (lines_in (kept_text k)).lines && (k.agents == agents) then Some k else None
]

-- the fault at that line where nothing is read
abbrev pub fault_at : ℕ → LogCode → Unread → LogFault
fault_at line code NotThere = Refused code line
fault_at line code NoMemory = OutOfMemory

-- what is kept by a base of so many lines, which this text is; nothing where it has none
abbrev pub base_of : (agents lines : ℕ) → List ℕ → Option KeptAmong
base_of agents zero t = Some (nothing_kept agents)
base_of agents (suc n) t = kept_of_text agents (suc n) t

-- what is read of a base where the one behind it stands on that line
abbrev pub base_before : (line : ℕ) → List (List ℕ) → Option KeptAmong → Result ReadBase LogTextFault
base_before line ls o = at_log_line 2 (ok_or (option_map (λ k. record { kept = k; line = line; left = ls }) o) BadKept)

-- The text's base has so many lines, which are these; what is added to it stands in what is left, from that line on.
pub record IsBaseText (text : List ℕ) (lines : ℕ) (front : List ℕ) (line : ℕ) (left : List ℕ) : Type 0 where
  pub read : (agents : ℕ) → base_in agents (lines_in text).lines ≡ base_before line (lines_in left).lines (base_of agents lines front)
  pub rest : (lines_in left).rest ≡ (lines_in text).rest
  pub lines_of : line + length (lines_in left).lines ≡ 2 + length (lines_in text).lines
  pub counted : lines ≡ length (lines_in front).lines

-- The fields are of a promise and of a vote with these fields.
pub record AreBallots (fields : List (List ℕ)) (period : ℕ) (promise : Option ℕ) (vote : List (List ℕ)) : Type 0 where
  pub read : (agents : ℕ) → ballots_in agents fields ≡ option_map (λ v. SetsBallots period (record { promised = promise; vote = v })) (vote_of_fields agents vote)
  pub is_promise : IsPromise promise
