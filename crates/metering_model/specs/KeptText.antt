-- What a node keeps, as bytes: its one text, what a text is read as, and the first fault of one that is of nothing kept.
use Rattle.std.specs.Prelude.{◌≡◌, ℕ, zero, suc, ◌+◌, ◌≤◌, ◌==◌, ◌&&◌, Bool, nat_le, if◌then◌else◌, List, [], ◌∷◌, ◌++◌, length, map, take, drop, All, Option, Some, None, Result, Ok, Err, ok_or, codes, decimal}
use Rattle.std.specs.List.{flat_map}
use Rattle.metering_model.specs.Limits.{most_agents, last_sequence, most_batches, most_periods, most_rounds, last_ballot}
pub use Rattle.metering_model.specs.declared.KeptCode.{KeptCode}
pub use Rattle.metering_model.specs.declared.KeptCode.TheVariants.{Head as BadHead, Cut as BadCut, Batch as NoBatch, Order as NotInOrder, Extra as HasExtra}
use Rattle.metering_model.specs.FirstFailure.{◌>>=◌, holds_or}
use Rattle.metering_model.specs.Batch.{Batch, line_of_fields, batch_text, is_empty}
use Rattle.metering_model.specs.BatchReading.{is_same, whole_in, all_some, fields_in, head_in, lines_in, batch_in}
use Rattle.metering_model.specs.Cut.{Cut}
use Rattle.metering_model.specs.Holding.{IsHolding, comes_before}
use Rattle.metering_model.specs.Ballot.{Vote}
use Rattle.metering_model.specs.World.{Kept, KeptTextFault, KeptOffer, KeptGood, KeptBad}

-- what a node keeps, and the number of agents of its store
pub record KeptAmong : Type 0 where
  pub agents : ℕ
  pub kept : Kept

-- ---- the text

-- 0 stands for none: no ballot that is kept is 0
abbrev pub promised_number : Option ℕ → ℕ
promised_number None = 0
promised_number (Some ballot) = ballot

abbrev pub vote_number : Option Vote → ℕ
vote_number None = 0
vote_number (Some v) = v.ballot

abbrev pub vote_cuts : Option Vote → List Cut
vote_cuts None = []
vote_cuts (Some v) = v.cut ∷ []

abbrev pub kept_head_fields : KeptAmong → List (List ℕ)
kept_head_fields k =
    codes "K1" ∷ decimal k.agents ∷ decimal k.kept.round ∷ decimal (length k.kept.learned)
    ∷ decimal (promised_number k.kept.acceptor.promised) ∷ decimal (vote_number k.kept.acceptor.vote)
    ∷ decimal (length k.kept.holding) ∷ []

abbrev pub cut_text : Cut → List ℕ
cut_text cut = line_of_fields (map decimal cut)

-- A head line of numbers; a line for each learned cut, and one for that of the vote; the lines of each batch, as they are held.
abbrev pub kept_text : KeptAmong → List ℕ
kept_text k =
    line_of_fields (kept_head_fields k)
    ++ flat_map cut_text (k.kept.learned ++ vote_cuts k.kept.acceptor.vote)
    ++ flat_map batch_text k.kept.holding

-- one entry for each of so many agents: a sequence, or 0
pub record IsCutAmong (agents : ℕ) (cut : Cut) : Type 0 where
  pub size : length cut ≡ agents
  pub low : All (λ seq. seq ≤ last_sequence) cut

-- Ballots of 99 nodes in rounds 1 to 10,000 are among these.
abbrev pub IsBallotNumber : ℕ → Type 0
IsBallotNumber ballot = (1 ≤ ballot) × (ballot ≤ last_ballot)

-- It may be written: each number is within its limits, and cuts and batches are of the agents that there are. Nothing else
-- is asked: cuts may go back, and a promise may be below the vote.
pub record HasText (k : KeptAmong) : Type 0 where
  pub agents : (1 ≤ k.agents) × (k.agents ≤ most_agents)
  pub round : k.kept.round ≤ most_rounds
  pub periods : length k.kept.learned ≤ most_periods
  pub learned : All (IsCutAmong k.agents) k.kept.learned
  pub promised : (ballot : ℕ) → k.kept.acceptor.promised ≡ Some ballot → IsBallotNumber ballot
  pub vote : (v : Vote) → k.kept.acceptor.vote ≡ Some v → IsBallotNumber v.ballot × IsCutAmong k.agents v.cut
  pub is_holding : IsHolding k.kept.holding
  pub in_range : All (λ b. b.agent ≤ k.agents) k.kept.holding

pub record IsKeptText (text : List ℕ) (k : KeptAmong) : Type 0 where
  pub joined : text ≡ kept_text k
  pub has : HasText k

-- ---- reading

abbrev pub at_kept_line : {A : Type 0} → ℕ → Result A KeptCode → Result A KeptTextFault
at_kept_line line (Ok x) = Ok x
at_kept_line line (Err c) = Err (record { code = c; line = line })

-- the same answer, with one code for every failure
abbrev pub or_code : {A E : Type 0} → KeptCode → Result A E → Result A KeptCode
or_code code (Ok x) = Ok x
or_code code (Err e) = Err code

-- the numbers of a head line
pub record KeptHead : Type 0 where
  pub agents : ℕ
  pub round : ℕ
  pub learned : ℕ
  pub promised : ℕ
  pub ballot : ℕ
  pub batches : ℕ

abbrev pub kept_head_in : List (List ℕ) → Result KeptHead KeptCode
kept_head_in (version ∷ agents ∷ round ∷ learned ∷ promised ∷ ballot ∷ batches ∷ []) = do
  _ ← holds_or (is_same version (codes "K1")) BadHead
  a ← ok_or (whole_in 1 most_agents agents) BadHead
  r ← ok_or (whole_in 0 most_rounds round) BadHead
  l ← ok_or (whole_in 0 most_periods learned) BadHead
  p ← ok_or (whole_in 0 last_ballot promised) BadHead
  v ← ok_or (whole_in 0 last_ballot ballot) BadHead
  n ← ok_or (whole_in 0 most_batches batches) BadHead
  Ok (record { agents = a; round = r; learned = l; promised = p; ballot = v; batches = n })
kept_head_in _ = Err BadHead

abbrev pub cut_in : ℕ → List (List ℕ) → Option Cut
cut_in agents fields = if length fields == agents then all_some (map (whole_in 0 last_sequence) fields) else None

-- so many cuts, the first of them on this line, and the lines behind them
abbrev pub cuts_in : (line agents count : ℕ) → List (List ℕ) → Result (List Cut × List (List ℕ)) KeptTextFault
cuts_in line agents zero ls = Ok ([], ls)
cuts_in line agents (suc n) [] = Err (record { code = BadCut; line = line })
cuts_in line agents (suc n) (l ∷ ls) = do
  c ← at_kept_line line (ok_or (cut_in agents (fields_in l)) BadCut)
  more ← cuts_in (line + 1) agents n ls
  Ok (c ∷ more.0, more.1)

abbrev pub text_of_lines : List (List ℕ) → List ℕ
text_of_lines ls = flat_map (λ l. l ++ 10 ∷ []) ls

-- The batch that the first of these lines and as many behind it as it counts are, and the lines behind them. Too few lines
-- are no batch, since a batch has as many records as its head line counts.
abbrev pub next_batch : List (List ℕ) → Result (Batch × List (List ℕ)) KeptCode
next_batch [] = Err NoBatch
next_batch (l ∷ ls) = do
  head ← or_code NoBatch (head_in (fields_in l))
  b ← or_code NoBatch (batch_in (text_of_lines (l ∷ take head.count ls)))
  Ok (b, drop head.count ls)

-- of one of the agents, and behind the batch before it, if there is one
abbrev pub may_follow : ℕ → Option Batch → Batch → Bool
may_follow agents None b = nat_le b.agent agents
may_follow agents (Some before) b = nat_le b.agent agents && comes_before before b

-- the batches that were read, the line on which the next would stand, and the lines from there on
pub record BatchesRead : Type 0 where
  pub batches : List Batch
  pub line : ℕ
  pub left : List (List ℕ)

abbrev pub with_batch : Batch → BatchesRead → BatchesRead
with_batch b more = record more { batches = b ∷ more.batches }

abbrev pub batches_in : (line agents : ℕ) → Option Batch → (count : ℕ) → List (List ℕ) → Result BatchesRead KeptTextFault
batches_in line agents before zero ls = Ok (record { batches = []; line = line; left = ls })
batches_in line agents before (suc n) ls = do
  one ← at_kept_line line (next_batch ls)
  _ ← at_kept_line line (holds_or (may_follow agents before one.0) NotInOrder)
  more ← batches_in (line + 1 + length one.0.records) agents (Some one.0) n one.1
  Ok (with_batch one.0 more)

-- the ballot of that number; 0 is the number of none
abbrev pub ballot_numbered : ℕ → Option ℕ
ballot_numbered zero = None
ballot_numbered (suc b) = Some (suc b)

-- how many lines the cut of the vote takes
abbrev pub cuts_of_vote : ℕ → ℕ
cuts_of_vote zero = 0
cuts_of_vote (suc b) = 1

abbrev pub vote_of : ℕ → List Cut → Option Vote
vote_of zero cuts = None
vote_of (suc b) [] = None
vote_of (suc b) (cut ∷ cuts) = Some (record { ballot = suc b; cut = cut })

abbrev pub kept_of_parts : KeptHead → List Cut → List Batch → KeptAmong
kept_of_parts h cuts batches = record {
  agents = h.agents;
  kept = record {
    round = h.round;
    learned = take h.learned cuts;
    acceptor = record { promised = ballot_numbered h.promised; vote = vote_of h.ballot (drop h.learned cuts) };
    holding = batches;
  };
}

abbrev pub kept_below : List (List ℕ) → List ℕ → KeptHead → Result KeptAmong KeptTextFault
kept_below ls rest h = do
  cuts ← cuts_in 2 h.agents (h.learned + cuts_of_vote h.ballot) ls
  read ← batches_in (2 + h.learned + cuts_of_vote h.ballot) h.agents None h.batches cuts.1
  _ ← at_kept_line read.line (holds_or (is_empty read.left && is_empty rest) HasExtra)
  Ok (kept_of_parts h cuts.0 read.batches)

abbrev pub kept_of_lines : List (List ℕ) → List ℕ → Result KeptAmong KeptTextFault
kept_of_lines [] rest = Err (record { code = BadHead; line = 1 })
kept_of_lines (l ∷ ls) rest = at_kept_line 1 (kept_head_in (fields_in l)) >>= kept_below ls rest

-- what a node keeps whose text this is, or the text's first fault
abbrev pub kept_in : List ℕ → Result KeptAmong KeptTextFault
kept_in text = kept_of_lines (lines_in text).lines (lines_in text).rest

-- the offer that reading a text makes
abbrev pub kept_offer_of : List ℕ → KeptOffer
kept_offer_of text = elim (kept_in text) [ Ok k ↦ KeptGood text | Err fault ↦ KeptBad fault ]
