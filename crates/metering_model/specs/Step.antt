-- What one event does to the world, and what it is answered. A refused event changes nothing.
use Rattle.std.specs.Prelude.{ℕ, zero, suc, ◌+◌, ◌==◌, nat_lt, nat_le, if◌then◌else◌, List, [], ◌∷◌, Option, Some, None, Result, Ok, Err, ok_or, unwrap_or, slice_get}
use Rattle.std.specs.List.{range_with_len}
use Rattle.std.specs.Option.{is_some}
use Rattle.metering_model.specs.Limits.{most_periods, most_rounds}
use Rattle.metering_model.specs.FirstFailure.{◌>>=◌, holds_or}
use Rattle.metering_model.specs.Batch.{Batch}
use Rattle.metering_model.specs.BatchReading.{BatchFault, batch_in, is_same}
use Rattle.metering_model.specs.Cut.{Cut, zero_cut}
use Rattle.metering_model.specs.Holding.{Holding, placed, held, put, up_to}
use Rattle.metering_model.specs.JournalRules.{BrokenRule, next_seq, first_broken}
use Rattle.metering_model.specs.declared.BrokenRule.TheVariants.{BadTarget as BreaksTarget, Unpriced as BreaksPrice}
use Rattle.metering_model.specs.Ballot.{ballot_of, new_attempt}
use Rattle.metering_model.specs.World.{CarriesBatch, Prepare, Node, World, Offer, Good, Bad, Event, Journal, Deliver, Start, Restart, Export, Keep}
use Rattle.metering_model.specs.World.{Revive, KeptTextFault, KeptOffer, KeptGood, KeptBad, Snapshot, Reply, Journaled, Delivered, Started}
use Rattle.metering_model.specs.World.{Restarted, Exported, KeptText, Refused, Refusal, BadBatch, WrongSeq, BadTarget, Unpriced, NoPacket, NoNode}
use Rattle.metering_model.specs.World.{NotClosed, Missing, AllClosed, NoBallot, NoAgent, Observer, BadKept, NotKept, voter_count, votes}
use Rattle.metering_model.specs.World.{current_period, wake, with_node_at, with_packet, next_packet}
use Rattle.metering_model.specs.Deliveries.{Handled, handled}
use Rattle.metering_model.specs.KeptText.{KeptAmong, kept_text, kept_in}

abbrev pub Outcome : Type 0
Outcome = Reply × World

abbrev pub node_at : World → ℕ → Result Node Refusal
node_at w i = ok_or (slice_get w.nodes i) NoNode

abbrev pub or_bad_batch : Result Batch BatchFault → Result Batch Refusal
or_bad_batch (Ok b) = Ok b
or_bad_batch (Err fault) = Err (BadBatch fault)

abbrev pub batch_of : Offer → Result Batch Refusal
batch_of (Good text) = or_bad_batch (batch_in text)
batch_of (Bad fault) = Err (BadBatch fault)

abbrev pub unless_broken : Option BrokenRule → Result (Unit {0}) Refusal
unless_broken None = Ok tt
unless_broken (Some BreaksTarget) = Err BadTarget
unless_broken (Some BreaksPrice) = Err Unpriced

abbrev pub on_batch : World → Batch → Result Outcome Refusal
on_batch w b = do
  _ ← holds_or (nat_le b.agent w.agents) NoAgent
  _ ← holds_or (b.seq == next_seq w.journals b.agent) (WrongSeq (next_seq w.journals b.agent))
  _ ← unless_broken (first_broken w.sheet (put w.journals b) (placed b))
  k ← next_packet w
  Ok (Journaled k, with_packet (CarriesBatch b) (record w { journals = put w.journals b }))

abbrev pub on_journal : World → Offer → Result Outcome Refusal
on_journal w offer = batch_of offer >>= on_batch w

abbrev pub after_delivery : World → ℕ → Handled → Result Outcome Refusal
after_delivery w i h = elim h.sends [
  | None ↦ Ok (Delivered None h.learns, with_node_at i h.node w)
  | Some p ↦ next_packet w >>= λ k. Ok (Delivered (Some k) h.learns, with_packet p (with_node_at i h.node w))
]

abbrev pub on_delivery : World → ℕ → ℕ → Result Outcome Refusal
on_delivery w k i = do
  p ← ok_or (slice_get w.packets k) NoPacket
  n ← node_at w i
  after_delivery w i (handled w i n p)

-- a start takes the next round, and so a new ballot
abbrev pub started_node : ℕ → ℕ → Node → Node
started_node voters ballot n = record n { kept = record n.kept { round = n.kept.round + 1 }; attempt = Some (new_attempt voters ballot) }

abbrev pub on_start : World → ℕ → Result Outcome Refusal
on_start w i = do
  n ← node_at w i
  _ ← holds_or (votes w i) Observer
  _ ← holds_or (nat_lt (current_period n) most_periods) AllClosed
  _ ← holds_or (nat_lt n.kept.round most_rounds) NoBallot
  k ← next_packet w
  let ballot = ballot_of (n.kept.round + 1) i (voter_count w)
  Ok (Started ballot k, with_packet (Prepare (current_period n) ballot) (with_node_at i (started_node (voter_count w) ballot n) w))

abbrev pub on_restart : World → ℕ → Result Outcome Refusal
on_restart w i = do
  n ← node_at w i
  Ok (Restarted, with_node_at i (wake n.kept) w)

-- the first of these sequences of an agent that is absent
abbrev pub first_absent : Holding → ℕ → List ℕ → Option (ℕ × ℕ)
first_absent h agent [] = None
first_absent h agent (s ∷ ss) = if is_some (held h agent s) then first_absent h agent ss else Some (agent, s)

-- the least agent and sequence up to the cut that is absent; the cut's first entry is that of this agent
abbrev pub missing_from : Holding → ℕ → Cut → Option (ℕ × ℕ)
missing_from h agent [] = None
missing_from h agent (s ∷ cut) = elim (first_absent h agent (range_with_len 1 s)) [ Some absent ↦ Some absent | None ↦ missing_from h (agent + 1) cut ]

abbrev pub first_missing : Holding → Cut → Option (ℕ × ℕ)
first_missing h cut = missing_from h 1 cut

abbrev pub unless_missing : Option (ℕ × ℕ) → Result (Unit {0}) Refusal
unless_missing None = Ok tt
unless_missing (Some absent) = Err (Missing absent.0 absent.1)

abbrev pub cut_before : ℕ → List Cut → ℕ → Cut
cut_before agents cuts zero = zero_cut agents
cut_before agents cuts (suc p) = unwrap_or (slice_get cuts p) (zero_cut agents)

-- what a node answers of a period that it has learned, where it has every batch up to the cut
abbrev pub snapshot : World → ℕ → ℕ → Result Snapshot Refusal
snapshot w i p = do
  n ← node_at w i
  to ← ok_or (slice_get n.kept.learned p) (NotClosed (current_period n))
  _ ← unless_missing (first_missing n.kept.holding to)
  let from = cut_before w.agents n.kept.learned p
  Ok (record { period = p; from = from; to = to; batches = up_to to n.kept.holding; sheet = w.sheet; issuer = w.issuer })

abbrev pub on_export : World → ℕ → ℕ → Result Outcome Refusal
on_export w i p = snapshot w i p >>= λ s. Ok (Exported s, w)

-- what a node keeps as it stands in the world
abbrev pub kept_now : World → Node → KeptAmong
kept_now w n = record { agents = w.agents; kept = n.kept }

abbrev pub on_keep : World → ℕ → Result Outcome Refusal
on_keep w i = do
  n ← node_at w i
  Ok (KeptText (kept_text (kept_now w n)), w)

abbrev pub or_bad_kept : Result KeptAmong KeptTextFault → Result KeptAmong Refusal
or_bad_kept (Ok k) = Ok k
or_bad_kept (Err fault) = Err (BadKept fault)

abbrev pub kept_of : KeptOffer → Result KeptAmong Refusal
kept_of (KeptGood text) = or_bad_kept (kept_in text)
kept_of (KeptBad fault) = Err (BadKept fault)

-- A restart from a text, which is refused unless it is that of what the node keeps now: an older one has lost votes.
abbrev pub on_revival : World → ℕ → KeptOffer → Result Outcome Refusal
on_revival w i offer = do
  n ← node_at w i
  k ← kept_of offer
  _ ← holds_or (is_same (kept_text k) (kept_text (kept_now w n))) NotKept
  Ok (Restarted, with_node_at i (wake k.kept) w)

abbrev pub outcome_of : World → Event → Result Outcome Refusal
outcome_of w (Journal offer) = on_journal w offer
outcome_of w (Deliver k i) = on_delivery w k i
outcome_of w (Start i) = on_start w i
outcome_of w (Restart i) = on_restart w i
outcome_of w (Export i p) = on_export w i p
outcome_of w (Keep i) = on_keep w i
outcome_of w (Revive i offer) = on_revival w i offer

abbrev pub or_refused : World → Result Outcome Refusal → Outcome
or_refused w (Ok outcome) = outcome
or_refused w (Err refusal) = (Refused refusal, w)

abbrev pub step : World → Event → Outcome
step w e = or_refused w (outcome_of w e)

abbrev pub replies_then : Reply → List Reply × World → List Reply × World
replies_then r run = (r ∷ run.0, run.1)

-- the replies to a list of events, and the world after them
abbrev pub play : World → List Event → List Reply × World
play w [] = ([], w)
play w (e ∷ es) = let now = step w e in replies_then now.0 (play now.1 es)
