-- What the steps of a node add to its log.
use Rattle.std.specs.Prelude.{◌≡◌, ℕ, ◌+◌, ◌<◌, ◌≤◌, List, [], ◌++◌, length, Option, Some, None, Ok}
use Rattle.metering_model.specs.Limits.{most_periods, most_rounds}
use Rattle.metering_model.specs.Ballot.{Vote, ballot_of}
use Rattle.metering_model.specs.World.{World, Node, Packet, CarriesBatch, Prepare, Promise, Accept, Accepted, Decided, current_period, voter_count}
use Rattle.metering_model.specs.Deliveries.{handled}
use Rattle.metering_model.specs.Step.{started_node}
use Rattle.metering_model.specs.KeptText.{KeptAmong}
use Rattle.packet_text.specs.PacketText.{IsSent}
use Rattle.log_text.specs.LogText.{GoOn, Increment, LogHead, kept_after, kept_at_first, log_in, log_text, most_log_bytes}

-- what changes what a node keeps: it gets a packet, or begins a ballot of its own
pub data NodeStep : Type 0 where
  Gets : Packet → NodeStep
  Begins : NodeStep

-- node i after a step, in a group of this world's base month, agents and voters
abbrev pub node_after : World → ℕ → Node → NodeStep → Node
node_after w i n (Gets p) = (handled w i n p).node
node_after w i n Begins = started_node (voter_count w) (ballot_of (n.kept.round + 1) i (voter_count w)) n

abbrev pub IsVoteOfAgents : ℕ → Option Vote → Type 0
IsVoteOfAgents agents None = Unit {0}
IsVoteOfAgents agents (Some v) = length v.cut ≡ agents

-- A batch is of one of so many agents, and each cut has an entry for each.
abbrev pub IsOfAgents : ℕ → Packet → Type 0
IsOfAgents agents (CarriesBatch b) = b.agent ≤ agents
IsOfAgents agents (Prepare period ballot) = Unit {0}
IsOfAgents agents (Promise from period ballot vote) = IsVoteOfAgents agents vote
IsOfAgents agents (Accept period ballot cut) = length cut ≡ agents
IsOfAgents agents (Accepted from period ballot cut) = length cut ≡ agents
IsOfAgents agents (Decided period cut) = length cut ≡ agents

-- A packet's numbers are within the limits of texts and of the group's agents, and a ballot is begun by a voter, while there are
-- periods and rounds.
abbrev pub MayBe : World → ℕ → Node → NodeStep → Type 0
MayBe w i n (Gets p) = IsSent p × IsOfAgents w.agents p
MayBe w i n Begins = (i < voter_count w) × (current_period n < most_periods) × (n.kept.round < most_rounds)

-- What was kept becomes what is kept by one increment, which has a text and goes on from there; or it stays, without any.
pub record AddsAtMostOne (before after : KeptAmong) : Type 0 where
  pub increments : List Increment
  pub few : length increments ≤ 1
  pub idle : after ≡ before → increments ≡ []
  pub go_on : GoOn before increments
  pub kept : kept_after before increments ≡ after

-- A log goes on with the increments of a step: one, which has a text and goes on from what the log tells, or none where that stays.
-- With them it tells what is kept after the step; and if it is no longer than a log may be, that is read of it.
pub record GoesOnTo (h : LogHead) (base : Option KeptAmong) (increments : List Increment) (after : KeptAmong) : Type 0 where
  pub more : List Increment
  pub few : length more ≤ 1
  pub idle : after ≡ kept_after (kept_at_first h base) increments → more ≡ []
  pub go_on : GoOn (kept_after (kept_at_first h base) increments) more
  pub kept : kept_after (kept_at_first h base) (increments ++ more) ≡ after
  pub read : length (log_text h base (increments ++ more)) ≤ most_log_bytes → log_in (log_text h base (increments ++ more)) ≡ Ok (record { head = h; kept = after })
