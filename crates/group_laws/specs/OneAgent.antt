-- What of a world an agent journals by: its own batches in the journals, the sheet, and how many agents there are.
use Rattle.std.specs.Prelude.{◌≡◌, ℕ, ◌==◌, ◌<◌, length, filter, drop, take}
use Rattle.metering_model.specs.Holding.{Holding, IsHolding}
use Rattle.metering_model.specs.World.{World, voter_count}
use Rattle.metering_model.specs.Step.{Outcome}
use Rattle.group_laws.specs.Alone.{unnumbered}

-- an agent's batches
abbrev pub batches_of : ℕ → Holding → Holding
batches_of agent h = filter (λ b. b.agent == agent) h

-- Two worlds in which an agent journals by the same. Each has room for a packet more.
pub record AgreeAtAgent (agent : ℕ) (w v : World) : Type 0 where
  pub sheet : v.sheet ≡ w.sheet
  pub agents : v.agents ≡ w.agents
  pub batches : batches_of agent v.journals ≡ batches_of agent w.journals
  pub holding : IsHolding w.journals
  pub holding_too : IsHolding v.journals
  pub room : length w.packets < w.room
  pub room_too : length v.packets < v.room

-- What came of a batch in the one world came of it in the other: the reply but for a packet's number, the agent's batches, and what was sent.
pub record SameJournalOf (agent : ℕ) (w v : World) (in_w in_v : Outcome) : Type 0 where
  pub reply : unnumbered in_v.0 ≡ unnumbered in_w.0
  pub batches : batches_of agent in_v.1.journals ≡ batches_of agent in_w.1.journals
  pub sent : drop (length v.packets) in_v.1.packets ≡ drop (length w.packets) in_w.1.packets

-- But for that agent's batches, and packets behind the older ones, all is as before.
pub record ChangesOnlyAgent (agent : ℕ) (w : World) (outcome : Outcome) : Type 0 where
  pub sheet : outcome.1.sheet ≡ w.sheet
  pub issuer : outcome.1.issuer ≡ w.issuer
  pub agents : outcome.1.agents ≡ w.agents
  pub room : outcome.1.room ≡ w.room
  pub voters : voter_count outcome.1 ≡ voter_count w
  pub nodes : outcome.1.nodes ≡ w.nodes
  pub packets : take (length w.packets) outcome.1.packets ≡ w.packets
  pub others : (other : ℕ) → (agent ≡ other → ⊥) → batches_of other outcome.1.journals ≡ batches_of other w.journals
