-- What of a world a node acts by: its number, what it keeps, tries and counts, the packet that it gets, how many voters and agents
-- there are, the sheet and the issuer.
use Rattle.std.specs.Prelude.{◌≡◌, ℕ, ◌==◌, ◌<◌, Bool, false, length, drop, take, slice_get}
use Rattle.metering_model.specs.World.{World, Event, Journal, Deliver, Start, Restart, Export, Keep, Revive, node_count, voter_count}
use Rattle.metering_model.specs.Step.{Outcome}
use Rattle.group_laws.specs.Alone.{unnumbered}

-- Two worlds in which the node of a number acts by the same, if there is one. Each has room for a packet more.
pub record AgreeAtNode (i : ℕ) (w v : World) : Type 0 where
  pub sheet : v.sheet ≡ w.sheet
  pub issuer : v.issuer ≡ w.issuer
  pub agents : v.agents ≡ w.agents
  pub voters : voter_count v ≡ voter_count w
  pub node : slice_get v.nodes i ≡ slice_get w.nodes i
  pub room : length w.packets < w.room
  pub room_too : length v.packets < v.room

-- What came of an event in the one world came of it in the other: the reply but for a packet's number, the node, and what was sent.
pub record SameStepAt (i : ℕ) (w v : World) (in_w in_v : Outcome) : Type 0 where
  pub reply : unnumbered in_v.0 ≡ unnumbered in_w.0
  pub node : slice_get in_v.1.nodes i ≡ slice_get in_w.1.nodes i
  pub sent : drop (length v.packets) in_v.1.packets ≡ drop (length w.packets) in_w.1.packets

-- an event at that node for which no packet is named
abbrev pub is_input_at : ℕ → Event → Bool
is_input_at i (Journal offer) = false
is_input_at i (Deliver packet node) = false
is_input_at i (Start node) = node == i
is_input_at i (Restart node) = node == i
is_input_at i (Export node period) = node == i
is_input_at i (Keep node) = node == i
is_input_at i (Revive node offer) = node == i

-- an event at that node
abbrev pub is_at : ℕ → Event → Bool
is_at i (Journal offer) = false
is_at i (Deliver packet node) = node == i
is_at i (Start node) = node == i
is_at i (Restart node) = node == i
is_at i (Export node period) = node == i
is_at i (Keep node) = node == i
is_at i (Revive node offer) = node == i

-- But for that node, and packets behind the older ones, all is as before.
pub record ChangesOnlyNode (i : ℕ) (w : World) (outcome : Outcome) : Type 0 where
  pub sheet : outcome.1.sheet ≡ w.sheet
  pub issuer : outcome.1.issuer ≡ w.issuer
  pub agents : outcome.1.agents ≡ w.agents
  pub room : outcome.1.room ≡ w.room
  pub voters : voter_count outcome.1 ≡ voter_count w
  pub journals : outcome.1.journals ≡ w.journals
  pub count : node_count outcome.1 ≡ node_count w
  pub packets : take (length w.packets) outcome.1.packets ≡ w.packets
  pub others : (j : ℕ) → (j ≡ i → ⊥) → slice_get outcome.1.nodes j ≡ slice_get w.nodes j
