-- A run without what happens at observers: the events that are left, and how far its worlds are those of the whole run.
use Rattle.std.specs.Prelude.{◌≡◌, ℕ, ◌+◌, ◌<◌, ◌≤◌, Bool, true, false, nat_le, if◌then◌else◌, List, [], ◌∷◌, ◌++◌, length, Option, Some, None, unwrap_or, slice_get}
use Rattle.std.specs.Option.{option_map}
use Rattle.metering_model.specs.BatchReading.{with_first}
use Rattle.metering_model.specs.Cut.{Cut}
use Rattle.metering_model.specs.World.{World, Decided, Event, Journal, Deliver, Start, Restart, Export, Keep, Revive, Reply, Journaled, Delivered, Started, Restarted, Exported, KeptText, Refused, voter_count}

-- an event at a node that does not vote, be it an observer or none at all
abbrev pub is_beyond : ℕ → Event → Bool
is_beyond voters (Journal offer) = false
is_beyond voters (Deliver packet node) = nat_le voters node
is_beyond voters (Start node) = nat_le voters node
is_beyond voters (Restart node) = nat_le voters node
is_beyond voters (Export node period) = nat_le voters node
is_beyond voters (Keep node) = nat_le voters node
is_beyond voters (Revive node offer) = nat_le voters node

-- a packet was sent
abbrev pub is_sent : Reply → Bool
is_sent (Journaled packet) = true
is_sent (Delivered (Some packet) learned) = true
is_sent (Delivered None learned) = false
is_sent (Started ballot packet) = true
is_sent Restarted = false
is_sent (Exported snapshot) = false
is_sent (KeptText text) = false
is_sent (Refused refusal) = false

-- What each packet of the whole run is called in the other one, in turn: a packet of an observer is not there, and has no number.
abbrev pub Numbers : Type 0
Numbers = List (Option ℕ)

abbrev pub numbers_after : Option ℕ → Reply → Numbers → Numbers
numbers_after number r numbers = if is_sent r then numbers ++ number ∷ [] else numbers

abbrev pub next_after : Reply → ℕ → ℕ
next_after r next = if is_sent r then next + 1 else next

-- The event with the packet's other number. A packet that was not sent yet gets one that was not sent yet either.
abbrev pub renumbered : Numbers → ℕ → Event → Option Event
renumbered numbers next (Deliver packet node) = option_map (λ k. Deliver k node) (unwrap_or (slice_get numbers packet) (Some next))
renumbered numbers next e = Some e

-- The events that are left where those at observers are left out, in a run that gave these replies. There are none such where
-- a packet of an observer is delivered to a voter.
abbrev pub without : (voters : ℕ) → Numbers → (next : ℕ) → List Event → List Reply → Option (List Event)
without voters numbers next [] rs = Some []
without voters numbers next (e ∷ es) [] = None
without voters numbers next (e ∷ es) (r ∷ rs) =
    if is_beyond voters e then without voters (numbers_after None r numbers) next es rs
    else with_first (renumbered numbers next e) (without voters (numbers_after (Some next) r numbers) (next_after r next) es rs)

-- The other world has the same journals, the same voters with all that they keep, try and count, and just the packets that have
-- a number, in the same order; the next one that is sent gets the next number. A packet without one tells a cut.
pub record Follows (voters : ℕ) (numbers : Numbers) (next : ℕ) (whole other : World) : Type 0 where
  pub sheet : other.sheet ≡ whole.sheet
  pub issuer : other.issuer ≡ whole.issuer
  pub agents : other.agents ≡ whole.agents
  pub journals : other.journals ≡ whole.journals
  pub room : other.room ≡ whole.room
  pub votes : voter_count whole ≡ voters
  pub other_votes : voter_count other ≡ voters
  pub nodes : (i : ℕ) → i < voters → slice_get other.nodes i ≡ slice_get whole.nodes i
  pub each_packet : length numbers ≡ length whole.packets
  pub packets : (packet number : ℕ) → slice_get numbers packet ≡ Some (Some number) → slice_get other.packets number ≡ slice_get whole.packets packet
  pub rising : (packet later number after : ℕ) → packet < later → slice_get numbers packet ≡ Some (Some number) → slice_get numbers later ≡ Some (Some after) → number < after
  pub left_out : (packet : ℕ) → slice_get numbers packet ≡ Some None → (period : ℕ) × (cut : Cut) × (slice_get whole.packets packet ≡ Some (Decided period cut))
  pub no_other : (number : ℕ) → number < length other.packets → (packet : ℕ) × (slice_get numbers packet ≡ Some (Some number))
  pub sent : length other.packets ≡ next
  pub fewer : length other.packets ≤ length whole.packets

-- the same with some numbers
abbrev pub IsFollowed : ℕ → World → World → Type 0
IsFollowed voters whole other = (numbers : Numbers) × (next : ℕ) × Follows voters numbers next whole other
