-- The group as plain data: what nodes keep, what was sent, what may happen and what is answered.
use Rattle.std.specs.Prelude.{ℕ, ◌+◌, Bool, List, [], ◌∷◌, ◌++◌, length, replicate, Option, None, Result, Ok, Err, unwrap_or, nat_lt, if◌then◌else◌, slice_set}
use Rattle.std.specs.List.{last_or}
use Rattle.metering_model.specs.Limits.{most_packets}
pub use Rattle.metering_model.specs.declared.KeptTextFault.{KeptTextFault}
pub use Rattle.metering_model.specs.declared.Refusal.{Refusal}
pub use Rattle.metering_model.specs.declared.Refusal.TheVariants.{BadBatch, WrongSeq, BadTarget, Unpriced, NoPacket, NoNode, NotClosed, Missing, AllClosed, NoBallot, WorldFull, NoAgent, Observer, BadKept, NotKept}
use Rattle.metering_model.specs.Batch.{Batch}
use Rattle.metering_model.specs.BatchReading.{BatchFault, batch_in}
use Rattle.metering_model.specs.Sheet.{Sheet, Issuer}
use Rattle.metering_model.specs.Cut.{Cut, zero_cut}
use Rattle.metering_model.specs.Holding.{Holding}
use Rattle.metering_model.specs.Ballot.{Vote, Acceptor, Attempt, Tally, new_acceptor}

pub data Packet : Type 0 where
  CarriesBatch : Batch → Packet
  Prepare : (period ballot : ℕ) → Packet
  Promise : (from period ballot : ℕ) (vote : Option Vote) → Packet
  Accept : (period ballot : ℕ) (cut : Cut) → Packet
  Accepted : (from period ballot : ℕ) (cut : Cut) → Packet
  Decided : (period : ℕ) (cut : Cut) → Packet

-- what a node keeps over a restart; promise and vote are of its current period, the first that it has not learned
pub record Kept : Type 0 where
  pub round : ℕ
  pub learned : List Cut
  pub acceptor : Acceptor
  pub holding : Holding

pub record Node : Type 0 where
  pub kept : Kept
  pub attempt : Option Attempt
  pub tally : Tally

-- The first of the nodes vote, and those behind them observe. There is room for so many packets, sent over the whole run.
pub record World : Type 0 where
  pub sheet : Sheet
  pub issuer : Issuer
  pub agents : ℕ
  pub journals : Holding
  pub room : ℕ
  pub packets : List Packet
  pub voters : ℕ
  pub nodes : List Node

-- What is handed in to be journaled: bytes, or the fault of bytes that were read and are no batch. The step reads the
-- bytes, so those that are no batch are refused in either form.
pub data Offer : Type 0 where
  Good : (text : List ℕ) → Offer
  Bad : BatchFault → Offer

-- what reading bytes hands in
abbrev pub offer_of : List ℕ → Offer
offer_of text = elim (batch_in text) [ Ok b ↦ Good text | Err fault ↦ Bad fault ]

-- What is handed in for a node to be revived from: a text, or the first fault of one that was read before. The step reads the
-- text itself.
pub data KeptOffer : Type 0 where
  KeptGood : (text : List ℕ) → KeptOffer
  KeptBad : KeptTextFault → KeptOffer

-- Packets are delivered in any order, to whichever node, once, often or never.
pub data Event : Type 0 where
  Journal : Offer → Event
  Deliver : (packet node : ℕ) → Event
  Start : (node : ℕ) → Event
  Restart : (node : ℕ) → Event
  Export : (node period : ℕ) → Event
  Keep : (node : ℕ) → Event
  Revive : (node : ℕ) → KeptOffer → Event

-- what an export is made of: the batches up to the period's cut
pub record Snapshot : Type 0 where
  pub period : ℕ
  pub from : Cut
  pub to : Cut
  pub batches : Holding
  pub sheet : Sheet
  pub issuer : Issuer

pub data Reply : Type 0 where
  Journaled : (packet : ℕ) → Reply
  Delivered : (sent learned : Option ℕ) → Reply
  Started : (ballot packet : ℕ) → Reply
  Restarted : Reply
  Exported : Snapshot → Reply
  KeptText : (text : List ℕ) → Reply
  Refused : Refusal → Reply

abbrev pub node_count : World → ℕ
node_count w = length w.nodes

-- how many of the nodes vote. Ballots, sets of nodes and majorities are of the voters.
abbrev pub voter_count : World → ℕ
voter_count w = w.voters

abbrev pub votes : World → ℕ → Bool
votes w i = nat_lt i (voter_count w)

-- the period that a node works on: the first that it has not learned
abbrev pub current_period : Node → ℕ
current_period n = length n.kept.learned

-- the cut that a period stands on: that of the period before, or the zero cut
abbrev pub last_cut : ℕ → List Cut → Cut
last_cut agents cuts = unwrap_or (last_or None cuts) (zero_cut agents)

-- waking forgets the attempt and the tally
abbrev pub wake : Kept → Node
wake kept = record { kept = kept; attempt = None; tally = [] }

abbrev pub new_kept : Kept
new_kept = record { round = 0; learned = []; acceptor = new_acceptor; holding = [] }

-- before any event, with room for so many packets
abbrev pub opening_with : (room voters observers agents : ℕ) → Sheet → Issuer → World
opening_with room voters observers agents sheet issuer = record {
  sheet = sheet;
  issuer = issuer;
  agents = agents;
  journals = [];
  room = room;
  packets = [];
  voters = voters;
  nodes = replicate (voters + observers) (wake new_kept);
}

-- with the room that a group of the program has
abbrev pub opening : ℕ → ℕ → ℕ → Sheet → Issuer → World
opening voters observers agents sheet issuer = opening_with most_packets voters observers agents sheet issuer

abbrev pub with_kept : Kept → Node → Node
with_kept kept n = record n { kept = kept }

abbrev pub with_node_at : ℕ → Node → World → World
with_node_at i n w = record w { nodes = slice_set w.nodes i n }

abbrev pub with_packet : Packet → World → World
with_packet p w = record w { packets = w.packets ++ p ∷ [] }

-- the number of the next packet, where the world has room for one
abbrev pub next_packet : World → Result ℕ Refusal
next_packet w = if nat_lt (length w.packets) w.room then Ok (length w.packets) else Err WorldFull
