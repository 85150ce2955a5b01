-- What an event is answered, case by case.
use Rattle.std.proofs.Common.{◌≡◌, ℕ, ◌+◌, Bool, true, false, length, refl, sym, Option, Some, None, Ok, Err, nat_lt, nat_le}
use Rattle.std.specs.Prelude.{slice_get, ◌==◌}
use Rattle.metering_model.specs.Batch.{Batch}
use Rattle.metering_model.specs.Holding.{placed, put}
use Rattle.metering_model.specs.JournalRules.{next_seq, first_broken}
use Rattle.metering_model.specs.declared.BrokenRule.TheVariants.{BadTarget as BreaksTarget, Unpriced as BreaksPrice}
use Rattle.metering_model.specs.declared.Refusal.{Refusal}
use Rattle.metering_model.specs.declared.Refusal.TheVariants.{NoNode, NoAgent, WrongSeq, BadTarget, Unpriced, WorldFull}
use Rattle.metering_model.specs.Ballot.{ballot_of}
use Rattle.metering_model.specs.World.{World, Node, Packet, CarriesBatch, Prepare, Journaled, Delivered, Started, Restarted, Exported, KeptText, Refused, Export, Keep, Snapshot, voter_count, votes, current_period, wake, with_node_at, with_packet}
use Rattle.metering_model.specs.Deliveries.{handled}
use Rattle.metering_model.specs.KeptText.{kept_text}
use Rattle.metering_model.specs.Step.{Outcome, kept_now, on_batch, on_delivery, on_start, on_restart, started_node, snapshot, step}

-- ---- a batch is journaled

abbrev IsOfAgents : World → Batch → Bool
IsOfAgents w b = nat_le b.agent w.agents

abbrev IsNextOne : World → Batch → Bool
IsNextOne w b = b.seq == next_seq w.journals b.agent

module _ (w : World) (b : Batch) where
  pub no_agent : IsOfAgents w b ≡ false → on_batch w b ≡ Err NoAgent
  no_agent e = rw e refl

  pub wrong_seq : IsOfAgents w b ≡ true → IsNextOne w b ≡ false → on_batch w b ≡ Err (WrongSeq (next_seq w.journals b.agent))
  wrong_seq e f = rw (e, f) refl

  pub bad_target : IsOfAgents w b ≡ true → IsNextOne w b ≡ true → first_broken w.sheet (put w.journals b) (placed b) ≡ Some BreaksTarget → on_batch w b ≡ Err BadTarget
  bad_target e f g = rw (e, f, g) refl

  pub unpriced : IsOfAgents w b ≡ true → IsNextOne w b ≡ true → first_broken w.sheet (put w.journals b) (placed b) ≡ Some BreaksPrice → on_batch w b ≡ Err Unpriced
  unpriced e f g = rw (e, f, g) refl

  pub no_room_for_batch : IsOfAgents w b ≡ true → IsNextOne w b ≡ true → first_broken w.sheet (put w.journals b) (placed b) ≡ None → nat_lt (length w.packets) w.room ≡ false → on_batch w b ≡ Err WorldFull
  no_room_for_batch e f g h = rw (e, f, g, h) refl

  pub journals_batch : IsOfAgents w b ≡ true → IsNextOne w b ≡ true → first_broken w.sheet (put w.journals b) (placed b) ≡ None → nat_lt (length w.packets) w.room ≡ true
      → on_batch w b ≡ Ok (Journaled (length w.packets), with_packet (CarriesBatch b) (record w { journals = put w.journals b }))
  journals_batch e f g h = rw (e, f, g, h) refl

-- ---- a packet is delivered

module _ (w : World) (k i : ℕ) where
  pub no_node : (p : Packet) → slice_get w.packets k ≡ Some p → slice_get w.nodes i ≡ None → on_delivery w k i ≡ Err NoNode
  no_node p e f = rw (e, f) refl

  module _ (p : Packet) (n m : Node) (sent : slice_get w.packets k ≡ Some p) (found : slice_get w.nodes i ≡ Some n) (learns : Option ℕ) where
    pub delivers : handled w i n p ≡ record { node = m; sends = None; learns = learns } → on_delivery w k i ≡ Ok (Delivered None learns, with_node_at i m w)
    delivers e = rw (sent, found, e) refl

    pub delivers_and_sends : (q : Packet) → handled w i n p ≡ record { node = m; sends = Some q; learns = learns } → nat_lt (length w.packets) w.room ≡ true
        → on_delivery w k i ≡ Ok (Delivered (Some (length w.packets)) learns, with_packet q (with_node_at i m w))
    delivers_and_sends q e f = rw (sent, found, e, f) refl

-- ---- a node starts, or restarts

module _ (w : World) (i : ℕ) (n : Node) (found : slice_get w.nodes i ≡ Some n) where
  pub starts : votes w i ≡ true → nat_lt (current_period n) 1_200 ≡ true → nat_lt n.kept.round 10_000 ≡ true → nat_lt (length w.packets) w.room ≡ true
      → on_start w i
      ≡ Ok (Started (ballot_of (n.kept.round + 1) i (voter_count w)) (length w.packets), with_packet (Prepare (current_period n) (ballot_of (n.kept.round + 1) i (voter_count w))) (with_node_at i (started_node (voter_count w) (ballot_of (n.kept.round + 1) i (voter_count w)) n) w))
  starts v e f g = rw (found, v, e, f, g) refl

  pub restarts : on_restart w i ≡ Ok (Restarted, with_node_at i (wake n.kept) w)
  restarts = rw found refl

-- ---- a node exports

module _ (w : World) (i p : ℕ) where
  -- the reply to it is the snapshot, or why there is none, and the world stays
  pub exported_told : (s : Snapshot) → snapshot w i p ≡ Ok s → ◌≡◌ {A = Outcome} (Exported s, w) (step w (Export i p))
  exported_told s e = sym (rw e refl)

  pub refused_told : (refusal : Refusal) → snapshot w i p ≡ Err refusal → ◌≡◌ {A = Outcome} (Refused refusal, w) (step w (Export i p))
  refused_told refusal e = sym (rw e refl)

-- ---- a node tells what it keeps

-- the reply to it is the text, and the world stays
pub kept_told : (w : World) (i : ℕ) (n : Node) → slice_get w.nodes i ≡ Some n → ◌≡◌ {A = Outcome} (KeptText (kept_text (kept_now w n)), w) (step w (Keep i))
kept_told w i n found = sym (rw found refl)
