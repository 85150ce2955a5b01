-- A reply tells just what was sent.
use Rattle.std.proofs.Common.{◌≡◌, ℕ, ◌+◌, Bool, true, false, [], ◌∷◌, ◌++◌, length, refl, sym, ap, subst, Option, Some, None, Result, Ok, Err, nat_lt}
use Rattle.std.specs.Prelude.{slice_get, ok_or, nat_le, ◌==◌, if◌then◌else◌}
use Rattle.metering_model.specs.FirstFailure.{◌>>=◌, holds_or}
use Rattle.metering_model.specs.Limits.{most_periods, most_rounds}
use Rattle.metering_model.specs.declared.Refusal.{Refusal}
use Rattle.metering_model.specs.declared.Refusal.TheVariants.{NoPacket, NoNode, Observer, AllClosed, NoBallot, NotKept, NoAgent, WrongSeq, WorldFull}
use Rattle.metering_model.specs.Batch.{Batch}
use Rattle.metering_model.specs.BatchReading.{is_same}
use Rattle.metering_model.specs.Holding.{put, placed}
use Rattle.metering_model.specs.JournalRules.{next_seq, first_broken}
use Rattle.metering_model.specs.Ballot.{ballot_of}
use Rattle.metering_model.specs.KeptText.{kept_text}
use Rattle.metering_model.specs.World.{World, Node, Packet, CarriesBatch, Prepare, Event, Journal, Deliver, Start, Restart, Export, Keep, Revive, Reply, Journaled, Delivered, Started, Restarted, Exported, KeptText, voter_count, votes, current_period, wake, with_node_at, with_packet, next_packet}
use Rattle.metering_model.specs.Deliveries.{Handled, handled}
use Rattle.metering_model.specs.Step.{Outcome, batch_of, unless_broken, after_delivery, started_node, snapshot, kept_of, kept_now, or_refused, step}
use Rattle.group_laws.specs.SentPackets.{SendsAsTold, told_number}

module _ (w : World) where
  abbrev Told : Outcome → Type 0
  Told o = SendsAsTold w o.1 (told_number o.0)

  told_then : {A : Type 0} (x : Result A Refusal) (f : A → Result Outcome Refusal) → ((a : A) → Told (or_refused w (f a))) → Told (or_refused w (x >>= f))
  told_then (Err e) f each = refl
  told_then (Ok a) f each = each a

  -- a packet that is sent from a world with the same packets, which gets the next number
  told_sent : (reply : ℕ → Reply) → ((k : ℕ) → told_number (reply k) ≡ Some k) → (p : Packet) (v : World) → v.packets ≡ w.packets
      → Told (or_refused w (next_packet w >>= λ k. Ok (reply k, with_packet p v)))
  told_sent reply tells p v same = by_room (nat_lt (length w.packets) w.room)
    where
      by_room : (t : Bool) → Told (or_refused w ((if t then Ok (length w.packets) else Err WorldFull) >>= λ k. Ok (reply k, with_packet p v)))
      by_room false = refl
      by_room true = subst (SendsAsTold w (with_packet p v)) (sym (tells (length w.packets))) (refl, (p, ap (λ ps. ps ++ p ∷ []) same))

  told_journaled : (b : Batch) (known next : Bool) (wrong : Refusal) (unbroken : Result (Unit {0}) Refusal)
      → Told (or_refused w (holds_or known NoAgent >>= λ _. holds_or next wrong >>= λ _. unbroken >>= λ _. next_packet w >>= λ k.
      Ok (Journaled k, with_packet (CarriesBatch b) (record w { journals = put w.journals b }))))
  told_journaled b false next wrong unbroken = refl
  told_journaled b true false wrong unbroken = refl
  told_journaled b true true wrong (Err e) = refl
  told_journaled b true true wrong (Ok u) = told_sent Journaled (λ k. refl) (CarriesBatch b) (record w { journals = put w.journals b }) refl

  told_delivered : (i : ℕ) (h : Handled) → Told (or_refused w (after_delivery w i h))
  told_delivered i h = by_sent h.sends
    where
      by_sent : (s : Option Packet) → Told (or_refused w (after_delivery w i (record h { sends = s })))
      by_sent None = refl
      by_sent (Some p) = told_sent (λ k. Delivered (Some k) h.learns) (λ k. refl) p (with_node_at i h.node w) refl

  told_started : (i : ℕ) (n : Node) (voting unclosed left : Bool)
      → Told (or_refused w (holds_or voting Observer >>= λ _. holds_or unclosed AllClosed >>= λ _. holds_or left NoBallot >>= λ _. next_packet w >>= λ k.
      Ok (
        Started (ballot_of (n.kept.round + 1) i (voter_count w)) k,
        with_packet (Prepare (current_period n) (ballot_of (n.kept.round + 1) i (voter_count w))) (with_node_at i (started_node (voter_count w) (ballot_of (n.kept.round + 1) i (voter_count w)) n) w),
      )))
  told_started i n false unclosed left = refl
  told_started i n true false left = refl
  told_started i n true true false = refl
  told_started i n true true true = told_sent (Started (ballot_of (n.kept.round + 1) i (voter_count w))) (λ k. refl)
      (Prepare (current_period n) (ballot_of (n.kept.round + 1) i (voter_count w))) (with_node_at i (started_node (voter_count w) (ballot_of (n.kept.round + 1) i (voter_count w)) n) w) refl

pub sends_as_told : (w : World) (e : Event) → SendsAsTold w (step w e).1 (told_number (step w e).0)
sends_as_told w (Journal offer) =
    told_then w (batch_of offer) _ (λ b. told_journaled w b (nat_le b.agent w.agents) (b.seq == next_seq w.journals b.agent) (WrongSeq (next_seq w.journals b.agent)) (unless_broken (first_broken w.sheet (put w.journals b) (placed b))))
sends_as_told w (Deliver packet i) =
    told_then w (ok_or (slice_get w.packets packet) NoPacket) (λ p. ok_or (slice_get w.nodes i) NoNode >>= λ n. after_delivery w i (handled w i n p)) (λ p.
    told_then w (ok_or (slice_get w.nodes i) NoNode) (λ n. after_delivery w i (handled w i n p)) (λ n. told_delivered w i (handled w i n p)))
sends_as_told w (Start i) =
    told_then w (ok_or (slice_get w.nodes i) NoNode) _ (λ n. told_started w i n (votes w i) (nat_lt (current_period n) most_periods) (nat_lt n.kept.round most_rounds))
sends_as_told w (Restart i) = told_then w (ok_or (slice_get w.nodes i) NoNode) (λ n. Ok (Restarted, with_node_at i (wake n.kept) w)) (λ n. refl)
sends_as_told w (Export i period) = told_then w (snapshot w i period) (λ x. Ok (Exported x, w)) (λ x. refl)
sends_as_told w (Keep i) = told_then w (ok_or (slice_get w.nodes i) NoNode) (λ n. Ok (KeptText (kept_text (kept_now w n)), w)) (λ n. refl)
sends_as_told w (Revive i offer) =
    told_then w (ok_or (slice_get w.nodes i) NoNode) _ (λ n. told_then w (kept_of offer) _ (λ k.
    told_then w (holds_or (is_same (kept_text k) (kept_text (kept_now w n))) NotKept) (λ _. Ok (Restarted, with_node_at i (wake k.kept) w)) (λ _. refl)))
