-- A world with room for one packet more refuses no event for being full.
use Rattle.std.proofs.Common.{ℕ, ◌<◌, Bool, true, false, length, Option, Some, None, Result, Ok, Err, nat_lt}
use Rattle.std.specs.Prelude.{◌≢◌, ◌==◌, nat_le, slice_get, ok_or}
use Rattle.std.proofs.lemmas.Bool.{cond-true, lt-ltb}
use Rattle.metering_model.specs.FirstFailure.{◌>>=◌, holds_or}
use Rattle.metering_model.specs.Limits.{most_periods, most_rounds}
use Rattle.metering_model.specs.declared.BrokenRule.{BrokenRule}
use Rattle.metering_model.specs.declared.BrokenRule.TheVariants.{BadTarget, Unpriced}
use Rattle.metering_model.specs.declared.Refusal.{Refusal}
use Rattle.metering_model.specs.declared.Refusal.TheVariants.{NoPacket, NoNode, Observer, AllClosed, NoBallot, NotClosed, NotKept, NoAgent, WrongSeq, WorldFull}
use Rattle.metering_model.specs.declared.BatchFault.{BatchFault}
use Rattle.metering_model.specs.declared.KeptTextFault.{KeptTextFault}
use Rattle.metering_model.specs.Batch.{Batch}
use Rattle.metering_model.specs.BatchReading.{batch_in, is_same}
use Rattle.metering_model.specs.Holding.{put, placed}
use Rattle.metering_model.specs.JournalRules.{next_seq, first_broken}
use Rattle.metering_model.specs.KeptText.{KeptAmong, kept_text, kept_in}
use Rattle.metering_model.specs.World.{World, Node, Packet, Offer, Good, Bad, Event, Journal, Deliver, Start, Restart, Export, Keep, Revive, KeptOffer, KeptGood, KeptBad, Refused, votes, current_period, next_packet}
use Rattle.metering_model.specs.Deliveries.{Handled, handled}
use Rattle.metering_model.specs.Step.{Outcome, batch_of, or_bad_batch, unless_broken, unless_missing, first_missing, on_batch, after_delivery, snapshot, kept_of, or_bad_kept, kept_now, or_refused, step}

-- ---- steps that may fail

abbrev NotFull : {A : Type 0} → Result A Refusal → Type 0
NotFull r = r ≢ Err WorldFull

not_then : {A B : Type 0} (x : Result A Refusal) (f : A → Result B Refusal) → NotFull x → ((a : A) → NotFull (f a)) → NotFull (x >>= f)
not_then (Err e) f first each = λ is. first cc
not_then (Ok a) f first each = each a

test_not : (t : Bool) (why : Refusal) → why ≢ WorldFull → NotFull (holds_or t why)
test_not true why other = λ is. cc
test_not false why other = λ is. other cc

found_not : {A : Type 0} (o : Option A) (why : Refusal) → why ≢ WorldFull → NotFull (ok_or o why)
found_not (Some x) why other = λ is. cc
found_not None why other = λ is. other cc

batch_not : (r : Result Batch BatchFault) → NotFull (or_bad_batch r)
batch_not (Ok b) = λ is. cc
batch_not (Err fault) = λ is. cc

offer_not : (offer : Offer) → NotFull (batch_of offer)
offer_not (Good text) = batch_not (batch_in text)
offer_not (Bad fault) = λ is. cc

kept_not : (r : Result KeptAmong KeptTextFault) → NotFull (or_bad_kept r)
kept_not (Ok k) = λ is. cc
kept_not (Err fault) = λ is. cc

text_not : (offer : KeptOffer) → NotFull (kept_of offer)
text_not (KeptGood text) = kept_not (kept_in text)
text_not (KeptBad fault) = λ is. cc

broken_not : (o : Option BrokenRule) → NotFull (unless_broken o)
broken_not None = λ is. cc
broken_not (Some BadTarget) = λ is. cc
broken_not (Some Unpriced) = λ is. cc

missing_not : (o : Option (ℕ × ℕ)) → NotFull (unless_missing o)
missing_not None = λ is. cc
missing_not (Some absent) = λ is. cc

module _ (w : World) (room : length w.packets < w.room) where
  -- ---- a world with room

  packet_not : NotFull (next_packet w)
  packet_not is =
      let has = cond-true (nat_lt (length w.packets) w.room) (Ok (length w.packets)) (Err WorldFull) (lt-ltb (length w.packets) w.room room) in
      cc

  node_not : (i : ℕ) → NotFull (ok_or (slice_get w.nodes i) NoNode)
  node_not i = found_not (slice_get w.nodes i) NoNode (λ is. cc)

  -- what an event comes to is no refusal for a full world
  abbrev Fits : Result Outcome Refusal → Type 0
  Fits r = (or_refused w r).0 ≢ Refused WorldFull

  fits_then : {A : Type 0} (x : Result A Refusal) (f : A → Result Outcome Refusal) → NotFull x → ((a : A) → Fits (f a)) → Fits (x >>= f)
  fits_then (Err e) f first each = λ is. first cc
  fits_then (Ok a) f first each = each a

  delivery_fits : (i : ℕ) (x : Handled) → Fits (after_delivery w i x)
  delivery_fits i x = by_sent x.sends
    where
      by_sent : (o : Option Packet) → Fits (after_delivery w i (record x { sends = o }))
      by_sent None = λ is. cc
      by_sent (Some p) = fits_then (next_packet w) _ packet_not (λ k is. cc)

  batch_fits : (b : Batch) → Fits (on_batch w b)
  batch_fits b =
      fits_then (holds_or (nat_le b.agent w.agents) NoAgent) _ (test_not (nat_le b.agent w.agents) NoAgent (λ is. cc)) (λ _.
      fits_then (holds_or (b.seq == next_seq w.journals b.agent) (WrongSeq (next_seq w.journals b.agent))) _
      (test_not (b.seq == next_seq w.journals b.agent) (WrongSeq (next_seq w.journals b.agent)) (λ is. cc)) (λ _.
      fits_then (unless_broken (first_broken w.sheet (put w.journals b) (placed b))) _ (broken_not (first_broken w.sheet (put w.journals b) (placed b))) (λ _.
      fits_then (next_packet w) _ packet_not (λ k is. cc))))

  start_fits : (i : ℕ) (n : Node) (f : ℕ → Outcome) → ((k : ℕ) → (f k).0 ≢ Refused WorldFull)
      → Fits (holds_or (votes w i) Observer >>= λ _. holds_or (nat_lt (current_period n) most_periods) AllClosed >>= λ _.
      holds_or (nat_lt n.kept.round most_rounds) NoBallot >>= λ _. next_packet w >>= λ k. Ok (f k))
  start_fits i n f each =
      fits_then (holds_or (votes w i) Observer) _ (test_not (votes w i) Observer (λ is. cc)) (λ _.
      fits_then (holds_or (nat_lt (current_period n) most_periods) AllClosed) _ (test_not (nat_lt (current_period n) most_periods) AllClosed (λ is. cc)) (λ _.
      fits_then (holds_or (nat_lt n.kept.round most_rounds) NoBallot) _ (test_not (nat_lt n.kept.round most_rounds) NoBallot (λ is. cc)) (λ _.
      fits_then (next_packet w) (λ k. Ok (f k)) packet_not each)))

  snapshot_not : (i p : ℕ) → NotFull (snapshot w i p)
  snapshot_not i p =
      not_then (ok_or (slice_get w.nodes i) NoNode) _ (node_not i) (λ n.
      not_then (ok_or (slice_get n.kept.learned p) (NotClosed (current_period n))) _
      (found_not (slice_get n.kept.learned p) (NotClosed (current_period n)) (λ is. cc)) (λ to.
      not_then (unless_missing (first_missing n.kept.holding to)) _ (missing_not (first_missing n.kept.holding to)) (λ u is. cc)))

  pub never_full : (e : Event) → (step w e).0 ≢ Refused WorldFull
  never_full (Journal offer) = fits_then (batch_of offer) (on_batch w) (offer_not offer) batch_fits
  never_full (Deliver k i) =
      fits_then (ok_or (slice_get w.packets k) NoPacket) _ (found_not (slice_get w.packets k) NoPacket (λ is. cc)) (λ p.
      fits_then (ok_or (slice_get w.nodes i) NoNode) _ (node_not i) (λ n. delivery_fits i (handled w i n p)))
  never_full (Start i) = fits_then (ok_or (slice_get w.nodes i) NoNode) _ (node_not i) (λ n. start_fits i n _ (λ k is. cc))
  never_full (Restart i) = fits_then (ok_or (slice_get w.nodes i) NoNode) _ (node_not i) (λ n is. cc)
  never_full (Export i p) = fits_then (snapshot w i p) _ (snapshot_not i p) (λ s is. cc)
  never_full (Keep i) = fits_then (ok_or (slice_get w.nodes i) NoNode) _ (node_not i) (λ n is. cc)
  never_full (Revive i offer) =
      fits_then (ok_or (slice_get w.nodes i) NoNode) _ (node_not i) (λ n.
      fits_then (kept_of offer) _ (text_not offer) (λ k.
      fits_then (holds_or (is_same (kept_text k) (kept_text (kept_now w n))) NotKept) _
      (test_not (is_same (kept_text k) (kept_text (kept_now w n))) NotKept (λ is. cc)) (λ u is. cc)))
