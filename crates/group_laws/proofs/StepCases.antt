-- What a step may do to the world: what each of these keeps, every run keeps.
use Rattle.std.proofs.Common.{◌≡◌, ℕ, ◌+◌, ◌<◌, ◌≤◌, Bool, true, false, length, refl, sym, subst, Option, Some, None, Result, Ok, Err, nat_lt, nat_le, ok_or, eqb-true}
use Rattle.std.specs.Prelude.{slice_get, ◌==◌, if◌then◌else◌}
use Rattle.std.proofs.lemmas.Bool.{leb-true, ltb-true}
use Rattle.metering_model.specs.FirstFailure.{◌>>=◌, holds_or}
use Rattle.metering_model.specs.Batch.{Batch, IsWellFormed}
use Rattle.metering_model.specs.BatchReading.{batch_in}
use Rattle.metering_model.specs.Holding.{placed, put}
use Rattle.metering_model.specs.JournalRules.{next_seq, first_broken}
use Rattle.metering_model.specs.declared.BatchFault.{BatchFault}
use Rattle.metering_model.specs.declared.BrokenRule.{BrokenRule}
use Rattle.metering_model.specs.declared.Refusal.{Refusal}
use Rattle.metering_model.specs.declared.Refusal.TheVariants.{NoPacket, NoNode, NoAgent, WrongSeq, AllClosed, NoBallot, WorldFull, Observer, NotKept}
use Rattle.metering_model.specs.declared.BrokenRule.TheVariants.{BadTarget, Unpriced}
use Rattle.metering_model.specs.Ballot.{ballot_of}
use Rattle.metering_model.specs.World.{World, Node, Packet, CarriesBatch, Prepare, Offer, Good, Bad, Event, Journal, Deliver, Start, Restart, Export, Keep, Revive, KeptOffer, KeptGood, KeptBad, Delivered, voter_count, votes, current_period, wake, with_node_at, with_packet, next_packet}
use Rattle.metering_model.specs.World as world
use Rattle.metering_model.specs.Deliveries.{Handled, handled}
use Rattle.metering_model.specs.declared.KeptTextFault.{KeptTextFault}
use Rattle.metering_model.specs.BatchReading.{is_same}
use Rattle.metering_model.specs.KeptText.{KeptAmong, HasText, kept_text, kept_in}
use Rattle.metering_model.specs.Step.{Outcome, on_batch, on_journal, on_delivery, on_start, on_restart, on_revival, or_bad_kept, kept_of, kept_now, started_node, after_delivery, outcome_of, or_refused, or_bad_batch, unless_broken, snapshot, step}
use Rattle.metering_model.proofs.BatchLaws.{IsWellFormed-read}
use Rattle.metering_model.proofs.FieldLaws.{same_read}
use Rattle.metering_model.proofs.KeptLaws.{kept_read}
use Rattle.group_laws.proofs.Quorum.{In}

abbrev pub HasRoom : World → Type 0
HasRoom w = length w.packets < w.room

-- the batch is one that the journals take, and the world has room for its packet
pub record IsNext (w : World) (b : Batch) : Type 0 where
  pub well_formed : IsWellFormed b
  pub agent : b.agent ≤ w.agents
  pub seq : b.seq ≡ next_seq w.journals b.agent
  pub none_broken : first_broken w.sheet (put w.journals b) (placed b) ≡ None
  pub room : HasRoom w

abbrev pub journaling : World → Batch → World
journaling w b = with_packet (CarriesBatch b) (record w { journals = put w.journals b })

abbrev pub after : World → ℕ → Node → Option Packet → World
after w i n None = with_node_at i n w
after w i n (Some q) = with_packet q (with_node_at i n w)

abbrev pub fresh_ballot : World → ℕ → Node → ℕ
fresh_ballot w i n = ballot_of (n.kept.round + 1) i (voter_count w)

abbrev pub started : World → ℕ → Node → Node
started w i n = started_node (voter_count w) (fresh_ballot w i n) n

abbrev pub start_packet : World → ℕ → Node → Packet
start_packet w i n = Prepare (current_period n) (fresh_ballot w i n)

abbrev pub starting : World → ℕ → Node → World
starting w i n = after w i (started w i n) (Some (start_packet w i n))

abbrev pub HasRoomFor : World → Option Packet → Type 0
HasRoomFor w None = Unit {0}
HasRoomFor w (Some q) = HasRoom w

-- the packet was sent, and the world has room for what the node answers
pub record MayHandle (w : World) (i : ℕ) (n : Node) (q : Packet) : Type 0 where
  pub found : slice_get w.nodes i ≡ Some n
  pub sent : In w.packets q
  pub room : HasRoomFor w (handled w i n q).sends

-- the node votes, has a period and a round left, and the world has room for its packet
pub record MayStart (w : World) (i : ℕ) (n : Node) : Type 0 where
  pub found : slice_get w.nodes i ≡ Some n
  pub votes : i < voter_count w
  pub going : current_period n < 1_200
  pub round : n.kept.round < 10_000
  pub room : HasRoom w

pub record IsKeptBySteps (M : World → Type 0) : Type 0 where
  pub journals : (w : World) (b : Batch) → M w → IsNext w b → M (journaling w b)
  pub delivers : (w : World) (i : ℕ) (n : Node) (q : Packet) → M w → MayHandle w i n q → M (after w i (handled w i n q).node (handled w i n q).sends)
  pub starts : (w : World) (i : ℕ) (n : Node) → M w → MayStart w i n → M (starting w i n)
  pub restarts : (w : World) (i : ℕ) (n : Node) → M w → slice_get w.nodes i ≡ Some n → M (with_node_at i (wake n.kept) w)

-- what has the text of what a node keeps is that: so to be revived is to restart
pub record IsReadBack (w : World) : Type 0 where
  pub same : (i : ℕ) (n : Node) (k : KeptAmong) → slice_get w.nodes i ≡ Some n → HasText k → kept_text k ≡ kept_text (kept_now w n) → k ≡ kept_now w n

pub record IfOk (M : World → Type 0) (r : Result Outcome Refusal) : Type 0 where
  pub kept : (o : Outcome) → r ≡ Ok o → M o.1

done : (M : World → Type 0) (o : Outcome) → M o.1 → IfOk M (Ok o)
done M o h = record { kept = λ p e. subst (λ (x : Outcome). M x.1) (ok_same o p e) h }
  where
    ok_same : (o p : Outcome) → ◌≡◌ {A = Result Outcome Refusal} (Ok o) (Ok p) → o ≡ p
    ok_same o p e = cc

refused : (M : World → Type 0) (e : Refusal) → IfOk M (Err e)
refused M e = record { kept = λ p is. absurd (cc) }

after_bind : (M : World → Type 0) {A : Type 0} (r : Result A Refusal) (f : A → Result Outcome Refusal) → ((x : A) → r ≡ Ok x → IfOk M (f x)) → IfOk M (r >>= f)
after_bind M (Ok x) f h = h x refl
after_bind M (Err e) f h = refused M e

ok_or_ok : {A E : Type 0} (e : E) (o : Option A) (x : A) → ok_or o e ≡ Ok x → o ≡ Some x
ok_or_ok e None x h = absurd (cc)
ok_or_ok e (Some y) x h = cc

held_ok : (b : Bool) (e : Refusal) (u : Unit {0}) → holds_or b e ≡ Ok u → b ≡ true
held_ok true e u h = refl
held_ok false e u h = absurd (cc)

has_room : (w : World) (k : ℕ) → next_packet w ≡ Ok k → HasRoom w
has_room w k e = by_test (nat_lt (length w.packets) w.room) refl e
  where
    by_test : (t : Bool) → nat_lt (length w.packets) w.room ≡ t → (if t then Ok (length w.packets) else Err WorldFull) ≡ Ok k → HasRoom w
    by_test true is f = ltb-true _ _ is
    by_test false is f = absurd (cc)

unbroken : (o : Option BrokenRule) (u : Unit {0}) → unless_broken o ≡ Ok u → o ≡ None
unbroken None u h = refl
unbroken (Some BadTarget) u h = absurd (cc)
unbroken (Some Unpriced) u h = absurd (cc)

batch_read : (r : Result Batch BatchFault) (b : Batch) → or_bad_batch r ≡ Ok b → r ≡ Ok b
batch_read (Ok x) b h = cc
batch_read (Err e) b h = absurd (cc)

bad_kept_read : (r : Result KeptAmong KeptTextFault) (k : KeptAmong) → or_bad_kept r ≡ Ok k → r ≡ Ok k
bad_kept_read (Ok x) k h = cc
bad_kept_read (Err e) k h = absurd (cc)

-- what is taken from an offer has a text
pub taken_has_text : (offer : KeptOffer) (k : KeptAmong) → kept_of offer ≡ Ok k → HasText k
taken_has_text (KeptGood text) k e = (kept_read text k (bad_kept_read (kept_in text) k e)).has
taken_has_text (KeptBad fault) k e = absurd (cc)

module _ (M : World → Type 0) (keeps : IsKeptBySteps M) (w : World) (back : IsReadBack w) (h : M w) where
  batch_kept : (b : Batch) → IsWellFormed b → IfOk M (on_batch w b)
  batch_kept b well =
      after_bind M (holds_or (nat_le b.agent w.agents) NoAgent) _ (λ u one.
      after_bind M (holds_or (b.seq == next_seq w.journals b.agent) (WrongSeq (next_seq w.journals b.agent))) _ (λ u two.
      after_bind M (unless_broken (first_broken w.sheet (put w.journals b) (placed b))) _ (λ u three.
      after_bind M (next_packet w) _ (λ k room.
      done M (world.Journaled k, journaling w b) (keeps.journals w b h (record {
        well_formed = well;
        agent = leb-true _ _ (held_ok _ _ _ one);
        seq = eqb-true _ _ (held_ok _ _ _ two);
        none_broken = unbroken _ _ three;
        room = has_room w k room;
      }))))))

  journal_kept : (offer : Offer) → IfOk M (on_journal w offer)
  journal_kept (Good text) = after_bind M (or_bad_batch (batch_in text)) (on_batch w) (λ b e. batch_kept b (IsWellFormed-read text b (batch_read (batch_in text) b e)))
  journal_kept (Bad fault) = refused M _

  handled_kept : (i : ℕ) (x : Handled) → (HasRoomFor w x.sends → M (after w i x.node x.sends)) → IfOk M (after_delivery w i x)
  handled_kept i x = by_sends x.sends
    where
      by_sends : (o : Option Packet) → (HasRoomFor w o → M (after w i x.node o)) → IfOk M (elim o [ None ↦ Ok (Delivered None x.learns, with_node_at i x.node w) | Some p ↦ next_packet w >>= λ k. Ok (Delivered (Some k) x.learns, with_packet p (with_node_at i x.node w)) ])
      by_sends None m = done M _ (m tt)
      by_sends (Some q) m = after_bind M (next_packet w) _ (λ k room. done M _ (m (has_room w k room)))

  delivery_kept : (k i : ℕ) → IfOk M (on_delivery w k i)
  delivery_kept k i =
      after_bind M (ok_or (slice_get w.packets k) NoPacket) _ (λ q is.
      after_bind M (ok_or (slice_get w.nodes i) NoNode) _ (λ n at.
      handled_kept i (handled w i n q) (λ room. keeps.delivers w i n q h (record { found = ok_or_ok _ _ _ at; sent = (k, ok_or_ok _ _ _ is); room = room }))))

  start_kept : (i : ℕ) → IfOk M (on_start w i)
  start_kept i =
      after_bind M (ok_or (slice_get w.nodes i) NoNode) _ (λ n at.
      after_bind M (holds_or (votes w i) Observer) _ (λ u voter.
      after_bind M (holds_or (nat_lt (current_period n) 1_200) AllClosed) _ (λ u one.
      after_bind M (holds_or (nat_lt n.kept.round 10_000) NoBallot) _ (λ u two.
      after_bind M (next_packet w) _ (λ k room. done M _ (keeps.starts w i n h (record { found = ok_or_ok _ _ _ at; votes = ltb-true _ _ (held_ok _ _ _ voter); going = ltb-true _ _ (held_ok _ _ _ one); round = ltb-true _ _ (held_ok _ _ _ two); room = has_room w k room })))))))

  restart_kept : (i : ℕ) → IfOk M (on_restart w i)
  restart_kept i = after_bind M (ok_or (slice_get w.nodes i) NoNode) _ (λ n at. done M _ (keeps.restarts w i n h (ok_or_ok _ _ _ at)))

  revival_kept : (i : ℕ) (offer : KeptOffer) → IfOk M (on_revival w i offer)
  revival_kept i offer =
      after_bind M (ok_or (slice_get w.nodes i) NoNode) _ (λ n at.
      after_bind M (kept_of offer) _ (λ k taken.
      after_bind M (holds_or (is_same (kept_text k) (kept_text (kept_now w n))) NotKept) _ (λ u same.
      let found = ok_or_ok _ _ _ at in
      let is : k ≡ kept_now w n = back.same i n k found (taken_has_text offer k taken) (same_read _ _ (held_ok _ _ _ same)) in
      done M _ (subst (λ (x : KeptAmong). M (with_node_at i (wake x.kept) w)) (sym is) (keeps.restarts w i n h found)))))

  outcome_kept : (e : Event) → IfOk M (outcome_of w e)
  outcome_kept (Journal offer) = journal_kept offer
  outcome_kept (Deliver k i) = delivery_kept k i
  outcome_kept (Start i) = start_kept i
  outcome_kept (Restart i) = restart_kept i
  outcome_kept (Export i p) = after_bind M (snapshot w i p) _ (λ s e. done M _ h)
  outcome_kept (Keep i) = after_bind M (ok_or (slice_get w.nodes i) NoNode) _ (λ n at. done M _ h)
  outcome_kept (Revive i offer) = revival_kept i offer

  pub step_kept : (e : Event) → M (step w e).1
  step_kept e = either (outcome_of w e) (outcome_kept e)
    where
      either : (r : Result Outcome Refusal) → IfOk M r → M (or_refused w r).1
      either (Ok o) k = k.kept o refl
      either (Err e) k = h
