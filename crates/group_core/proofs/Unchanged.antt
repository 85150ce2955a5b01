-- What a refused event, an answered export and a kept text leave: the world as it was. And what a revival from another text is
-- answered.
use Rattle.std.proofs.Common.{◌≡◌, ℕ, false, Option, Some, None, Result, Ok, Err, IfOk, refl, sym, ap, ◌∙◌, subst, nat_lt, nat_le, ok_or}
use Rattle.std.specs.Prelude.{◌==◌, slice_get}
use Rattle.metering_model.specs.FirstFailure.{◌>>=◌, holds_or}
use Rattle.metering_model.specs.declared.Refusal.{Refusal}
use Rattle.metering_model.specs.declared.Refusal.TheVariants.{WrongSeq, NoPacket, NoNode, NoAgent, AllClosed, NoBallot, Observer, NotKept}
use Rattle.metering_model.specs.Batch.{Batch}
use Rattle.metering_model.specs.BatchReading.{batch_in, is_same}
use Rattle.metering_model.specs.Holding.{placed, put}
use Rattle.metering_model.specs.JournalRules.{next_seq, first_broken}
use Rattle.metering_model.specs.KeptText.{kept_text}
use Rattle.metering_model.specs.World.{World, Node, Packet, Offer, Good, Bad, Event, Journal, Deliver, Start, Restart, Export, Keep, Revive, KeptOffer, KeptGood, Reply, Delivered, Refused, votes, current_period, next_packet, with_node_at, with_packet}
use Rattle.metering_model.specs.Deliveries.{Handled, handled}
use Rattle.metering_model.specs.Step.{Outcome, on_batch, on_journal, on_delivery, on_start, on_restart, on_export, on_keep, on_revival, after_delivery, or_refused, or_bad_batch, unless_broken, snapshot, kept_now, kept_of, outcome_of, step}
use Rattle.group_laws.specs.Revivals.{refusal_of_other}
use Rattle.group_laws.proofs.Revivals.{other_is_refused}
use Rattle.group_state.specs.Words.{is_exported, is_kept_text, is_refused}
use Rattle.group_core.specs.Headline.{IsUnchangedAt}

abbrev LeavesAsItWas : World → Result Outcome Refusal → Type 0
LeavesAsItWas w r = IsUnchangedAt (or_refused w r).0 w (or_refused w r).1

by_refusal : (w : World) (e : Refusal) → LeavesAsItWas w (Err e)
by_refusal w e = record { refused = λ is. refl; exported = λ is. refl; kept = λ is. refl }

-- whatever it is answered
stays : (w : World) (r : Reply) → LeavesAsItWas w (Ok (r, w))
stays w r = record { refused = λ is. refl; exported = λ is. refl; kept = λ is. refl }

-- another reply than these
of_others : (w u : World) (r : Reply) → is_refused r ≡ false → is_exported r ≡ false → is_kept_text r ≡ false → LeavesAsItWas w (Ok (r, u))
of_others w u r a b c = record { refused = λ is. absurd (cc); exported = λ is. absurd (cc); kept = λ is. absurd (cc) }

after_bind : (w : World) {A : Type 0} (r : Result A Refusal) (f : A → Result Outcome Refusal) → ((x : A) → LeavesAsItWas w (f x)) → LeavesAsItWas w (r >>= f)
after_bind w (Ok x) f h = h x
after_bind w (Err e) f h = by_refusal w e

module _ (w : World) where
  batch_leaves : (b : Batch) → LeavesAsItWas w (on_batch w b)
  batch_leaves b =
      after_bind w (holds_or (nat_le b.agent w.agents) NoAgent) _ (λ u.
      after_bind w (holds_or (b.seq == next_seq w.journals b.agent) (WrongSeq (next_seq w.journals b.agent))) _ (λ u.
      after_bind w (unless_broken (first_broken w.sheet (put w.journals b) (placed b))) _ (λ u.
      after_bind w (next_packet w) _ (λ k. of_others w _ _ refl refl refl))))

  journal_leaves : (offer : Offer) → LeavesAsItWas w (on_journal w offer)
  journal_leaves (Good text) = after_bind w (or_bad_batch (batch_in text)) (on_batch w) batch_leaves
  journal_leaves (Bad fault) = by_refusal w _

  handled_leaves : (i : ℕ) (x : Handled) → LeavesAsItWas w (after_delivery w i x)
  handled_leaves i x = by_sends x.sends
    where
      by_sends : (o : Option Packet) → LeavesAsItWas w (elim o [ None ↦ Ok (Delivered None x.learns, with_node_at i x.node w) | Some p ↦ next_packet w >>= λ k. Ok (Delivered (Some k) x.learns, with_packet p (with_node_at i x.node w)) ])
      by_sends None = of_others w _ _ refl refl refl
      by_sends (Some q) = after_bind w (next_packet w) _ (λ k. of_others w _ _ refl refl refl)

  delivery_leaves : (k i : ℕ) → LeavesAsItWas w (on_delivery w k i)
  delivery_leaves k i =
      after_bind w (ok_or (slice_get w.packets k) NoPacket) _ (λ q.
      after_bind w (ok_or (slice_get w.nodes i) NoNode) _ (λ n. handled_leaves i (handled w i n q)))

  start_leaves : (i : ℕ) → LeavesAsItWas w (on_start w i)
  start_leaves i =
      after_bind w (ok_or (slice_get w.nodes i) NoNode) _ (λ n.
      after_bind w (holds_or (votes w i) Observer) _ (λ u.
      after_bind w (holds_or (nat_lt (current_period n) 1_200) AllClosed) _ (λ u.
      after_bind w (holds_or (nat_lt n.kept.round 10_000) NoBallot) _ (λ u.
      after_bind w (next_packet w) _ (λ k. of_others w _ _ refl refl refl)))))

  restart_leaves : (i : ℕ) → LeavesAsItWas w (on_restart w i)
  restart_leaves i = after_bind w (ok_or (slice_get w.nodes i) NoNode) _ (λ n. of_others w _ _ refl refl refl)

  export_leaves : (i p : ℕ) → LeavesAsItWas w (on_export w i p)
  export_leaves i p = after_bind w (snapshot w i p) _ (λ s. stays w _)

  keep_leaves : (i : ℕ) → LeavesAsItWas w (on_keep w i)
  keep_leaves i = after_bind w (ok_or (slice_get w.nodes i) NoNode) _ (λ n. stays w _)

  revival_leaves : (i : ℕ) (offer : KeptOffer) → LeavesAsItWas w (on_revival w i offer)
  revival_leaves i offer =
      after_bind w (ok_or (slice_get w.nodes i) NoNode) _ (λ n.
      after_bind w (kept_of offer) _ (λ k.
      after_bind w (holds_or (is_same (kept_text k) (kept_text (kept_now w n))) NotKept) _ (λ u. of_others w _ _ refl refl refl)))

outcome_leaves : (w : World) (e : Event) → LeavesAsItWas w (outcome_of w e)
outcome_leaves w (Journal offer) = journal_leaves w offer
outcome_leaves w (Deliver k i) = delivery_leaves w k i
outcome_leaves w (Start i) = start_leaves w i
outcome_leaves w (Restart i) = restart_leaves w i
outcome_leaves w (Export i p) = export_leaves w i p
outcome_leaves w (Keep i) = keep_leaves w i
outcome_leaves w (Revive i offer) = revival_leaves w i offer

-- the same of a call that answers and changes as a step does
module _ {R E : Type 0} (meaning : R → Reply) (w u : World) (e : Event) where
  pub unchanged : (result : Result R E) → IfOk result (λ r. (meaning r, u) ≡ step w e) → IfOk result (λ r. IsUnchangedAt (meaning r) w u)
  unchanged (Ok r) done = subst (λ (o : Outcome). IsUnchangedAt o.0 w o.1) (sym done) (outcome_leaves w e)
  unchanged (Err why) done = tt

  -- an offer that is not the text of what the node keeps is refused
  pub if_other : (node : ℕ) (n : Node) (offer : KeptOffer) → e ≡ Revive node offer → slice_get w.nodes node ≡ Some n → (offer ≡ KeptGood (kept_text (kept_now w n)) → ⊥)
      → (result : Result R E) → IfOk result (λ r. (meaning r, u) ≡ step w e) → IfOk result (λ r. (meaning r ≡ Refused (refusal_of_other offer)) × (u ≡ w))
  if_other node n offer is found other (Ok r) done =
      let same = done ∙ ap (step w) is ∙ other_is_refused w node offer n found other in
      (ap (λ (o : Outcome). o.0) same, ap (λ (o : Outcome). o.1) same)
  if_other node n offer is found other (Err why) done = tt
