-- To be revived is to restart: only the text of what a node keeps now is taken, and it is read as that.
use Rattle.std.proofs.Common.{◌≡◌, ℕ, ◌≤◌, Bool, true, false, List, refl, sym, ap, subst, ◌∙◌, arith, Option, Some, None, Result, Ok, Err, ok_or}
use Rattle.std.specs.Prelude.{slice_get}
use Rattle.std.proofs.lemmas.Option.{same_Some}
use Rattle.metering_model.specs.FirstFailure.{◌>>=◌, holds_or}
use Rattle.metering_model.specs.BatchReading.{is_same}
use Rattle.metering_model.specs.Ballot.{Vote}
use Rattle.metering_model.specs.Sheet.{Sheet, Issuer}
use Rattle.metering_model.specs.declared.KeptTextFault.{KeptTextFault}
use Rattle.metering_model.specs.declared.Refusal.{Refusal}
use Rattle.metering_model.specs.declared.Refusal.TheVariants.{NoNode, BadKept, NotKept}
use Rattle.metering_model.specs.World.{World, Node, Event, Restart, Revive, KeptOffer, KeptGood, KeptBad, Restarted, Refused, voter_count, wake, with_node_at, opening_with}
use Rattle.metering_model.specs.KeptText.{KeptAmong, HasText, IsBallotNumber, kept_text, kept_in}
use Rattle.metering_model.specs.Step.{Outcome, or_refused, or_bad_kept, kept_of, kept_now, step, play}
use Rattle.metering_model.proofs.FieldLaws.{same_read}
use Rattle.metering_model.proofs.KeptLaws.{IsWritable, kept_read, kept_written}
use Rattle.group_laws.specs.EveryRun.{IsBallot, MayBeVote, IsNode, KeepsLimits}
use Rattle.group_laws.specs.Revivals.{refusal_of_other}
use Rattle.group_laws.proofs.StepCases.{taken_has_text}
use Rattle.group_laws.proofs.Told.{same_itself}
use Rattle.group_laws.proofs.Forms.{HasForms, writable, readable}
use Rattle.group_laws.proofs.EveryRun.{forms}
use Rattle.group_laws.proofs.Limits.{at_entry, keeps_limits}

module _ (w : World) (h : HasForms w) (i : ℕ) where
  -- what is done with what was read
  abbrev with_read : Node → KeptAmong → Result Outcome Refusal
  with_read n k = holds_or (is_same (kept_text k) (kept_text (kept_now w n))) NotKept >>= λ u. Ok (Restarted, with_node_at i (wake k.kept) w)

  by_read : (n : Node) (r : Result KeptAmong Refusal) → slice_get w.nodes i ≡ Some n → ((k : KeptAmong) → r ≡ Ok k → HasText k) →
      (or_refused w (r >>= with_read n)).0 ≡ Restarted → or_refused w (r >>= with_read n) ≡ (Restarted, with_node_at i (wake n.kept) w)
  by_read n (Err e) found has is = absurd (cc)
  by_read n (Ok k) found has is = by_test (is_same (kept_text k) (kept_text (kept_now w n))) refl is
    where
      by_test : (b : Bool) → is_same (kept_text k) (kept_text (kept_now w n)) ≡ b → (or_refused w (holds_or b NotKept >>= λ u. Ok (Restarted, with_node_at i (wake k.kept) w))).0 ≡ Restarted →
          or_refused w (holds_or b NotKept >>= λ u. Ok (Restarted, with_node_at i (wake k.kept) w)) ≡ (Restarted, with_node_at i (wake n.kept) w)
      by_test true e is =
          let same : k ≡ kept_now w n = (readable w h).same i n k found (has k refl) (same_read _ _ e) in
          ap (λ (x : KeptAmong). (Restarted, with_node_at i (wake x.kept) w)) same
      by_test false e is = absurd (cc)

  by_node : (offer : KeptOffer) (o : Option Node) → slice_get w.nodes i ≡ o → (or_refused w (ok_or o NoNode >>= λ n. kept_of offer >>= with_read n)).0 ≡ Restarted →
      or_refused w (ok_or o NoNode >>= λ n. kept_of offer >>= with_read n) ≡ or_refused w (ok_or o NoNode >>= λ n. Ok (Restarted, with_node_at i (wake n.kept) w))
  by_node offer None found is = absurd (cc)
  by_node offer (Some n) found is = by_read n (kept_of offer) found (λ k e. taken_has_text offer k e) is

  -- a revival that is answered is a restart
  pub revival_is_restart : (offer : KeptOffer) → (step w (Revive i offer)).0 ≡ Restarted → step w (Revive i offer) ≡ step w (Restart i)
  revival_is_restart offer is = by_node offer (slice_get w.nodes i) refl is

  by_own : (n : Node) (r : Result KeptAmong Refusal) → r ≡ Ok (kept_now w n) → or_refused w (r >>= with_read n) ≡ (Restarted, with_node_at i (wake n.kept) w)
  by_own n r e =
      ap (λ (x : Result KeptAmong Refusal). or_refused w (x >>= with_read n)) e
      ∙ ap (λ b. or_refused w (holds_or b NotKept >>= λ u. Ok (Restarted, with_node_at i (wake n.kept) w))) (same_itself (kept_text (kept_now w n)))

  own_by_node : (n : Node) (o : Option Node) → o ≡ Some n → HasText (kept_now w n) →
      or_refused w (ok_or o NoNode >>= λ m. kept_of (KeptGood (kept_text (kept_now w n))) >>= with_read m) ≡ or_refused w (ok_or o NoNode >>= λ m. Ok (Restarted, with_node_at i (wake m.kept) w))
  own_by_node n o found has =
      ap (λ (o : Option Node). or_refused w (ok_or o NoNode >>= λ m. kept_of (KeptGood (kept_text (kept_now w n))) >>= with_read m)) found
      ∙ by_own n (kept_of (KeptGood (kept_text (kept_now w n)))) (ap or_bad_kept (kept_written (kept_now w n) has))
      ∙ ap (λ (o : Option Node). or_refused w (ok_or o NoNode >>= λ m. Ok (Restarted, with_node_at i (wake m.kept) w))) (sym found)

  -- and the text of what the node keeps is taken
  pub own_text_is_taken : (n : Node) → slice_get w.nodes i ≡ Some n → HasText (kept_now w n) → step w (Revive i (KeptGood (kept_text (kept_now w n)))) ≡ step w (Restart i)
  own_text_is_taken n found has = own_by_node n (slice_get w.nodes i) found has

-- ---- any world, any other text

module _ (w : World) (i : ℕ) (n : Node) where
  -- what the node that was found does with what was taken from an offer
  abbrev by_taken : Result KeptAmong Refusal → Outcome
  by_taken r = or_refused w (r >>= λ k. holds_or (is_same (kept_text k) (kept_text (kept_now w n))) NotKept >>= λ u. Ok (Restarted, with_node_at i (wake k.kept) w))

  -- what was read of a text has that text, so another one does not pass
  by_text : (text : List ℕ) (r : Result KeptAmong KeptTextFault) → kept_in text ≡ r → (text ≡ kept_text (kept_now w n) → ⊥)
      → by_taken (or_bad_kept r) ≡ (Refused (elim r [ Ok k ↦ NotKept | Err fault ↦ BadKept fault ]), w)
  by_text text (Err fault) e other = refl
  by_text text (Ok k) e other = by_test (is_same (kept_text k) (kept_text (kept_now w n))) refl
    where
      by_test : (b : Bool) → is_same (kept_text k) (kept_text (kept_now w n)) ≡ b → or_refused w (holds_or b NotKept >>= λ u. Ok (Restarted, with_node_at i (wake k.kept) w)) ≡ (Refused NotKept, w)
      by_test false t = refl
      by_test true t = absurd (other ((kept_read text k e).joined ∙ same_read _ _ t))

  by_offer : (offer : KeptOffer) → (offer ≡ KeptGood (kept_text (kept_now w n)) → ⊥) → by_taken (kept_of offer) ≡ (Refused (refusal_of_other offer), w)
  by_offer (KeptGood text) other = by_text text (kept_in text) refl (λ same. other (ap (λ t. KeptGood t) same))
  by_offer (KeptBad fault) other = refl

pub other_is_refused : (w : World) (i : ℕ) (offer : KeptOffer) (n : Node) → slice_get w.nodes i ≡ Some n → (offer ≡ KeptGood (kept_text (kept_now w n)) → ⊥)
    → step w (Revive i offer) ≡ (Refused (refusal_of_other offer), w)
other_is_refused w i offer n found other =
    ap (λ (o : Option Node). or_refused w (ok_or o NoNode >>= λ m. kept_of offer >>= λ k. holds_or (is_same (kept_text k) (kept_text (kept_now w m))) NotKept >>= λ u. Ok (Restarted, with_node_at i (wake k.kept) w))) found
    ∙ by_offer w i n offer other

-- ---- after a run

ballot_number : (voters ballot : ℕ) → voters ≤ 99 → IsBallot voters ballot → 1 ≤ ballot → IsBallotNumber ballot
ballot_number voters ballot few is some = let low = is.low in (some, omega (arith, low, few))

module _ (room voters observers agents : ℕ) (sheet : Sheet) (issuer : Issuer) (events : List Event) where
  pub each_has_text : voters ≤ 99 → 1 ≤ agents → agents ≤ 64 → (i : ℕ) (n : Node) → slice_get (play (opening_with room voters observers agents sheet issuer) events).1.nodes i ≡ Some n →
      HasText (kept_now (play (opening_with room voters observers agents sheet issuer) events).1 n)
  each_has_text few some most i n found = record {
    agents = (subst (λ a. 1 ≤ a) (sym limits.agents_kept) some, subst (λ a. a ≤ 64) (sym limits.agents_kept) most);
    round = is.round;
    periods = is.periods;
    learned = form.learned;
    promised = λ ballot e. ballot_number voters ballot few (subst (λ N. IsBallot N ballot) limits.voters_kept (is.promised ballot e)) (form.promised ballot e);
    vote = λ v e. let kept = form.vote v e in (ballot_number voters v.ballot few (subst (λ N. IsBallot N v.ballot) limits.voters_kept (vote_ballot v e)) kept.0, kept.1);
    is_holding = form.is_holding;
    in_range = form.in_range;
  }
    where
      limits : KeepsLimits room voters observers agents (play (opening_with room voters observers agents sheet issuer) events).1
      limits = keeps_limits room voters observers agents sheet issuer events

      is : IsNode (voter_count (play (opening_with room voters observers agents sheet issuer) events).1) (play (opening_with room voters observers agents sheet issuer) events).1.agents (play (opening_with room voters observers agents sheet issuer) events).1.journals n
      is = at_entry (IsNode (voter_count (play (opening_with room voters observers agents sheet issuer) events).1)
          (play (opening_with room voters observers agents sheet issuer) events).1.agents (play (opening_with room voters observers agents sheet issuer) events).1.journals)
          (play (opening_with room voters observers agents sheet issuer) events).1.nodes i n limits.each_node found

      form : IsWritable (kept_now (play (opening_with room voters observers agents sheet issuer) events).1 n)
      form = writable (play (opening_with room voters observers agents sheet issuer) events).1 n ((forms room voters observers agents sheet issuer events).nodes i n found)

      ballot_of_vote : (o : Option Vote) (v : Vote)
          → MayBeVote (voter_count (play (opening_with room voters observers agents sheet issuer) events).1)
          (play (opening_with room voters observers agents sheet issuer) events).1.agents (play (opening_with room voters observers agents sheet issuer) events).1.journals o
          → o ≡ Some v → IsBallot (voter_count (play (opening_with room voters observers agents sheet issuer) events).1) v.ballot
      ballot_of_vote None v may e = absurd (cc)
      ballot_of_vote (Some u) v may e = subst (λ (x : Vote). IsBallot (voter_count (play (opening_with room voters observers agents sheet issuer) events).1) x.ballot) (same_Some u v e) may.ballot

      vote_ballot : (v : Vote) → n.kept.acceptor.vote ≡ Some v → IsBallot (voter_count (play (opening_with room voters observers agents sheet issuer) events).1) v.ballot
      vote_ballot v e = ballot_of_vote n.kept.acceptor.vote v is.vote e
