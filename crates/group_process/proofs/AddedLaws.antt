-- What taking a packet adds to what a node keeps, by the packet and by what the node then does.
use Rattle.std.proofs.Common.{◌≡◌, ℕ, ◌-◌, ◌≤◌, Bool, true, false, leb, eqb, List, [], ◌∷◌, ◌++◌, ◌&&◌, length, Option, Some, None, refl, sym, ap, ap₂, subst, ◌∙◌, arith}
use Rattle.std.specs.Prelude.{◌||◌, slice_get, not, unwrap_or, if◌then◌else◌}
use Rattle.std.specs.Option.{is_some, option_map}
use Rattle.std.proofs.lemmas.Bool.{and_from, and_parts, cond_both, eqb-true, eq-eqb, le-leb, leb-true, ltb-true, or_left, or_right}
use Rattle.std.proofs.lemmas.List.{length-append}
use Rattle.std.proofs.lemmas.Option.{same_Some}
use Rattle.metering_model.specs.Dates.{IsPeriod}
use Rattle.metering_model.specs.Batch.{Batch, IsWellFormed}
use Rattle.metering_model.specs.BatchReading.{is_same}
use Rattle.metering_model.specs.Cut.{Cut}
use Rattle.metering_model.specs.Holding.{IsHolding, held, put}
use Rattle.metering_model.specs.Ballot.{Acceptor, Attempt, Vote, after_accept, after_prepare, has_majority, accepting_at, is_above, is_not_below, with_accepted, with_promise}
use Rattle.metering_model.specs.World.{World, Node, Packet, CarriesBatch, Prepare, Promise, Accept, Accepted, Decided, current_period, voter_count, votes}
use Rattle.metering_model.specs.Deliveries.{Handled, after_promise, handled, if_votes, learning, on_accept, on_prepare, on_promise, proposal, sending, silent, unless_learned}
use Rattle.metering_model.specs.Step.{kept_now}
use Rattle.metering_model.specs.KeptText.{IsBallotNumber, IsCutAmong, KeptAmong}
use Rattle.metering_model.proofs.FieldLaws.{same_read}
use Rattle.metering_model.proofs.HoldingLaws.{held-put_same, put_held}
use Rattle.node_kept.specs.Kept.{IsKept}
use Rattle.process_laws.specs.LocalSteps.{is_ballot_of, is_cut_of, is_packet_of, is_period}
use Rattle.log_text.specs.LogText.{Increment, Learns, Takes, ballots_go_on, is_promised, is_same_vote, is_vote_at}
use Rattle.group_process.specs.declared.added.Added.{Added}
use Rattle.group_process.specs.declared.added.Added.TheVariants.{Nothing, Round, Ballots, Learned, Batch as TakesBatch}
use Rattle.group_process.specs.Added.{AddsJust, increment_after}
use Rattle.group_process.specs.Inner.Likely.{HasLowParts, HasLowVote, IsLikely, IsLikelyVote, IsLow, added_for, if_batch}
use Rattle.group_process.proofs.PacketLaws.{ballot_number, period_of, voted, voted_from}

-- ---- how promises and votes go on

same_text : (t : List ℕ) → is_same t t ≡ true
same_text [] = refl
same_text (c ∷ cs) = and_from (eqb c c) (is_same cs cs) (eq-eqb c c refl) (same_text cs)

vote_itself : (v : Option Vote) → is_same_vote v v ≡ true
vote_itself None = refl
vote_itself (Some v) = and_from (eqb v.ballot v.ballot) (is_same v.cut v.cut) (eq-eqb v.ballot v.ballot refl) (same_text v.cut)

same_vote : (v w : Option Vote) → is_same_vote v w ≡ true → v ≡ w
same_vote None None e = refl
same_vote None (Some w) e = absurd (cc)
same_vote (Some v) None e = absurd (cc)
same_vote (Some v) (Some w) e =
    let parts = and_parts (eqb v.ballot w.ballot) (is_same v.cut w.cut) e in
    ap₂ (λ b c. Some (record { ballot = b; cut = c })) (eqb-true v.ballot w.ballot parts.0) (same_read v.cut w.cut parts.1)

promised_is : (ballot : ℕ) (o : Option ℕ) → is_promised ballot o ≡ true → o ≡ Some ballot
promised_is ballot None e = absurd (cc)
promised_is ballot (Some p) e = ap Some (sym (eqb-true ballot p e))

above_not_below : (ballot : ℕ) (o : Option ℕ) → is_above ballot o ≡ true → is_not_below ballot o ≡ true
above_not_below ballot None e = refl
above_not_below ballot (Some p) e = le-leb p ballot (omega (arith, ltb-true p ballot e))

above_not_promised : (ballot : ℕ) (o : Option ℕ) → is_above ballot o ≡ true → is_promised ballot o ≡ true → ⊥
above_not_promised ballot None e same = absurd (cc)
above_not_promised ballot (Some p) e same = let eq = eqb-true ballot p same in omega (arith, ltb-true p ballot e, eq)

-- a promise above the one before
promise_goes_on : (ballot : ℕ) (a : Acceptor) → is_above ballot a.promised ≡ true → ballots_go_on a (after_prepare ballot a) ≡ true
promise_goes_on ballot a above =
    and_from (is_not_below ballot a.promised && (is_same_vote a.vote a.vote || is_vote_at ballot a.vote)) _
    (and_from (is_not_below ballot a.promised) _ (above_not_below ballot a.promised above) (or_left (is_same_vote a.vote a.vote) (is_vote_at ballot a.vote) (vote_itself a.vote)))
    (by_promised (is_promised ballot a.promised) refl)
  where
    by_promised : (t : Bool) → is_promised ballot a.promised ≡ t → not (is_promised ballot a.promised && is_same_vote a.vote a.vote) ≡ true
    by_promised true e = absurd (above_not_promised ballot a.promised above e)
    by_promised false e = ap (λ t. not (t && is_same_vote a.vote a.vote)) e

-- a vote that changes the acceptor, at the ballot that it promises
vote_goes_on : (v : Vote) (a : Acceptor) → is_not_below v.ballot a.promised ≡ true → (a ≡ after_accept v a → ⊥) → ballots_go_on a (after_accept v a) ≡ true
vote_goes_on v a room new =
    and_from (is_not_below v.ballot a.promised && (is_same_vote a.vote (Some v) || eqb v.ballot v.ballot)) _
    (and_from (is_not_below v.ballot a.promised) _ room (or_right (is_same_vote a.vote (Some v)) (eqb v.ballot v.ballot) (eq-eqb v.ballot v.ballot refl)))
    (by_old (is_promised v.ballot a.promised && is_same_vote a.vote (Some v)) refl)
  where
    by_old : (t : Bool) → (is_promised v.ballot a.promised && is_same_vote a.vote (Some v)) ≡ t → not (is_promised v.ballot a.promised && is_same_vote a.vote (Some v)) ≡ true
    by_old true e =
        let parts = and_parts (is_promised v.ballot a.promised) (is_same_vote a.vote (Some v)) e in
        absurd (new (ap₂ (λ p o. record { promised = p; vote = o }) (promised_is v.ballot a.promised parts.0) (same_vote a.vote (Some v) parts.1)))
    by_old false e = ap not e

-- ---- the cut that was learned last

at_end : (xs : List Cut) (c : Cut) → slice_get (xs ++ c ∷ []) (length xs) ≡ Some c
at_end [] c = refl
at_end (x ∷ xs) c = at_end xs c

last_learned : (xs : List Cut) (c : Cut) → option_map (Learns (length (xs ++ c ∷ []) - 1)) (slice_get (xs ++ c ∷ []) (length (xs ++ c ∷ []) - 1)) ≡ Some (Learns (length xs) c)
last_learned xs c =
    let place : length (xs ++ c ∷ []) - 1 ≡ length xs = omega (arith, length-append xs (c ∷ [])) in
    ap (λ k. option_map (Learns k) (slice_get (xs ++ c ∷ []) k)) place ∙ ap (option_map (Learns (length xs))) (at_end xs c)

-- ---- one packet

-- What is said to be added is, and has lines, or is nothing.
abbrev pub IsJust : Added → (before after : KeptAmong) → Type 0
IsJust x before after = AddsJust before after (increment_after x after) × (increment_after x after ≡ None → x ≡ Nothing)

-- nothing is
stayed : {before after : KeptAmong} → after ≡ before → IsJust Nothing before after
stayed e = (e, λ _. refl)

module _ (w : World) (i : ℕ) (n : Node) (holding : IsHolding n.kept.holding) (kept : IsKept (kept_now w n)) (low : HasLowVote n.kept.acceptor) where
  abbrev Just : Added → Handled → Type 0
  Just x h = IsJust (added_for x h.sends h.learns) (kept_now w n) (kept_now w h.node)

  abbrev Likely : Packet → Added → Type 0
  Likely p x = IsLikely n p x

  taken : (b : Batch) (x : Added) → IsWellFormed b → b.agent ≤ w.agents → Likely (CarriesBatch b) x → Just x (handled w i n (CarriesBatch b))
  taken b x form agent is = subst (λ y. Just y (handled w i n (CarriesBatch b))) (sym is) (by_held (held n.kept.holding b.agent b.seq) refl)
    where
      by_held : (o : Option Batch) → held n.kept.holding b.agent b.seq ≡ o → Just (if is_some o then Nothing else TakesBatch b.agent b.seq) (handled w i n (CarriesBatch b))
      by_held (Some c) e = stayed (ap (λ hold. record { agents = w.agents; kept = record n.kept { holding = hold } }) (put_held n.kept.holding b c holding e))
      by_held None e =
          let there : held (put n.kept.holding b) b.agent b.seq ≡ Some b = held-put_same n.kept.holding b holding ∙ ap (λ o. Some (unwrap_or o b)) e in
          subst (λ o. AddsJust (kept_now w n) (kept_now w (handled w i n (CarriesBatch b)).node) (option_map Takes o) × (option_map Takes o ≡ None → TakesBatch b.agent b.seq ≡ Nothing)) (sym there) (
            (form, and_from (leb b.agent w.agents) _ (le-leb _ _ agent) (ap (λ o. not (is_some o)) e), refl),
            λ none. absurd (cc),
          )

  unless : (period : ℕ) (x : Added) (h : Handled) → Just x h → Just x (unless_learned period n h)
  unless period x h a = by_cut (slice_get n.kept.learned period)
    where
      by_cut : (o : Option Cut) → Just x (elim o [ Some cut ↦ sending (Decided period cut) n | None ↦ h ])
      by_cut (Some cut) = stayed refl
      by_cut None = a

  stays : (x : Added) → if_batch x ≡ Nothing → Just x (silent n)
  stays x e = subst (λ y. IsJust y (kept_now w n) (kept_now w n)) (sym e) (stayed refl)

  voting : (x : Added) (h : Handled) → if_batch x ≡ Nothing → Just x h → Just x (if_votes w i n h)
  voting x h e a = cond_both (votes w i) h (silent n) (Just x) (λ _. a) (λ _. stays x e)

  -- the vote has a text
  vote_text : (v : Vote) → n.kept.acceptor.vote ≡ Some v → IsBallotNumber v.ballot × IsCutAmong w.agents v.cut
  vote_text v e = let is = kept.vote v e in (is.0, record { size = is.1; low = low v e })

  now_period : (period : ℕ) → IsPeriod period → eqb period (current_period n) ≡ true → IsPeriod (current_period n)
  now_period period within now = subst IsPeriod (eqb-true period (current_period n) now) within

  prepared : (period ballot : ℕ) → IsPeriod period → IsBallotNumber ballot → Just Ballots (on_prepare i n period ballot)
  prepared period ballot within number =
      cond_both (eqb period (current_period n) && is_above ballot n.kept.acceptor.promised) _ (silent n) (Just Ballots)
      (λ both. let parts = and_parts (eqb period (current_period n)) (is_above ballot n.kept.acceptor.promised) both in (
        (
          (now_period period within parts.0, λ b e. subst IsBallotNumber (same_Some ballot b e) number, vote_text),
          and_from (eqb (current_period n) (current_period n)) _ (eq-eqb (current_period n) (current_period n) refl) (promise_goes_on ballot n.kept.acceptor parts.1),
          refl,
        ),
        λ none. absurd (cc),
      ))
      (λ _. stayed refl)

  promised : (from period ballot : ℕ) (vote : Option Vote) → Just Nothing (on_promise w n from period ballot vote)
  promised from period ballot vote = by_attempt n.attempt
    where
      after : (a : Attempt) → Just Nothing (after_promise w n period ballot a)
      after a =
          cond_both (has_majority (voter_count w) a.promising) (sending (Accept period ballot (proposal w n a.told)) (record n { attempt = Some (record a { sent = true }) })) (silent (record n { attempt = Some a })) (Just Nothing)
          (λ _. stayed refl) (λ _. stayed refl)

      by_attempt : (o : Option Attempt) → Just Nothing (elim o [
        | None ↦ silent n
        | Some a ↦ if (eqb period (current_period n)) && (eqb a.ballot ballot) && not a.sent then after_promise w n period ballot (with_promise from vote a) else silent n
      ])
      by_attempt None = stayed refl
      by_attempt (Some a) =
          cond_both (eqb period (current_period n) && eqb a.ballot ballot && not a.sent) (after_promise w n period ballot (with_promise from vote a)) (silent n) (Just Nothing)
          (λ _. after (with_promise from vote a)) (λ _. stayed refl)

  abbrev vote_at : ℕ → Cut → Vote
  vote_at ballot cut = record { ballot = ballot; cut = cut }

  accepts : (period ballot : ℕ) (cut : Cut) (x : Added) → IsPeriod period → IsBallotNumber ballot → IsCutAmong w.agents cut → IsLikelyVote n.kept.acceptor (vote_at ballot cut) x → Just x (on_accept i n period ballot cut)
  accepts period ballot cut Nothing within number among same =
      cond_both (eqb period (current_period n) && is_not_below ballot n.kept.acceptor.promised) _ (silent n) (Just Nothing)
      (λ _. stayed (ap (λ a. record { agents = w.agents; kept = record n.kept { acceptor = a } }) (sym same))) (λ _. stayed refl)
  accepts period ballot cut Round within number among same = absurd same
  accepts period ballot cut Ballots within number among new =
      cond_both (eqb period (current_period n) && is_not_below ballot n.kept.acceptor.promised) _ (silent n) (Just Ballots)
      (λ both. let parts = and_parts (eqb period (current_period n)) (is_not_below ballot n.kept.acceptor.promised) both in (
        (
          (
            now_period period within parts.0,
            λ b e. subst IsBallotNumber (same_Some ballot b e) number,
            λ v e. subst (λ v. IsBallotNumber v.ballot × IsCutAmong w.agents v.cut) (same_Some (vote_at ballot cut) v e) (number, among),
          ),
          and_from (eqb (current_period n) (current_period n)) _ (eq-eqb (current_period n) (current_period n) refl) (vote_goes_on (vote_at ballot cut) n.kept.acceptor parts.1 new),
          refl,
        ),
        λ none. absurd (cc),
      ))
      (λ _. stayed refl)
  accepts period ballot cut Learned within number among same = absurd same
  accepts period ballot cut (TakesBatch agent seq) within number among same = absurd same

  accept_stays : (ballot : ℕ) (cut : Cut) (x : Added) → IsLikelyVote n.kept.acceptor (vote_at ballot cut) x → if_batch x ≡ Nothing
  accept_stays ballot cut Nothing is = refl
  accept_stays ballot cut Round is = absurd is
  accept_stays ballot cut Ballots is = refl
  accept_stays ballot cut Learned is = absurd is
  accept_stays ballot cut (TakesBatch agent seq) is = absurd is

  learns : (x : Added) (period : ℕ) (cut : Cut) → IsPeriod period → IsCutAmong w.agents cut → eqb period (current_period n) ≡ true → Just x (learning cut n)
  learns x period cut within among now =
      subst (λ (o : Option Increment). AddsJust (kept_now w n) (kept_now w (learning cut n).node) o × (o ≡ None → Learned ≡ Nothing)) (sym (last_learned n.kept.learned cut)) (
        ((now_period period within now, among), eq-eqb (current_period n) (current_period n) refl, refl),
        λ none. absurd (cc),
      )

  accepted : (from period ballot : ℕ) (cut : Cut) → IsPeriod period → IsCutAmong w.agents cut → Just Nothing (handled w i n (Accepted from period ballot cut))
  accepted from period ballot cut within among =
      cond_both (eqb period (current_period n)) _ (silent n) (Just Nothing)
      (λ now. cond_both (has_majority (voter_count w) (accepting_at (voter_count w) ballot (with_accepted (voter_count w) from ballot n.tally))) _ _ (Just Nothing)
      (λ _. learns Nothing period cut within among now) (λ _. stayed refl))
      (λ _. stayed refl)

  decided : (period : ℕ) (cut : Cut) → IsPeriod period → IsCutAmong w.agents cut → Just Nothing (handled w i n (Decided period cut))
  decided period cut within among = cond_both (eqb period (current_period n)) _ (silent n) (Just Nothing) (learns Nothing period cut within among) (λ _. stayed refl)

  among_of : (cut : Cut) → length cut ≡ w.agents → IsLow cut → IsCutAmong w.agents cut
  among_of cut size low = record { size = size; low = low }

  pub adds_what_is_told : (voters : ℕ) (p : Packet) (x : Added) → 1 ≤ voters → voters ≤ 99 → is_packet_of voters w.agents p ≡ true → HasLowParts p → Likely p x → Just x (handled w i n p)
  adds_what_is_told voters (CarriesBatch b) x some few is parts likely = taken b x parts (leb-true b.agent w.agents is) likely
  adds_what_is_told voters (Prepare period ballot) x some few is parts likely =
      let both = and_parts (is_period period) (is_ballot_of voters ballot) is in
      subst (λ y. Just y (handled w i n (Prepare period ballot))) (sym likely)
      (unless period Ballots (if_votes w i n (on_prepare i n period ballot)) (voting Ballots (on_prepare i n period ballot) refl (prepared period ballot (period_of period both.0) (ballot_number voters ballot some few both.1))))
  adds_what_is_told voters (Promise from period ballot vote) x some few is parts likely =
      subst (λ y. Just y (handled w i n (Promise from period ballot vote))) (sym likely) (voting Nothing (on_promise w n from period ballot vote) refl (promised from period ballot vote))
  adds_what_is_told voters (Accept period ballot cut) x some few is parts likely =
      let both = voted voters w.agents period ballot cut is in
      unless period x (if_votes w i n (on_accept i n period ballot cut))
      (voting x (on_accept i n period ballot cut) (accept_stays ballot cut x likely) (accepts period ballot cut x (period_of period both.0) (ballot_number voters ballot some few both.1) (among_of cut both.2 parts) likely))
  adds_what_is_told voters (Accepted from period ballot cut) x some few is parts likely =
      let both = voted_from voters w.agents from period ballot cut is in
      subst (λ y. Just y (handled w i n (Accepted from period ballot cut))) (sym likely) (accepted from period ballot cut (period_of period both.1) (among_of cut both.3 parts))
  adds_what_is_told voters (Decided period cut) x some few is parts likely =
      let both = and_parts (is_period period) (is_cut_of w.agents cut) is in
      subst (λ y. Just y (handled w i n (Decided period cut))) (sym likely) (decided period cut (period_of period both.0) (among_of cut (eqb-true (length cut) w.agents both.1) parts))

-- ---- what the code tells

-- what was learned is told before all else
pub learned_first : (x : Added) (sends : Option Packet) (learns : Option ℕ) → true ≡ is_some learns → Learned ≡ added_for x sends learns
learned_first x sends None e = absurd (cc)
learned_first x sends (Some period) e = refl

-- the line of the cut that was learned last
pub learned_told : (cuts : List Cut) (periods : ℕ) (cut : Cut) → periods ≡ length cuts → Some cut ≡ slice_get cuts (periods - 1) → Some (Learns (periods - 1) cut) ≡ option_map (Learns (length cuts - 1)) (slice_get cuts (length cuts - 1))
learned_told cuts periods cut all last = subst (λ n. Some (Learns (periods - 1) cut) ≡ option_map (Learns (n - 1)) (slice_get cuts (n - 1))) all (ap (option_map (Learns (periods - 1))) last)
