-- A step of a node adds at most one increment to its log.
use Rattle.std.proofs.Common.{◌≡◌, ℕ, zero, suc, ◌+◌, ◌<◌, ◌≤◌, true, false, leb, eqb, List, [], ◌∷◌, ◌++◌, ◌&&◌, length, All, Option, Some, None, Ok, refl, sym, ap, ap₂, subst, ◌∙◌, arith}
use Rattle.std.specs.Prelude.{◌||◌, Bool, IsTrue, slice_get, not, unwrap_or, if◌then◌else◌}
use Rattle.std.specs.Option.{is_some}
use Rattle.std.proofs.lemmas.Bool.{and_from, and_parts, cond_both, eqb-true, eq-eqb, le-leb, ltb-true, or_left, or_right}
use Rattle.std.proofs.lemmas.List.{length-append}
use Rattle.std.proofs.lemmas.List.Elements.{All-head, All-tail}
use Rattle.std.proofs.lemmas.Option.{none-some, same_Some}
use Rattle.metering_model.specs.Limits.{most_periods, most_rounds}
use Rattle.metering_model.specs.Dates.{IsPeriod}
use Rattle.metering_model.specs.Batch.{Batch, IsWellFormed}
use Rattle.metering_model.specs.BatchReading.{is_same}
use Rattle.metering_model.specs.Cut.{Cut}
use Rattle.metering_model.specs.Sheet.{Sheet, Issuer}
use Rattle.metering_model.specs.Holding.{Holding, held, put}
use Rattle.metering_model.specs.Ballot.{Acceptor, Attempt, Vote, after_accept, after_prepare, has_majority, accepting_at, is_above, is_not_below, with_accepted, with_promise}
use Rattle.metering_model.specs.World.{World, Node, Packet, CarriesBatch, Prepare, Promise, Accept, Accepted, Decided, Event, opening_with, voter_count, votes, current_period, with_kept}
use Rattle.metering_model.specs.Deliveries.{Handled, after_promise, handled, if_votes, learning, on_accept, on_prepare, on_promise, sending, silent, unless_learned, with_acceptor}
use Rattle.metering_model.specs.Step.{kept_now, play}
use Rattle.metering_model.specs.KeptText.{HasText, IsBallotNumber, IsCutAmong, KeptAmong}
use Rattle.metering_model.proofs.FieldLaws.{same_read}
use Rattle.metering_model.proofs.HoldingLaws.{held-put_same, put_held}
use Rattle.group_laws.specs.EveryRun.{IsPacket, MayBeVote}
use Rattle.group_laws.proofs.Limits.{keeps_limits}
use Rattle.group_laws.proofs.Revivals.{each_has_text}
use Rattle.packet_text.specs.PacketText.{IsSent, IsSentCut}
use Rattle.packet_text.proofs.SentByRuns.{run_sent}
use Rattle.log_text.specs.LogText.{BeginsRound, GoOn, HasIncrementText, HasLog, Increment, Learns, LogHead, SetsBallots, Takes, among_with, ballots_go_on, goes_on, is_promised, is_same_vote, is_vote_at, kept_after, kept_at_first}
use Rattle.log_text.specs.Steps.{AddsAtMostOne, Begins, Gets, GoesOnTo, IsOfAgents, IsVoteOfAgents, MayBe, NodeStep, node_after}
use Rattle.log_text.proofs.KeptFirst.{after_has_text, log_has_text}
use Rattle.log_text.proofs.LogLaws.{log_written}

-- ---- how promises and votes go on

same_text : (t : List ℕ) → is_same t t ≡ true
same_text [] = refl
same_text (c ∷ cs) = and_from (eqb c c) (is_same cs cs) (eq-eqb c c refl) (same_text cs)

same_vote : (v w : Option Vote) → is_same_vote v w ≡ true → v ≡ w
same_vote None None e = refl
same_vote None (Some w) e = absurd (cc)
same_vote (Some v) None e = absurd (cc)
same_vote (Some v) (Some w) e =
    let parts = and_parts (eqb v.ballot w.ballot) (is_same v.cut w.cut) e in
    ap₂ (λ b c. Some (record { ballot = b; cut = c })) (eqb-true v.ballot w.ballot parts.0) (same_read v.cut w.cut parts.1)

vote_itself : (v : Option Vote) → is_same_vote v v ≡ true
vote_itself None = refl
vote_itself (Some v) = and_from (eqb v.ballot v.ballot) (is_same v.cut v.cut) (eq-eqb v.ballot v.ballot refl) (same_text v.cut)

promised_is : (ballot : ℕ) (o : Option ℕ) → is_promised ballot o ≡ true → o ≡ Some ballot
promised_is ballot None e = absurd (cc)
promised_is ballot (Some p) e = ap Some (sym (eqb-true ballot p e))

above_not_below : (ballot : ℕ) (o : Option ℕ) → is_above ballot o ≡ true → is_not_below ballot o ≡ true
above_not_below ballot None e = refl
above_not_below ballot (Some p) e = le-leb p ballot (omega (arith, ltb-true p ballot e))

above_not_promised : (ballot : ℕ) (o : Option ℕ) → is_above ballot o ≡ true → o ≡ Some ballot → ⊥
above_not_promised ballot None e same = none-some ballot same
above_not_promised ballot (Some p) e same = let eq = same_Some p ballot same in omega (arith, ltb-true p ballot e, eq)

-- a promise above the one before
promise_goes_on : (ballot : ℕ) (a : Acceptor) → is_above ballot a.promised ≡ true → ballots_go_on a (after_prepare ballot a) ≡ true
promise_goes_on ballot a above =
    and_from (is_not_below ballot a.promised && (is_same_vote a.vote a.vote || is_vote_at ballot a.vote)) _
    (and_from (is_not_below ballot a.promised) _ (above_not_below ballot a.promised above) (or_left (is_same_vote a.vote a.vote) (is_vote_at ballot a.vote) (vote_itself a.vote)))
    (by_promised (is_promised ballot a.promised) refl)
  where
    by_promised : (t : Bool) → is_promised ballot a.promised ≡ t → not (is_promised ballot a.promised && is_same_vote a.vote a.vote) ≡ true
    by_promised true e = absurd (above_not_promised ballot a.promised above (promised_is ballot a.promised e))
    by_promised false e = ap (λ t. not (t && is_same_vote a.vote a.vote)) e

-- a vote at the ballot that it promises, where both were not there before
vote_goes_on : (v : Vote) (a : Acceptor) → is_not_below v.ballot a.promised ≡ true → is_promised v.ballot a.promised && is_same_vote a.vote (Some v) ≡ false → ballots_go_on a (after_accept v a) ≡ true
vote_goes_on v a room new =
    and_from (is_not_below v.ballot a.promised && (is_same_vote a.vote (Some v) || eqb v.ballot v.ballot)) _
    (and_from (is_not_below v.ballot a.promised) _ room (or_right (is_same_vote a.vote (Some v)) (eqb v.ballot v.ballot) (eq-eqb v.ballot v.ballot refl)))
    (ap not new)

-- what was promised and voted before leaves both as they are
accepted_before : (v : Vote) (a : Acceptor) → is_promised v.ballot a.promised && is_same_vote a.vote (Some v) ≡ true → after_accept v a ≡ a
accepted_before v a e =
    let parts = and_parts (is_promised v.ballot a.promised) (is_same_vote a.vote (Some v)) e in
    ap₂ (λ p o. record { promised = p; vote = o }) (sym (promised_is v.ballot a.promised parts.0)) (sym (same_vote a.vote (Some v) parts.1))

accepted_again : (v : Vote) (a : Acceptor) → a ≡ after_accept v a → is_promised v.ballot a.promised && is_same_vote a.vote (Some v) ≡ true
accepted_again v a same =
    subst (λ x. is_promised v.ballot x.promised && is_same_vote x.vote (Some v) ≡ true) (sym same)
    (and_from (eqb v.ballot v.ballot) (is_same_vote (Some v) (Some v)) (eq-eqb v.ballot v.ballot refl) (vote_itself (Some v)))

-- ---- one step

module _ (w : World) (i : ℕ) (n : Node) (h : HasText (kept_now w n)) where
  abbrev Adds : Node → Type 0
  Adds m = AddsAtMostOne (kept_now w n) (kept_now w m)

  abbrev AddsTo : Handled → Type 0
  AddsTo x = Adds x.node

  nothing : (m : Node) → m.kept ≡ n.kept → Adds m
  nothing m e = record { increments = []; few = omega arith; idle = λ same. refl; go_on = tt; kept = ap (λ k. record { agents = w.agents; kept = k }) (sym e) }

  -- what is kept does not stay
  abbrev IsNew : Node → Type 0
  IsNew m = kept_now w m ≡ kept_now w n → ⊥

  one : (x : Increment) (m : Node) → HasIncrementText w.agents x → IsTrue (goes_on x (kept_now w n)) → IsNew m → among_with x (kept_now w n) ≡ kept_now w m → Adds m
  one x m text goes new e = record { increments = x ∷ []; few = omega arith; idle = λ same. absurd (new same); go_on = (text, goes, tt); kept = e }

  unless : (period : ℕ) (x : Handled) → AddsTo x → AddsTo (unless_learned period n x)
  unless period x a = by_cut (slice_get n.kept.learned period)
    where
      by_cut : (o : Option Cut) → AddsTo (elim o [ Some cut ↦ sending (Decided period cut) n | None ↦ x ])
      by_cut (Some cut) = nothing n refl
      by_cut None = a

  voting : (x : Handled) → AddsTo x → AddsTo (if_votes w i n x)
  voting x a = cond_both (votes w i) x (silent n) AddsTo (λ _. a) (λ _. nothing n refl)

  abbrev with_batch : Batch → Node
  with_batch b = with_kept (record n.kept { holding = put n.kept.holding b }) n

  -- where the holding stays it has the batch, which it lacked
  batch_is_new : (b : Batch) → held n.kept.holding b.agent b.seq ≡ None → IsNew (with_batch b)
  batch_is_new b e same =
      none-some b (sym e ∙ (ap (λ k. held k.kept.holding b.agent b.seq) (sym same) ∙ (held-put_same n.kept.holding b h.is_holding ∙ ap (λ o. Some (unwrap_or o b)) e)))

  taken : (b : Batch) → IsWellFormed b → b.agent ≤ w.agents → AddsTo (handled w i n (CarriesBatch b))
  taken b form agent = by_held (held n.kept.holding b.agent b.seq) refl
    where
      by_held : (o : Option Batch) → held n.kept.holding b.agent b.seq ≡ o → Adds (with_batch b)
      by_held (Some c) e = nothing (with_batch b) (ap (λ hold. record n.kept { holding = hold }) (put_held n.kept.holding b c h.is_holding e))
      by_held None e = one (Takes b) (with_batch b) form (and_from (leb b.agent w.agents) _ (le-leb _ _ agent) (ap (λ o. not (is_some o)) e)) (batch_is_new b e) refl

  same_acceptor : (m : Node) → kept_now w m ≡ kept_now w n → n.kept.acceptor ≡ m.kept.acceptor
  same_acceptor m same = sym (ap (λ k. k.kept.acceptor) same)

  abbrev promising : ℕ → Node
  promising ballot = with_acceptor (after_prepare ballot n.kept.acceptor) n

  prepared : (period ballot : ℕ) → IsPeriod period → IsBallotNumber ballot → AddsTo (on_prepare i n period ballot)
  prepared period ballot within number =
      cond_both (eqb period (current_period n) && is_above ballot n.kept.acceptor.promised) _ (silent n) AddsTo
      (λ both. let parts = and_parts (eqb period (current_period n)) (is_above ballot n.kept.acceptor.promised) both in
      one (SetsBallots period (after_prepare ballot n.kept.acceptor)) (promising ballot)
      (within, (λ b e. subst IsBallotNumber (same_Some ballot b e) number), h.vote)
      (and_from (eqb period (current_period n)) _ parts.0 (promise_goes_on ballot n.kept.acceptor parts.1))
      (λ same. above_not_promised ballot n.kept.acceptor.promised parts.1 (ap (λ a. a.promised) (same_acceptor (promising ballot) same))) refl)
      (λ _. nothing n refl)

  promised : (from period ballot : ℕ) (vote : Option Vote) → AddsTo (on_promise w n from period ballot vote)
  promised from period ballot vote = by_attempt n.attempt
    where
      after : (a : Attempt) → AddsTo (after_promise w n period ballot a)
      after a =
          cond_both (has_majority (voter_count w) a.promising) _ _ AddsTo
          (λ _. nothing (record n { attempt = Some (record a { sent = true }) }) refl) (λ _. nothing (record n { attempt = Some a }) refl)

      by_attempt : (o : Option Attempt) → AddsTo (elim o [
        | None ↦ silent n
        | Some a ↦ if (eqb period (current_period n)) && (eqb a.ballot ballot) && not a.sent then after_promise w n period ballot (with_promise from vote a) else silent n
      ])
      by_attempt None = nothing n refl
      by_attempt (Some a) = cond_both _ _ (silent n) AddsTo (λ _. after (with_promise from vote a)) (λ _. nothing n refl)

  abbrev vote : ℕ → Cut → Vote
  vote ballot cut = record { ballot = ballot; cut = cut }

  abbrev accepting : ℕ → Cut → Node
  accepting ballot cut = with_acceptor (after_accept (vote ballot cut) n.kept.acceptor) n

  -- whether the promise and the vote were there before
  abbrev is_old : ℕ → Cut → Bool
  is_old ballot cut = is_promised ballot n.kept.acceptor.promised && is_same_vote n.kept.acceptor.vote (Some (vote ballot cut))

  accepts : (period ballot : ℕ) (cut : Cut) → IsPeriod period → IsBallotNumber ballot → IsCutAmong w.agents cut → AddsTo (on_accept i n period ballot cut)
  accepts period ballot cut within number among =
      cond_both (eqb period (current_period n) && is_not_below ballot n.kept.acceptor.promised) _ (silent n) AddsTo
      (λ both. let parts = and_parts (eqb period (current_period n)) (is_not_below ballot n.kept.acceptor.promised) both in by_old (is_old ballot cut) refl parts.0 parts.1)
      (λ _. nothing n refl)
    where
      by_old : (old : Bool) → is_old ballot cut ≡ old → eqb period (current_period n) ≡ true → is_not_below ballot n.kept.acceptor.promised ≡ true → Adds (accepting ballot cut)
      by_old true e now room = nothing (accepting ballot cut) (ap (λ a. record n.kept { acceptor = a }) (accepted_before (vote ballot cut) n.kept.acceptor e))
      by_old false e now room =
          one (SetsBallots period (after_accept (vote ballot cut) n.kept.acceptor)) (accepting ballot cut)
          (within, (λ b same. subst IsBallotNumber (same_Some ballot b same) number), (λ v same. subst (λ v. IsBallotNumber v.ballot × IsCutAmong w.agents v.cut) (same_Some (vote ballot cut) v same) (number, among)))
          (and_from (eqb period (current_period n)) _ now (vote_goes_on (vote ballot cut) n.kept.acceptor room e))
          (λ same. let again : is_old ballot cut ≡ true = accepted_again (vote ballot cut) n.kept.acceptor (same_acceptor (accepting ballot cut) same) in absurd (cc)) refl

  learns : (period : ℕ) (cut : Cut) → IsPeriod period → IsCutAmong w.agents cut → eqb period (current_period n) ≡ true → AddsTo (learning cut n)
  learns period cut within among now =
      one (Learns period cut) (learning cut n).node (within, among) now
      (λ same. let longer = ap (λ k. length k.kept.learned) same in omega (arith, longer, length-append n.kept.learned (cut ∷ []))) refl

  accepted : (from period ballot : ℕ) (cut : Cut) → IsPeriod period → IsCutAmong w.agents cut → AddsTo (handled w i n (Accepted from period ballot cut))
  accepted from period ballot cut within among =
      cond_both (eqb period (current_period n)) _ (silent n) AddsTo
      (λ now. cond_both (has_majority (voter_count w) (accepting_at (voter_count w) ballot (with_accepted (voter_count w) from ballot n.tally))) _ _ AddsTo
      (λ _. learns period cut within among now) (λ _. nothing (record n { tally = with_accepted (voter_count w) from ballot n.tally }) refl))
      (λ _. nothing n refl)

  decided : (period : ℕ) (cut : Cut) → IsPeriod period → IsCutAmong w.agents cut → AddsTo (handled w i n (Decided period cut))
  decided period cut within among = cond_both (eqb period (current_period n)) _ (silent n) AddsTo (learns period cut within among) (λ _. nothing n refl)

  among_of : (cut : Cut) → IsSentCut cut → length cut ≡ w.agents → IsCutAmong w.agents cut
  among_of cut sent size = record { size = size; low = sent.low }

  gets : (p : Packet) → IsSent p → IsOfAgents w.agents p → AddsTo (handled w i n p)
  gets (CarriesBatch b) sent of = taken b sent of
  gets (Prepare period ballot) sent of = unless period _ (voting _ (prepared period ballot sent.0 sent.1))
  gets (Promise from period ballot vote) sent of = voting _ (promised from period ballot vote)
  gets (Accept period ballot cut) sent of = unless period _ (voting _ (accepts period ballot cut sent.0 sent.1 (among_of cut sent.2 of)))
  gets (Accepted from period ballot cut) sent of = accepted from period ballot cut sent.1 (among_of cut sent.3 of)
  gets (Decided period cut) sent of = decided period cut sent.0 (among_of cut sent.1 of)

  pub adds_one : (s : NodeStep) → MayBe w i n s → AddsAtMostOne (kept_now w n) (kept_now w (node_after w i n s))
  adds_one (Gets p) may = gets p may.0 may.1
  adds_one Begins may =
      one (BeginsRound (n.kept.round + 1)) (node_after w i n Begins) (omega arith, omega (arith, may.2)) (eq-eqb (n.kept.round + 1) (n.kept.round + 1) refl)
      (λ same. let more = ap (λ k. k.kept.round) same in omega (arith, more)) refl

  pub has_step : (s : NodeStep) → MayBe w i n s → HasText (kept_now w (node_after w i n s))
  has_step s may = let a = adds_one s may in subst HasText a.kept (after_has_text (kept_now w n) a.increments h a.go_on).0

-- ---- a log that goes on

go_on_behind : (k : KeptAmong) (is js : List Increment) → GoOn k is → GoOn (kept_after k is) js → GoOn k (is ++ js)
go_on_behind k [] js go more = more
go_on_behind k (x ∷ is) js go more = (go.0, go.1, go_on_behind (among_with x k) is js go.2 more)

kept_behind : (k : KeptAmong) (is js : List Increment) → kept_after k (is ++ js) ≡ kept_after (kept_after k is) js
kept_behind k [] js = refl
kept_behind k (x ∷ is) js = kept_behind (among_with x k) is js

pub goes_on_to : (w : World) (i : ℕ) (n : Node) (s : NodeStep) (h : LogHead) (base : Option KeptAmong) (increments : List Increment) → MayBe w i n s
    → HasLog h base increments → kept_after (kept_at_first h base) increments ≡ kept_now w n → GoesOnTo h base increments (kept_now w (node_after w i n s))
goes_on_to w i n s h base increments may log same =
    let first = kept_at_first h base in
    let a = adds_one w i n (subst HasText same (log_has_text h base increments log).0) s may in
    let go_on = subst (λ k. GoOn k a.increments) (sym same) a.go_on in
    let kept = kept_behind first increments a.increments ∙ (ap (λ k. kept_after k a.increments) same ∙ a.kept) in
    record {
      more = a.increments;
      few = a.few;
      idle = λ stays. a.idle (stays ∙ same);
      go_on = go_on;
      kept = kept;
      read = λ short.
          log_written h base (increments ++ a.increments) (record {
            head = log.head;
            first = log.first;
            go_on = go_on_behind first increments a.increments log.go_on go_on;
            short = short;
          })
          ∙ ap (λ k. Ok (record { head = h; kept = k })) kept;
    }

-- ---- in a run

at_entry : {A : Type 0} (P : A → Type 0) (xs : List A) (k : ℕ) (x : A) → All P xs → slice_get xs k ≡ Some x → P x
at_entry P [] k x all e = absurd (none-some x e)
at_entry P (y ∷ xs) zero x all e = subst P (same_Some y x e) (All-head P y xs all)
at_entry P (y ∷ xs) (suc k) x all e = at_entry P xs k x (All-tail P y xs all) e

of_agents : (voters agents : ℕ) (journals : Holding) (p : Packet) → ((agent seq : ℕ) (b : Batch) → held journals agent seq ≡ Some b → agent ≤ agents) → IsPacket voters agents journals p → IsOfAgents agents p
of_agents voters agents journals (CarriesBatch b) in_range is = in_range b.agent b.seq b is.1
of_agents voters agents journals (Prepare period ballot) in_range is = tt
of_agents voters agents journals (Promise from period ballot vote) in_range is = by_vote vote is.3
  where
    by_vote : (o : Option Vote) → MayBeVote voters agents journals o → IsVoteOfAgents agents o
    by_vote None v = tt
    by_vote (Some x) v = let cut = v.cut in cut.size
of_agents voters agents journals (Accept period ballot cut) in_range is = let journaled = is.2 in journaled.size
of_agents voters agents journals (Accepted from period ballot cut) in_range is = let journaled = is.3 in journaled.size
of_agents voters agents journals (Decided period cut) in_range is = let journaled = is.1 in journaled.size

module _ (room voters observers agents : ℕ) (sheet : Sheet) (issuer : Issuer) (events : List Event) (few : voters ≤ 99) (some : 1 ≤ agents) (most : agents ≤ 64) where
  abbrev there : World
  there = (play (opening_with room voters observers agents sheet issuer) events).1

  pub gets_in_run : (k i : ℕ) (p : Packet) (n : Node) → slice_get there.packets k ≡ Some p → slice_get there.nodes i ≡ Some n → AddsAtMostOne (kept_now there n) (kept_now there (node_after there i n (Gets p)))
  gets_in_run k i p n sent found =
      let limits = keeps_limits room voters observers agents sheet issuer events in
      adds_one there i n (each_has_text room voters observers agents sheet issuer events few some most i n found) (Gets p) (
        at_entry IsSent there.packets k p (run_sent room voters observers agents sheet issuer events few some most) sent,
        of_agents (voter_count there) there.agents there.journals p limits.in_range (at_entry (IsPacket (voter_count there) there.agents there.journals) there.packets k p limits.each_packet sent),
      )

  pub begins_in_run : (i : ℕ) (n : Node) → i < voters → current_period n < most_periods → n.kept.round < most_rounds → slice_get there.nodes i ≡ Some n → AddsAtMostOne (kept_now there n) (kept_now there (node_after there i n Begins))
  begins_in_run i n votes going round found =
      let limits = keeps_limits room voters observers agents sheet issuer events in
      adds_one there i n (each_has_text room voters observers agents sheet issuer events few some most i n found) Begins (subst (λ v. i < v) (sym limits.voters_kept) votes, going, round)
