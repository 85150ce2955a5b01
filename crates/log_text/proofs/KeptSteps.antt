-- What is kept stays within its limits with each increment.
use Rattle.std.proofs.Common.{◌≡◌, ℕ, zero, suc, ◌≤◌, Bool, true, false, List, [], ◌∷◌, length, IsTrue, Some, None, refl, sym, ap, ◌∙◌, subst, arith}
use Rattle.std.proofs.lemmas.Bool.{cond-true, cond-false, false_from_ne_true}
use Rattle.std.proofs.lemmas.List.{length-append}
use Rattle.std.proofs.lemmas.List.Elements.{All-nil, All-cons, All-append}
use Rattle.std.proofs.lemmas.Option.{same_Some, none-some}
use Rattle.metering_model.specs.Ballot.{Acceptor, Vote}
use Rattle.metering_model.specs.Batch.{Batch}
use Rattle.metering_model.specs.BatchReading.{is_same}
use Rattle.metering_model.specs.Cut.{Cut}
use Rattle.metering_model.specs.Dates.{IsPeriod}
use Rattle.metering_model.specs.KeptText.{KeptAmong, IsBallotNumber, ballot_numbered}
use Rattle.metering_model.specs.Limits.{last_ballot, most_rounds}
use Rattle.metering_model.proofs.FieldLaws.{same_read}
use Rattle.node_kept.specs.Kept.{IsKept}
use Rattle.log_text.specs.LogText.{Increment, BeginsRound, SetsBallots, Learns, Takes, among_with, goes_on}
use Rattle.log_text.specs.Inner.Reading.{IsPromise, IsVoteAmong, gone_on}

-- ---- what is added

pub added : (k next : KeptAmong) (i : Increment) → goes_on i k ≡ true → next ≡ among_with i k → IsKept (among_with i k) → (gone_on k (Some i) ≡ Some next) × IsKept next
added k next i goes is kept = (cond-true (goes_on i k) (Some (among_with i k)) None goes ∙ ap Some (sym is), subst IsKept (sym is) kept)

pub not_added : (k : KeptAmong) (i : Increment) → goes_on i k ≡ false → gone_on k (Some i) ≡ None
not_added k i not = cond-false (goes_on i k) (Some (among_with i k)) None not

-- ---- its limits

pub round_kept : (k : KeptAmong) (round : ℕ) → IsKept k → round ≤ most_rounds → IsKept (among_with (BeginsRound round) k)
round_kept k round is low = record { round = low; periods = is.periods; cuts = is.cuts; promised = is.promised; vote = is.vote }

pub ballots_kept : (k : KeptAmong) (period : ℕ) (a : Acceptor) → IsKept k → IsPromise a.promised → IsVoteAmong k.agents a.vote → IsKept (among_with (SetsBallots period a) k)
ballots_kept k period a is promise vote = record { round = is.round; periods = is.periods; cuts = is.cuts; promised = promise; vote = vote }

pub cut_kept : (k : KeptAmong) (period : ℕ) (cut : Cut) → IsKept k → IsPeriod period → period ≡ length k.kept.learned → length cut ≡ k.agents → IsKept (among_with (Learns period cut) k)
cut_kept k period cut is low next size =
    let Has = λ (c : Cut). length c ≡ k.agents in
    record {
      round = is.round;
      periods = omega (arith, low, next, length-append k.kept.learned (cut ∷ []));
      cuts = All-append Has k.kept.learned (cut ∷ []) is.cuts (All-cons Has cut [] size (All-nil Has));
      promised = λ ballot e. absurd (none-some ballot e);
      vote = λ v e. absurd (none-some v e);
    }

pub batch_kept : (k : KeptAmong) (b : Batch) → IsKept k → IsKept (among_with (Takes b) k)
batch_kept k b is = record { round = is.round; periods = is.periods; cuts = is.cuts; promised = is.promised; vote = is.vote }

-- ---- comparing

self_same : (s : List ℕ) → is_same s s ≡ true
self_same [] = refl
self_same (x ∷ xs) = search (arith, self_same xs)

-- a test that holds of equal texts alone
pub same_by : (b : Bool) (s t : List ℕ) → (IsTrue b → s ≡ t) × (s ≡ t → IsTrue b) → b ≡ is_same s t
same_by true s t is = sym (subst (λ u. is_same s u ≡ true) (is.0 refl) (self_same s))
same_by false s t is = sym (false_from_ne_true (is_same s t) (λ e. absurd (cc (is.1 (same_read s t e)))))

-- ---- ballots

-- a ballot's number within the limits
pub promise_within : (number : ℕ) → number ≤ last_ballot → IsPromise (ballot_numbered number)
promise_within zero low ballot e = absurd (none-some ballot e)
promise_within (suc n) low ballot e = subst IsBallotNumber (same_Some (suc n) ballot e) (omega arith, low)

pub vote_within : (agents : ℕ) (v : Vote) → IsBallotNumber v.ballot → length v.cut ≡ agents → IsVoteAmong agents (Some v)
vote_within agents v number size w e = subst (λ (x : Vote). IsBallotNumber x.ballot × (length x.cut ≡ agents)) (same_Some v w e) (number, size)
