-- An observer tells what it has learned, and sends nothing else; it takes no round, promises, accepts and tries nothing.
use Rattle.std.proofs.Common.{◌≡◌, ℕ, ◌+◌, ◌≤◌, Bool, true, false, cond, refl, sym, subst, arith, Option, Some, None, inl, inr}
use Rattle.std.specs.Prelude.{slice_get, ◌==◌}
use Rattle.std.proofs.lemmas.Bool.{ltb-true}
use Rattle.metering_model.specs.Cut.{Cut}
use Rattle.metering_model.specs.Sheet.{Sheet, Issuer}
use Rattle.metering_model.specs.Ballot.{has_majority, accepting_at, with_accepted}
use Rattle.metering_model.specs.World.{World, Node, Packet, CarriesBatch, Prepare, Promise, Accept, Accepted, Decided, voter_count, votes, current_period, wake, new_kept, opening_with}
use Rattle.metering_model.specs.Deliveries.{Handled, silent, sending, learning, unless_learned, if_votes, on_prepare, on_promise, on_accept, after_accepted, handled}
use Rattle.group_laws.specs.EveryRun.{IsObserver}
use Rattle.group_laws.proofs.StepCases.{after, started, start_packet, IsKeptBySteps}
use Rattle.group_laws.proofs.Steps.{get-slice_set, get-replicate}

-- a packet that tells a cut
abbrev pub TellsCut : Packet → Type 0
TellsCut p = (period : ℕ) × (cut : Cut) × (p ≡ Decided period cut)

abbrev MayTell : Option Packet → Type 0
MayTell None = Unit {0}
MayTell (Some p) = TellsCut p

module _ (w : World) (i : ℕ) (n : Node) (beyond : voter_count w ≤ i) where
  no_voter : votes w i ≡ true → ⊥
  no_voter e = let less = ltb-true _ _ e in omega (arith, less, beyond)

  module _ (M : Handled → Type 0) (quiet : M (silent n)) where
    by_flag : (b : Bool) (x : Handled) → (b ≡ true → M x) → M (cond b x (silent n))
    by_flag true x h = h refl
    by_flag false x h = quiet

    no_vote : (x : Handled) → M (if_votes w i n x)
    no_vote x = by_flag (votes w i) x (λ e. absurd (no_voter e))

    tells : (p : ℕ) (x : Handled) → ((c : Cut) → M (sending (Decided p c) n)) → M x → M (unless_learned p n x)
    tells p x told h = either (slice_get n.kept.learned p)
      where
        either : (o : Option Cut) → M (elim o [ Some cut ↦ sending (Decided p cut) n | None ↦ x ])
        either (Some cut) = told cut
        either None = h

  abbrev Observes : Handled → Type 0
  Observes x = (IsObserver n → IsObserver x.node) × MayTell x.sends

  quiet : Observes (silent n)
  quiet = ((λ is. is), tt)

  learns : (c : Cut) → Observes (learning c n)
  learns c = ((λ is. record { round = is.round; acceptor = refl; attempt = refl }), tt)

  told : (p : ℕ) (c : Cut) → Observes (sending (Decided p c) n)
  told p c = ((λ is. is), (p, c, refl))

  counts : (b : ℕ) (c : Cut) (from : ℕ) → Observes (after_accepted w n b c (with_accepted (voter_count w) from b n.tally))
  counts b c from = by_many (has_majority (voter_count w) (accepting_at (voter_count w) b (with_accepted (voter_count w) from b n.tally)))
    where
      by_many : (b' : Bool) → Observes (cond b' (learning c n) (silent (record n { tally = with_accepted (voter_count w) from b n.tally })))
      by_many true = learns c
      by_many false = ((λ is. record { round = is.round; acceptor = is.acceptor; attempt = is.attempt }), tt)

  observes : (q : Packet) → Observes (handled w i n q)
  observes (CarriesBatch b) = ((λ is. record { round = is.round; acceptor = is.acceptor; attempt = is.attempt }), tt)
  observes (Prepare p b) = tells Observes quiet p (if_votes w i n (on_prepare i n p b)) (told p) (no_vote Observes quiet (on_prepare i n p b))
  observes (Promise from p b v) = no_vote Observes quiet (on_promise w n from p b v)
  observes (Accept p b c) = tells Observes quiet p (if_votes w i n (on_accept i n p b c)) (told p) (no_vote Observes quiet (on_accept i n p b c))
  observes (Accepted from p b c) = by_flag Observes quiet (p == current_period n) _ (λ e. counts b c from)
  observes (Decided p c) = by_flag Observes quiet (p == current_period n) _ (λ e. learns c)

  -- what an observer sends tells a cut
  pub observer_tells : (q r : Packet) → (handled w i n q).sends ≡ Some r → TellsCut r
  observer_tells q r e = subst MayTell e (observes q).1

-- ---- every run

pub record HasObservers (N : ℕ) (w : World) : Type 0 where
  pub count : voter_count w ≡ N
  pub each : (i : ℕ) (n : Node) → N ≤ i → slice_get w.nodes i ≡ Some n → IsObserver n

observers_after : (N : ℕ) (w : World) (i : ℕ) (n : Node) (o : Option Packet) → HasObservers N w → (N ≤ i → IsObserver n) → HasObservers N (after w i n o)
observers_after N w i n o h is = by_packet o
  where
    each : (j : ℕ) (m : Node) → N ≤ j → slice_get (after w i n None).nodes j ≡ Some m → IsObserver m
    each j m beyond e = elim (get-slice_set w.nodes i j n m e) [
      | inl here ↦ subst IsObserver (sym here.1) (is (subst (λ k. N ≤ k) here.0 beyond))
      | inr there ↦ h.each j m beyond there.1
    ]

    by_packet : (o : Option Packet) → HasObservers N (after w i n o)
    by_packet None = record { count = h.count; each = each }
    by_packet (Some q) = record { count = h.count; each = each }

pub HasObservers-steps : (N : ℕ) → IsKeptBySteps (HasObservers N)
HasObservers-steps N = record {
  journals = λ w b h next. record { count = h.count; each = h.each };
  delivers = λ w i n q h may. observers_after N w i (handled w i n q).node (handled w i n q).sends h (λ beyond. (observes w i n (subst (λ k. k ≤ i) (sym h.count) beyond) q).0 (h.each i n beyond may.found));
  starts = λ w i n h may. observers_after N w i (started w i n) (Some (start_packet w i n)) h (λ beyond. absurd (let low = may.votes in let count = h.count in omega (arith, low, count, beyond)));
  restarts = λ w i n h found. observers_after N w i (wake n.kept) None h (λ beyond. let is = h.each i n beyond found in record { round = is.round; acceptor = is.acceptor; attempt = refl });
}

pub HasObservers-opening : (room voters observers agents : ℕ) (sheet : Sheet) (issuer : Issuer) → HasObservers voters (opening_with room voters observers agents sheet issuer)
HasObservers-opening room voters observers agents sheet issuer = record {
  count = refl;
  each = λ i n beyond e. subst IsObserver (sym (get-replicate (voters + observers) i (wake new_kept) n e)) (record { round = refl; acceptor = refl; attempt = refl });
}
