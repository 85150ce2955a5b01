-- A run without the events that were refused for a price or a commitment: the other replies, and the world, are the same.
use Rattle.std.proofs.Common.{◌≡◌, ℕ, Bool, true, false, List, [], ◌∷◌, filter, refl, sym, ap, ◌∙◌, Option, Some, None, Result, Ok, Err, ok_or, nat_lt, nat_le, Contains}
use Rattle.std.specs.Prelude.{◌≢◌, slice_get, ◌==◌, All, not, if◌then◌else◌}
use Rattle.std.proofs.lemmas.Bool.{true≢false}
use Rattle.std.proofs.lemmas.List.Elements.{All-nil, All-cons, All-weaker, All-filter, All-contains, All-contains_itself, Contains-append_right, filter_passes}
use Rattle.metering_model.specs.FirstFailure.{◌>>=◌, holds_or}
use Rattle.metering_model.specs.BatchReading.{is_same}
use Rattle.metering_model.specs.Holding.{placed, put}
use Rattle.metering_model.specs.JournalRules.{next_seq, first_broken}
use Rattle.metering_model.specs.declared.Refusal.{Refusal}
use Rattle.metering_model.specs.declared.Refusal.TheVariants.{Unpriced, NoNode, NoAgent, WrongSeq, NoPacket, AllClosed, NoBallot, Observer, NotKept}
use Rattle.metering_model.specs.KeptText.{kept_text}
use Rattle.metering_model.specs.World.{Packet, World, Event, Journal, Deliver, Start, Restart, Export, Keep, Revive, Reply, Delivered, Refused, votes, current_period, with_node_at, with_packet, next_packet}
use Rattle.metering_model.specs.Deliveries.{Handled, handled}
use Rattle.metering_model.specs.Step.{Outcome, batch_of, unless_broken, on_batch, after_delivery, kept_of, kept_now, snapshot, outcome_of, or_refused, replies_then, step, play}
use Rattle.group_laws.proofs.EveryRun.{contains_at}
use Rattle.sheet_laws.specs.Runs.{AreAllPriced, is_unpriced, replies_kept, events_kept}

-- ---- one step

module _ (w : World) where
  -- who is refused so has changed nothing
  abbrev StaysIfUnpriced : Result Outcome Refusal → Type 0
  StaysIfUnpriced r = is_unpriced (or_refused w r).0 ≡ true → (or_refused w r).1 ≡ w

  behind : {A : Type 0} (r : Result A Refusal) (f : A → Result Outcome Refusal) → ((x : A) → StaysIfUnpriced (f x)) → StaysIfUnpriced (r >>= f)
  behind (Ok x) f each = each x
  behind (Err e) f each = λ _. refl

  after : (i : ℕ) (h : Handled) → StaysIfUnpriced (after_delivery w i h)
  after i h = by_sends h.sends
    where
      by_sends : (o : Option Packet) → StaysIfUnpriced (after_delivery w i (record h { sends = o }))
      by_sends None = λ t. absurd (true≢false (sym t))
      by_sends (Some p) =
          behind (next_packet w) (λ k. Ok (Delivered (Some k) h.learns, with_packet p (with_node_at i h.node w)))
          (λ k t. absurd (true≢false (sym t)))

  outcome_stays : (e : Event) → StaysIfUnpriced (outcome_of w e)
  outcome_stays (Journal offer) =
      behind (batch_of offer) (on_batch w) (λ b.
      behind (holds_or (nat_le b.agent w.agents) NoAgent) _ (λ _.
      behind (holds_or (b.seq == next_seq w.journals b.agent) (WrongSeq (next_seq w.journals b.agent))) _ (λ _.
      behind (unless_broken (first_broken w.sheet (put w.journals b) (placed b))) _ (λ _.
      behind (next_packet w) _ (λ k t. absurd (true≢false (sym t)))))))
  outcome_stays (Deliver k i) =
      behind (ok_or (slice_get w.packets k) NoPacket) _ (λ q.
      behind (ok_or (slice_get w.nodes i) NoNode) _ (λ n. after i (handled w i n q)))
  outcome_stays (Start i) =
      behind (ok_or (slice_get w.nodes i) NoNode) _ (λ n.
      behind (holds_or (votes w i) Observer) _ (λ _.
      behind (holds_or (nat_lt (current_period n) 1_200) AllClosed) _ (λ _.
      behind (holds_or (nat_lt n.kept.round 10_000) NoBallot) _ (λ _.
      behind (next_packet w) _ (λ k t. absurd (true≢false (sym t)))))))
  outcome_stays (Restart i) = behind (ok_or (slice_get w.nodes i) NoNode) _ (λ n t. absurd (true≢false (sym t)))
  outcome_stays (Export i p) = behind (snapshot w i p) _ (λ s t. absurd (true≢false (sym t)))
  outcome_stays (Keep i) = behind (ok_or (slice_get w.nodes i) NoNode) _ (λ n t. absurd (true≢false (sym t)))
  outcome_stays (Revive i offer) =
      behind (ok_or (slice_get w.nodes i) NoNode) _ (λ n.
      behind (kept_of offer) _ (λ k.
      behind (holds_or (is_same (kept_text k) (kept_text (kept_now w n))) NotKept) _ (λ _ t. absurd (true≢false (sym t)))))

  unpriced_stays : (e : Event) → is_unpriced (step w e).0 ≡ true → (step w e).1 ≡ w
  unpriced_stays e = outcome_stays e

-- ---- a whole run

abbrev run_kept : List Reply × World → List Reply × World
run_kept run = (replies_kept run.0, run.1)

pub left_out : (w : World) (events : List Event) → play w (events_kept events (play w events).0) ≡ (replies_kept (play w events).0, (play w events).1)
left_out w [] = refl
left_out w (e ∷ es) = by_reply (is_unpriced (step w e).0) refl (left_out (step w e).1 es)
  where
    later : List Reply × World
    later = play (step w e).1 es

    rest : List Event
    rest = events_kept es later.0

    by_reply : (b : Bool) → is_unpriced (step w e).0 ≡ b → play (step w e).1 rest ≡ run_kept later →
        play w (if b then rest else e ∷ rest) ≡ (if not b then (step w e).0 ∷ replies_kept later.0 else replies_kept later.0, later.1)
    by_reply true t same = ap (λ (v : World). play v rest) (sym (unpriced_stays w e t)) ∙ same
    by_reply false f same = ap (replies_then (step w e).0) same

-- ---- the replies that stay

pub rest_is_priced : (rs : List Reply) → AreAllPriced (replies_kept rs)
rest_is_priced rs =
    All-weaker (λ (r : Reply). not (is_unpriced r) ≡ true) (λ (r : Reply). r ≢ Refused Unpriced) priced (replies_kept rs) (filter_passes (λ (r : Reply). not (is_unpriced r)) rs)
  where
    priced : (r : Reply) → not (is_unpriced r) ≡ true → r ≢ Refused Unpriced
    priced r t e = true≢false (sym t ∙ ap (λ (x : Reply). not (is_unpriced x)) e)

-- what passes a test is an element of what passes
passing : {A : Type 0} (p : A → Bool) (xs : List A) → All (λ x. p x ≡ true → Contains (filter p xs) x) xs
passing {A} p [] = All-nil (λ (x : A). p x ≡ true → Contains {X = A} [] x)
passing {A} p (y ∷ ys) = by_test (passing p ys) (p y) refl
  where
    by_test : All (λ (x : A). p x ≡ true → Contains (filter p ys) x) ys → (b : Bool) → p y ≡ b →
        All (λ (x : A). p x ≡ true → Contains (if b then y ∷ filter p ys else filter p ys) x) (y ∷ ys)
    by_test rest true t =
        All-cons (λ (x : A). p x ≡ true → Contains (y ∷ filter p ys) x) y ys (λ _. contains_at (y ∷ filter p ys) 0 y refl)
        (All-weaker (λ (x : A). p x ≡ true → Contains (filter p ys) x) (λ (x : A). p x ≡ true → Contains (y ∷ filter p ys) x)
        (λ x h u. Contains-append_right (y ∷ []) (filter p ys) x (h u)) ys rest)
    by_test rest false f = All-cons (λ (x : A). p x ≡ true → Contains (filter p ys) x) y ys (λ u. absurd (true≢false (sym u ∙ f))) rest

pub stays : (rs : List Reply) (r : Reply) → is_unpriced r ≡ false → Contains rs r → Contains (replies_kept rs) r
stays rs r f has = All-contains (λ (x : Reply). not (is_unpriced x) ≡ true → Contains (replies_kept rs) x) rs r (passing (λ (x : Reply). not (is_unpriced x)) rs) has (ap not f)

pub was_there : (rs : List Reply) (r : Reply) → Contains (replies_kept rs) r → Contains rs r
was_there rs r has = All-contains (Contains rs) (replies_kept rs) r (All-filter (λ (x : Reply). not (is_unpriced x)) (Contains rs) rs (All-contains_itself rs)) has
