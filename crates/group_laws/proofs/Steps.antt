-- Each step of a group keeps it in agreement.
use Rattle.std.proofs.Common.{◌≡◌, ℕ, zero, suc, ◌+◌, ◌<◌, ◌≤◌, Bool, true, false, ◌&&◌, not, cond, List, [], ◌∷◌, ◌++◌, length, replicate, refl, sym, ap, subst, ◌∙◌, arith, Option, Some, None, ◌⊎◌, inl, inr}
use Rattle.std.specs.Prelude.{slice_get, slice_set, ◌==◌}
use Rattle.std.proofs.lemmas.Bool.{and_parts, eqb-true, ltb-true, not-true, cases_lt}
use Rattle.std.proofs.lemmas.Option.{same_Some}
use Rattle.metering_model.specs.Batch.{Batch}
use Rattle.metering_model.specs.Cut.{Cut}
use Rattle.metering_model.specs.Sheet.{Sheet, Issuer}
use Rattle.metering_model.specs.Ballot.{Vote, Attempt, ballot_of, is_above, is_not_below, after_prepare, after_accept, new_attempt, with_promise, has_majority, Tally, accepting_at, with_accepted}
use Rattle.metering_model.specs.World.{World, Node, Packet, CarriesBatch, Prepare, Promise, Accept, Accepted, Decided, voter_count, votes, current_period, wake, new_kept, opening_with}
use Rattle.metering_model.specs.Deliveries.{Handled, silent, sending, learning, with_acceptor, unless_learned, if_votes, on_prepare, on_promise, on_accept, after_promise, after_accepted, proposal, handled}
use Rattle.metering_model.specs.Step.{started_node}
use Rattle.group_laws.proofs.Quorum.{In, IsTrueOf, IsSafe}
use Rattle.group_laws.proofs.Kept.{neutral_safe, promise_safe, accept_safe, accepted_safe, IsNeutral}
use Rattle.group_laws.proofs.Nodes.{NodeIsKept, AttemptIsKept, IsForeign, node_foreign, node_neutral, without_attempt, after_learning, after_start, above_is, not_below_is, after_promising, after_accepting, one_promise_more, proposal_backed, after_proposing, not_of_another}
use Rattle.group_laws.proofs.StepCases.{after, starting, journaling, IsNext, IsKeptBySteps}

-- what a node in the model knows of the packets
abbrev pub Knows : List Packet → ℕ → ℕ → Node → Type 0
Knows P N i n = NodeIsKept P N i n.kept.round (current_period n) n.kept.acceptor n.attempt

-- Of an observer nothing is asked: no packet is from it, and no ballot is its own.
pub record IsKept (N : ℕ) (w : World) : Type 0 where
  pub count : voter_count w ≡ N
  pub safe : IsSafe w.packets N
  pub nodes : (i : ℕ) (n : Node) → i < N → slice_get w.nodes i ≡ Some n → Knows w.packets N i n

-- ---- one node is changed

pub get-slice_set : {A : Type 0} (xs : List A) (i j : ℕ) (x y : A) → slice_get (slice_set xs i x) j ≡ Some y → ((j ≡ i) × (y ≡ x)) ⊎ ((j ≡ i → ⊥) × (slice_get xs j ≡ Some y))
get-slice_set [] i j x y e = inr ((λ same. cc), e)
get-slice_set (z ∷ xs) zero zero x y e = inl (refl, sym (same_Some _ _ e))
get-slice_set (z ∷ xs) zero (suc j) x y e = inr ((λ same. cc), e)
get-slice_set (z ∷ xs) (suc i) zero x y e = inr ((λ same. cc), e)
get-slice_set (z ∷ xs) (suc i) (suc j) x y e = elim (get-slice_set xs i j x y e) [
  | inl here ↦ inl (ap (λ k. suc k) here.0, here.1)
  | inr there ↦ inr ((λ same. there.0 (omega arith)), there.1)
]

pub length-slice_set : {A : Type 0} (xs : List A) (i : ℕ) (x : A) → length (slice_set xs i x) ≡ length xs
length-slice_set [] i x = refl
length-slice_set (y ∷ xs) zero x = refl
length-slice_set (y ∷ xs) (suc i) x = ap (λ k. suc k) (length-slice_set xs i x)

-- what the others knew they know still
abbrev pub OthersKnow : List Packet → List Packet → ℕ → ℕ → Type 0
OthersKnow P Q N i = (j : ℕ) (m : Node) → j < N → (j ≡ i → ⊥) → Knows P N j m → Knows Q N j m

with_node_set : (N : ℕ) (w : World) (i : ℕ) (n : Node) (Q : List Packet) → IsKept N w → IsSafe Q N → (i < N → Knows Q N i n) → OthersKnow w.packets Q N i → IsKept N (record w { packets = Q; nodes = slice_set w.nodes i n })
with_node_set N w i n Q h safe mine others = record {
  count = h.count;
  safe = safe;
  nodes = λ j m within e. elim (get-slice_set w.nodes i j n m e) [
    | inl here ↦ subst (λ k. Knows Q N k m) (sym here.0) (subst (Knows Q N i) (sym here.1) (mine (subst (λ k. k < N) here.0 within)))
    | inr there ↦ others j m within there.0 (h.nodes j m within there.1)
  ];
}

others_same : (P : List Packet) (N i : ℕ) → OthersKnow P P N i
others_same P N i j m within other h = h

others_neutral : (P : List Packet) (N i : ℕ) (q : Packet) → IsNeutral q → OthersKnow P (P ++ q ∷ []) N i
others_neutral P N i q neutral j m within other h = node_neutral P N j m.kept.round (current_period m) m.kept.acceptor m.attempt q neutral h

others_foreign : (P : List Packet) (N i : ℕ) (q : Packet) → ((j : ℕ) → j < N → (j ≡ i → ⊥) → IsForeign N j q) → OthersKnow P (P ++ q ∷ []) N i
others_foreign P N i q foreign j m within other h = node_foreign P N j m.kept.round (current_period m) m.kept.acceptor m.attempt q (foreign j within other) h

-- ---- what a node does with a packet

-- what a voter does
abbrev pub HandledWell : List Packet → ℕ → ℕ → Node → Option Packet → Type 0
HandledWell P N i n None = Knows P N i n
HandledWell P N i n (Some q) = IsSafe (P ++ q ∷ []) N × Knows (P ++ q ∷ []) N i n × OthersKnow P (P ++ q ∷ []) N i

answers_neutral : (P : List Packet) (N i : ℕ) (n : Node) (q : Packet) → IsNeutral q → IsSafe P N → Knows P N i n → HandledWell P N i n (Some q)
answers_neutral P N i n q neutral safe h =
    (neutral_safe P N safe q neutral, node_neutral P N i n.kept.round (current_period n) n.kept.acceptor n.attempt q neutral h, others_neutral P N i q neutral)

abbrev Does : List Packet → ℕ → ℕ → Handled → Type 0
Does P N i h = HandledWell P N i h.node h.sends

-- what any node does
abbrev pub MayFollow : List Packet → ℕ → ℕ → Node → Option Packet → Type 0
MayFollow P N i n None = i < N → Knows P N i n
MayFollow P N i n (Some q) = IsSafe (P ++ q ∷ []) N × (i < N → Knows (P ++ q ∷ []) N i n) × OthersKnow P (P ++ q ∷ []) N i

voter_may : (P : List Packet) (N i : ℕ) (n : Node) (o : Option Packet) → HandledWell P N i n o → MayFollow P N i n o
voter_may P N i n None h = λ within. h
voter_may P N i n (Some q) h = (h.0, (λ within. h.1), h.2)

pub length-push : {A : Type 0} (cs : List A) (c : A) → length (cs ++ c ∷ []) ≡ length cs + 1
length-push [] c = refl
length-push (x ∷ cs) c = omega (arith, length-push cs c)

module _ (N : ℕ) (w : World) (kept : IsKept N w) (i : ℕ) (n : Node) (within : i < N) (knows : Knows w.packets N i n) where
  by_flag : (b : Bool) (x y : Handled) → (b ≡ true → Does w.packets N i x) → Does w.packets N i y → Does w.packets N i (cond b x y)
  by_flag true x y h k = h refl
  by_flag false x y h k = k

  by_vote : (x : Handled) → Does w.packets N i x → Does w.packets N i (if_votes w i n x)
  by_vote x h = by_flag (votes w i) x (silent n) (λ e. h) knows

  by_learned : (p : ℕ) (x : Handled) → Does w.packets N i x → Does w.packets N i (unless_learned p n x)
  by_learned p x h = either (slice_get n.kept.learned p)
    where
      either : (o : Option Cut) → Does w.packets N i (elim o [ Some cut ↦ sending (Decided p cut) n | None ↦ x ])
      either (Some cut) = answers_neutral w.packets N i n (Decided p cut) tt kept.safe knows
      either None = h

  -- a promise
  promise_truth : (b : ℕ) (v : Option Vote) → n.kept.acceptor.vote ≡ v → is_above b n.kept.acceptor.promised ≡ true → IsTrueOf w.packets i (current_period n) b v
  promise_truth b None e above = tt
  promise_truth b (Some v) e above = let one = knows.vote v e in (above_is b v.ballot n.kept.acceptor.promised above one.1, one.0)

  promising : ℕ → ℕ → Handled
  promising r b = sending (Promise i r b n.kept.acceptor.vote) (with_acceptor (after_prepare b n.kept.acceptor) n)

  promises : (b : ℕ) → is_above b n.kept.acceptor.promised ≡ true → Does w.packets N i (sending (Promise i (current_period n) b n.kept.acceptor.vote) (with_acceptor (after_prepare b n.kept.acceptor) n))
  promises b above = (
    promise_safe w.packets N kept.safe i (current_period n) b n.kept.acceptor.vote (promise_truth b n.kept.acceptor.vote refl above) (λ k c g. (knows.votes (current_period n) k c g).1 refl),
    after_promising w.packets N i n.kept.round (current_period n) b n.kept.acceptor n.attempt above knows,
    others_foreign w.packets N i (Promise i (current_period n) b n.kept.acceptor.vote) (λ j within other same. other (sym same)),
  )

  prepared : (p b : ℕ) → Does w.packets N i (handled w i n (Prepare p b))
  prepared p b = by_learned p (if_votes w i n (on_prepare i n p b)) (by_vote (on_prepare i n p b) (by_flag _ _ _ asked knows))
    where
      asked : ((p == current_period n) && is_above b n.kept.acceptor.promised) ≡ true → Does w.packets N i (sending (Promise i p b n.kept.acceptor.vote) (with_acceptor (after_prepare b n.kept.acceptor) n))
      asked e =
          let tests = and_parts (p == current_period n) (is_above b n.kept.acceptor.promised) e in
          subst (λ r. Does w.packets N i (sending (Promise i r b n.kept.acceptor.vote) (with_acceptor (after_prepare b n.kept.acceptor) n))) (sym (eqb-true _ _ tests.0)) (promises b tests.1)

  -- an acceptance
  accepts : (b : ℕ) (c : Cut) → In w.packets (Accept (current_period n) b c) → is_not_below b n.kept.acceptor.promised ≡ true →
      Does w.packets N i (sending (Accepted i (current_period n) b c) (with_acceptor (after_accept (record { ballot = b; cut = c }) n.kept.acceptor) n))
  accepts b c was fits = (
    accepted_safe w.packets N kept.safe i (current_period n) b c was (λ k v g. not_below_is b k n.kept.acceptor.promised fits ((knows.promises (current_period n) k v g).1 refl)),
    after_accepting w.packets N i n.kept.round (current_period n) b c n.kept.acceptor n.attempt fits knows,
    others_foreign w.packets N i (Accepted i (current_period n) b c) (λ j within other same. other (sym same)),
  )

  asked_to : (p b : ℕ) (c : Cut) → In w.packets (Accept p b c) → Does w.packets N i (handled w i n (Accept p b c))
  asked_to p b c was = by_learned p (if_votes w i n (on_accept i n p b c)) (by_vote (on_accept i n p b c) (by_flag _ _ _ fits knows))
    where
      fits : ((p == current_period n) && is_not_below b n.kept.acceptor.promised) ≡ true → Does w.packets N i (sending (Accepted i p b c) (with_acceptor (after_accept (record { ballot = b; cut = c }) n.kept.acceptor) n))
      fits e =
          let tests = and_parts (p == current_period n) (is_not_below b n.kept.acceptor.promised) e in
          let at : p ≡ current_period n = eqb-true _ _ tests.0 in
          subst (λ r. Does w.packets N i (sending (Accepted i r b c) (with_acceptor (after_accept (record { ballot = b; cut = c }) n.kept.acceptor) n))) (sym at) (accepts b c (subst (λ r. In w.packets (Accept r b c)) at was) tests.1)

  -- a cut that is learned
  learns : (c : Cut) → Does w.packets N i (learning c n)
  learns c =
      subst (λ now. NodeIsKept w.packets N i n.kept.round now (record { promised = None; vote = None }) None) (sym (length-push n.kept.learned c)) (after_learning w.packets N i n.kept.round (current_period n) n.kept.acceptor n.attempt knows)

  counts : (b : ℕ) (c : Cut) (t : Tally) → Does w.packets N i (after_accepted w n b c t)
  counts b c t = by_flag (has_majority (voter_count w) (accepting_at (voter_count w) b t)) (learning c n) (silent (record n { tally = t })) (λ e. learns c) knows

  -- a promise that comes
  proposes : (p b : ℕ) (a : Attempt) → p ≡ current_period n → a.ballot ≡ b → a.sent ≡ false → AttemptIsKept w.packets N i n.kept.round (current_period n) a → Does w.packets N i (after_promise w n p b a)
  proposes p b a at same unsent h = by_flag (has_majority (voter_count w) a.promising) _ (silent (record n { attempt = Some a })) enough waits
    where
      waits : Knows w.packets N i (record n { attempt = Some a })
      waits = record { promises = knows.promises; votes = knows.votes; vote = knows.vote; attempt = λ x e. subst (AttemptIsKept w.packets N i n.kept.round (current_period n)) (same_Some _ _ e) h; proposals = knows.proposals }

      chosen_vote : (o : Option Vote) (v : Vote) → o ≡ Some v → proposal w n o ≡ v.cut
      chosen_vote None v e = absurd (cc)
      chosen_vote (Some u) v e = ap (λ (x : Vote). x.cut) (same_Some _ _ e)

      sends : (c : Cut) → ((v : Vote) → a.told ≡ Some v → c ≡ v.cut) → has_majority N a.promising ≡ true → Does w.packets N i (sending (Accept (current_period n) a.ballot c) (record n { attempt = Some (record a { sent = true }) }))
      sends c is many = (
        accept_safe w.packets N kept.safe (current_period n) a.ballot c (λ r d g. h.unsent unsent r d g) (proposal_backed w.packets N i n.kept.round (current_period n) a c h many is),
        after_proposing w.packets N i n.kept.round (current_period n) n.kept.acceptor n.attempt a c within h knows,
        others_foreign w.packets N i (Accept (current_period n) a.ballot c) (λ j within' other. not_of_another N i j n.kept.round a.ballot within within' other h.ballot),
      )

      enough : has_majority (voter_count w) a.promising ≡ true → Does w.packets N i (sending (Accept p b (proposal w n a.told)) (record n { attempt = Some (record a { sent = true }) }))
      enough many =
          subst (λ r. Does w.packets N i (sending (Accept r b (proposal w n a.told)) (record n { attempt = Some (record a { sent = true }) }))) (sym at)
          (subst (λ k. Does w.packets N i (sending (Accept (current_period n) k (proposal w n a.told)) (record n { attempt = Some (record a { sent = true }) }))) same
          (sends (proposal w n a.told) (λ v e. chosen_vote a.told v e) (ap (λ k. has_majority k a.promising) (sym kept.count) ∙ many)))

  promised : (from p b : ℕ) (v : Option Vote) → In w.packets (Promise from p b v) → Does w.packets N i (handled w i n (Promise from p b v))
  promised from p b v was = by_vote (on_promise w n from p b v) (by_attempt n.attempt refl)
    where
      still_open : (a : Attempt) → n.attempt ≡ Some a → ((p == current_period n) && (a.ballot == b) && not a.sent) ≡ true → Does w.packets N i (after_promise w n p b (with_promise from v a))
      still_open a is e =
          let both = and_parts ((p == current_period n) && (a.ballot == b)) (not a.sent) e in
          let tests = and_parts (p == current_period n) (a.ballot == b) both.0 in
          let at : p ≡ current_period n = eqb-true _ _ tests.0 in
          let same : a.ballot ≡ b = eqb-true _ _ tests.1 in
          proposes p b (with_promise from v a) at same (not-true _ both.1)
          (one_promise_more w.packets N i n.kept.round (current_period n) from v a (subst (λ r. In w.packets (Promise from r a.ballot v)) at (subst (λ k. In w.packets (Promise from p k v)) (sym same) was)) (knows.attempt a is))

      by_attempt : (o : Option Attempt) → n.attempt ≡ o → Does w.packets N i (elim o [ None ↦ silent n | Some a ↦ cond ((p == current_period n) && (a.ballot == b) && not a.sent) (after_promise w n p b (with_promise from v a)) (silent n) ])
      by_attempt None is = knows
      by_attempt (Some a) is = by_flag ((p == current_period n) && (a.ballot == b) && not a.sent) (after_promise w n p b (with_promise from v a)) (silent n) (still_open a is) knows

  does : (q : Packet) → In w.packets q → Does w.packets N i (handled w i n q)
  does (CarriesBatch b) was = knows
  does (Prepare p b) was = prepared p b
  does (Promise from p b v) was = promised from p b v was
  does (Accept p b c) was = asked_to p b c was
  does (Accepted from p b c) was = by_flag (p == current_period n) _ (silent n) (λ e. counts b c (with_accepted (voter_count w) from b n.tally)) knows
  does (Decided p c) was = by_flag (p == current_period n) _ (silent n) (λ e. learns c) knows

-- an observer sends nothing but what it has learned
module _ (N : ℕ) (w : World) (kept : IsKept N w) (i : ℕ) (n : Node) (outside : N ≤ i) where
  abbrev Observes : Handled → Type 0
  Observes x = MayFollow w.packets N i x.node x.sends

  by_test : (b : Bool) (x y : Handled) → (b ≡ true → Observes x) → Observes y → Observes (cond b x y)
  by_test true x y h k = h refl
  by_test false x y h k = k

  no_voter : votes w i ≡ true → ⊥
  no_voter e = let less = ltb-true _ _ e in let count = kept.count in omega arith

  no_vote : (x : Handled) → Observes (if_votes w i n x)
  no_vote x = by_test (votes w i) x (silent n) (λ e. absurd (no_voter e)) (λ within. absurd (omega arith))

  tells_learned : (p : ℕ) (x : Handled) → Observes x → Observes (unless_learned p n x)
  tells_learned p x h = either (slice_get n.kept.learned p)
    where
      either : (o : Option Cut) → Observes (elim o [ Some cut ↦ sending (Decided p cut) n | None ↦ x ])
      either (Some cut) = (neutral_safe w.packets N kept.safe (Decided p cut) tt, (λ within. absurd (omega arith)), others_neutral w.packets N i (Decided p cut) tt)
      either None = h

  observes : (q : Packet) → Observes (handled w i n q)
  observes (CarriesBatch b) = λ within. absurd (omega arith)
  observes (Prepare p b) = tells_learned p (if_votes w i n (on_prepare i n p b)) (no_vote (on_prepare i n p b))
  observes (Promise from p b v) = no_vote (on_promise w n from p b v)
  observes (Accept p b c) = tells_learned p (if_votes w i n (on_accept i n p b c)) (no_vote (on_accept i n p b c))
  observes (Accepted from p b c) =
      let t = with_accepted (voter_count w) from b n.tally in
      by_test (p == current_period n) (after_accepted w n b c t) (silent n)
      (λ e. by_test (has_majority (voter_count w) (accepting_at (voter_count w) b t)) (learning c n) (silent (record n { tally = t })) (λ many. λ within. absurd (omega arith)) (λ within. absurd (omega arith)))
      (λ within. absurd (omega arith))
  observes (Decided p c) = by_test (p == current_period n) (learning c n) (silent n) (λ e. λ within. absurd (omega arith)) (λ within. absurd (omega arith))

-- ---- a step

module _ (N : ℕ) where
  any_does : (w : World) → IsKept N w → (i : ℕ) (n : Node) (q : Packet) → slice_get w.nodes i ≡ Some n → In w.packets q → MayFollow w.packets N i (handled w i n q).node (handled w i n q).sends
  any_does w kept i n q found was = elim (cases_lt i N) [
    | inl within ↦ voter_may w.packets N i (handled w i n q).node (handled w i n q).sends (does N w kept i n within (kept.nodes i n within found) q was)
    | inr outside ↦ observes N w kept i n outside q
  ]

  handled_kept : (w : World) (i : ℕ) (n : Node) (o : Option Packet) → IsKept N w → MayFollow w.packets N i n o → IsKept N (after w i n o)
  handled_kept w i n None kept well = with_node_set N w i n w.packets kept kept.safe well (others_same w.packets N i)
  handled_kept w i n (Some q) kept well = with_node_set N w i n (w.packets ++ q ∷ []) kept well.0 well.1 well.2

  journal_kept : (w : World) (b : Batch) → IsKept N w → IsNext w b → IsKept N (journaling w b)
  journal_kept w b kept next = record {
    count = kept.count;
    safe = neutral_safe w.packets N kept.safe (CarriesBatch b) tt;
    nodes = λ j m within e. node_neutral w.packets N j m.kept.round (current_period m) m.kept.acceptor m.attempt (CarriesBatch b) tt (kept.nodes j m within e);
  }

  start_kept : (w : World) (i : ℕ) (n : Node) → IsKept N w → slice_get w.nodes i ≡ Some n → IsKept N (starting w i n)
  start_kept w i n kept found =
      let b = ballot_of (n.kept.round + 1) i (voter_count w) in
      let q = Prepare (current_period n) b in
      with_node_set N w i (started_node (voter_count w) b n) (w.packets ++ q ∷ []) kept (neutral_safe w.packets N kept.safe q tt)
      (λ within. node_neutral w.packets N i (n.kept.round + 1) (current_period n) n.kept.acceptor (Some (new_attempt (voter_count w) b)) q tt
      (subst (λ k. NodeIsKept w.packets N i (n.kept.round + 1) (current_period n) n.kept.acceptor (Some (new_attempt k (ballot_of (n.kept.round + 1) i k)))) (sym kept.count)
      (after_start w.packets N i n.kept.round (current_period n) n.kept.acceptor n.attempt (kept.nodes i n within found))))
      (others_neutral w.packets N i q tt)

  restart_kept : (w : World) (i : ℕ) (n : Node) → IsKept N w → slice_get w.nodes i ≡ Some n → IsKept N (after w i (wake n.kept) None)
  restart_kept w i n kept found =
      with_node_set N w i (wake n.kept) w.packets kept kept.safe
      (λ within. without_attempt w.packets N i n.kept.round (current_period n) n.kept.acceptor n.attempt (kept.nodes i n within found)) (others_same w.packets N i)

  pub IsKept-steps : IsKeptBySteps (IsKept N)
  IsKept-steps = record {
    journals = journal_kept;
    delivers = λ w i n q kept may. handled_kept w i _ _ kept (any_does w kept i n q may.found may.sent);
    starts = λ w i n kept may. start_kept w i n kept may.found;
    restarts = restart_kept;
  }

-- ---- the opening world

pub get-replicate : {A : Type 0} (n i : ℕ) (x y : A) → slice_get (replicate n x) i ≡ Some y → y ≡ x
get-replicate zero i x y e = absurd (cc)
get-replicate (suc n) zero x y e = sym (same_Some _ _ e)
get-replicate (suc n) (suc i) x y e = get-replicate n i x y e

pub length-replicate : {A : Type 0} (n : ℕ) (x : A) → length (replicate n x) ≡ n
length-replicate zero x = refl
length-replicate (suc n) x = ap (λ k. suc k) (length-replicate n x)

pub none_sent : (q : Packet) → In [] q → ⊥
none_sent q h = none h.0 h.1
  where
    none : (k : ℕ) → slice_get [] k ≡ Some q → ⊥
    none k e = cc

pub IsKept-opening : (room voters observers agents : ℕ) (sheet : Sheet) (issuer : Issuer) → IsKept voters (opening_with room voters observers agents sheet issuer)
IsKept-opening room voters observers agents sheet issuer = record {
  count = refl;
  safe = record {
    one_cut = λ p b c d h k. absurd (none_sent _ h);
    asked = λ i p b c h. absurd (none_sent _ h);
    true_promise = λ i p b v h. absurd (none_sent _ h);
    full_promise = λ i p b v h. absurd (none_sent _ h);
    backed = λ p b c h. absurd (none_sent _ h);
  };
  nodes = λ i n within e. subst (Knows [] voters i) (sym (get-replicate (voters + observers) i (wake new_kept) n e)) (record {
    promises = λ p b v h. absurd (none_sent _ h);
    votes = λ p b c h. absurd (none_sent _ h);
    vote = λ v e. absurd (cc);
    attempt = λ a e. absurd (cc);
    proposals = λ p b r c h. absurd (none_sent _ h);
  });
}
