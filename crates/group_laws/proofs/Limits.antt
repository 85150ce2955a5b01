-- Every run keeps its limits.
use Rattle.std.proofs.Common.{◌≡◌, ℕ, zero, suc, ◌+◌, ◌<◌, ◌≤◌, Bool, true, false, ◌&&◌, not, cond, List, [], ◌∷◌, ◌++◌, length, refl, sym, ap, subst, ◌∙◌, arith, Option, Some, None, inl, inr, length-set, length-append, unwrap_or, Ordering, Less, Equal, Greater, nat_lt, All, is_some}
use Rattle.std.specs.Prelude.{slice_get, ◌==◌}
use Rattle.std.specs.List.{last_or}
use Rattle.std.specs.Option.{IsSomeAnd}
use Rattle.std.specs.BTreeMap.{insert_entry}
use Rattle.std.specs.Ordering.{nat_cmp, match_ordering}
use Rattle.std.proofs.Math.Nat.{mul-le-mul_right}
use Rattle.std.proofs.lemmas.Bool.{cases_lt, ltb-true}
use Rattle.std.proofs.lemmas.Option.{same_Some, none-some}
use Rattle.std.proofs.lemmas.List.Elements.{All-nil, All-cons, All-head, All-tail, All-set, All-push, All-replicate, All-weaker}
use Rattle.metering_model.specs.Batch.{Batch}
use Rattle.metering_model.specs.Cut.{Cut, GrowsFrom, IsGrowing, zero_cut, last_of}
use Rattle.metering_model.specs.Holding.{Holding, IsHolding, IsPartOf, held, put}
use Rattle.metering_model.specs.Front.{is_due, front}
use Rattle.metering_model.specs.Sheet.{Sheet, Issuer}
use Rattle.metering_model.specs.Ballot.{Vote, Acceptor, Attempt, Nodes, Tally, ballot_of, greater_vote, with_promise, has_majority, accepting_at, with_accepted, with_node}
use Rattle.metering_model.specs.World.{World, Node, Packet, CarriesBatch, Prepare, Promise, Accept, Accepted, Decided, voter_count, votes, current_period, last_cut, wake, new_kept, opening_with, Event}
use Rattle.metering_model.specs.Deliveries.{Handled, silent, sending, learning, on_prepare, on_promise, on_accept, unless_learned, if_votes, after_promise, after_accepted, proposal, handled}
use Rattle.metering_model.specs.Step.{play}
use Rattle.metering_model.proofs.HoldingLaws.{held_place}
use Rattle.metering_model.proofs.MissingLaws.{some_of}
use Rattle.metering_model.proofs.PartLaws.{IsPartOf-grown, held_well, agree_where_none_missing}
use Rattle.metering_model.proofs.Fronts.{front_goes_on, length-front}
use Rattle.group_laws.specs.Headline.{IsPrefixOf, HoldsAfter}
use Rattle.group_laws.specs.EveryRun.{IsNode, KeepsLimits, IsBallot, IsJournaledCut, MayBeVote, IsPacket, IsEntry, IsAttempt}
use Rattle.group_laws.proofs.Agents.{has_agents}
use Rattle.group_laws.proofs.Kept.{sent_now}
use Rattle.group_laws.proofs.Nodes.{length-nobody}
use Rattle.group_laws.proofs.StepCases.{after, started, start_packet, fresh_ballot, journaling, IsNext, MayStart, IsKeptBySteps, HasRoomFor}
use Rattle.group_laws.proofs.Steps.{length-push, length-replicate}
use Rattle.group_laws.proofs.Forms.{HasForms-opening, play_kept}
use Rattle.group_laws.proofs.Told.{accepting_counted}
use Rattle.group_laws.proofs.Fits.{IsOf, IsFitting, IsFitting-steps, IsFitting-opening}
use Rattle.group_laws.proofs.Agreed.{last_of-zero}
use Rattle.group_laws.proofs.Observing.{HasObservers, HasObservers-steps, HasObservers-opening}
use Rattle.group_laws.proofs.EveryRun.{IsAsOpened, as_opened, holds_after, prefix_of_cuts}

pub at_entry : {A : Type 0} (P : A → Type 0) (xs : List A) (k : ℕ) (x : A) → All P xs → slice_get xs k ≡ Some x → P x
at_entry P [] k x all e = absurd (none-some x e)
at_entry P (y ∷ xs) zero x all e = subst P (same_Some y x e) (All-head P y xs all)
at_entry P (y ∷ xs) (suc k) x all e = at_entry P xs k x (All-tail P y xs all) e

all_entries : {A : Type 0} (P : A → Type 0) (xs : List A) → ((k : ℕ) (x : A) → slice_get xs k ≡ Some x → P x) → All P xs
all_entries P [] h = All-nil P
all_entries P (x ∷ xs) h = All-cons P x xs (h 0 x refl) (all_entries P xs (λ k y e. h (suc k) y e))

-- ---- journals that have more

module _ (N agents : ℕ) (J K : Holding) (more : IsPartOf J K) where
  held_more : (agent seq : ℕ) → is_some (held J agent seq) ≡ true → is_some (held K agent seq) ≡ true
  held_more agent seq e = let one = some_of (held J agent seq) e in ap is_some (more.had agent seq one.0 one.1)

  IsJournaledCut-more : (c : Cut) → IsJournaledCut agents J c → IsJournaledCut agents K c
  IsJournaledCut-more c h = record { size = h.size; journaled = λ agent seq some within. held_more agent seq (h.journaled agent seq some within); low = h.low }

  vote_more : (v : Option Vote) → MayBeVote N agents J v → MayBeVote N agents K v
  vote_more None h = tt
  vote_more (Some v) h = record { ballot = h.ballot; cut = IsJournaledCut-more v.cut h.cut }

  IsPacket-more : (q : Packet) → IsPacket N agents J q → IsPacket N agents K q
  IsPacket-more (CarriesBatch b) h = (h.0, more.had b.agent b.seq b h.1)
  IsPacket-more (Prepare p b) h = h
  IsPacket-more (Promise i p b v) h = (h.0, h.1, h.2, vote_more v h.3)
  IsPacket-more (Accept p b c) h = (h.0, h.1, IsJournaledCut-more c h.2)
  IsPacket-more (Accepted i p b c) h = (h.0, h.1, h.2, IsJournaledCut-more c h.3)
  IsPacket-more (Decided p c) h = (h.0, IsJournaledCut-more c h.1)

  IsAttempt-more : (a : Attempt) → IsAttempt N agents J a → IsAttempt N agents K a
  IsAttempt-more a h = record { ballot = h.ballot; promising = h.promising; told = vote_more a.told h.told }

-- ---- what a node keeps within its limits

pub record NodeIsBounded (N agents : ℕ) (J : Holding) (round : ℕ) (learned : List Cut) (acc : Acceptor) (attempt : Option Attempt) (tally : Tally) : Type 0 where
  pub round_in : round ≤ 10_000
  pub cuts : All (IsJournaledCut agents J) learned
  pub promised : (ballot : ℕ) → acc.promised ≡ Some ballot → IsBallot N ballot
  pub vote : MayBeVote N agents J acc.vote
  pub attempts : (a : Attempt) → attempt ≡ Some a → IsAttempt N agents J a
  pub entries : All (IsEntry N) tally

abbrev pub IsBounded : ℕ → ℕ → Holding → Node → Type 0
IsBounded N agents J n = NodeIsBounded N agents J n.kept.round n.kept.learned n.kept.acceptor n.attempt n.tally

IsBounded-more : (N agents : ℕ) (J K : Holding) → IsPartOf J K → (n : Node) → IsBounded N agents J n → IsBounded N agents K n
IsBounded-more N agents J K more n h = record {
  round_in = h.round_in;
  cuts = All-weaker (IsJournaledCut agents J) (IsJournaledCut agents K) (IsJournaledCut-more N agents J K more) n.kept.learned h.cuts;
  promised = h.promised;
  vote = vote_more N agents J K more n.kept.acceptor.vote h.vote;
  attempts = λ a e. IsAttempt-more N agents J K more a (h.attempts a e);
  entries = h.entries;
}

pub record KeepsBounds (N : ℕ) (w : World) : Type 0 where
  pub fitting : IsFitting N w
  pub fits : length w.packets ≤ w.room
  pub packets : All (IsPacket N w.agents w.journals) w.packets
  pub nodes : All (IsBounded N w.agents w.journals) w.nodes

-- ---- ballots

fresh_is_ballot : (N round i : ℕ) → i < N → round < 10_000 → IsBallot N (ballot_of (round + 1) i N)
fresh_is_ballot N round i within below = record {
  round = round + 1;
  node = i;
  round_in = (omega arith, omega arith);
  votes = within;
  is = refl;
  low = let most = mul-le-mul_right {m = round + 1} {n = 10_000} N (omega arith) in omega (arith, most, within);
}

-- ---- cuts

low_cut : (J : Holding) (c : Cut) → IsHolding J → ((agent seq : ℕ) → 0 < seq → seq ≤ last_of c agent → is_some (held J agent seq) ≡ true) → (agent : ℕ) → last_of c agent ≤ 1_000_000
low_cut J c is has agent = elim (cases_lt 0 (last_of c agent)) [
  | inr none ↦ omega arith
  | inl some ↦
      let one = some_of (held J agent (last_of c agent)) (has agent (last_of c agent) some (omega arith)) in
      let well = held_well J agent (last_of c agent) one.0 is.batches one.1 in
      let place = held_place J agent (last_of c agent) one.0 one.1 in
      omega (arith, well.seq.1, place.1)
]

zero_is_cut : (agents : ℕ) (J : Holding) → IsJournaledCut agents J (zero_cut agents)
zero_is_cut agents J = record {
  size = length-replicate agents 0;
  journaled = λ agent seq some within. let none = last_of-zero agents agent in absurd (omega arith);
  low = λ agent. let none = last_of-zero agents agent in omega arith;
}

last_in : (agents : ℕ) (J : Holding) (o : Option Cut) (xs : List Cut) → ((c : Cut) → o ≡ Some c → IsJournaledCut agents J c) → All (IsJournaledCut agents J) xs → IsJournaledCut agents J (unwrap_or (last_or o xs) (zero_cut agents))
last_in agents J None [] f all = zero_is_cut agents J
last_in agents J (Some c) [] f all = f c refl
last_in agents J o (x ∷ xs) f all = last_in agents J (Some x) xs (λ c e. subst (IsJournaledCut agents J) (same_Some x c e) (All-head (IsJournaledCut agents J) x xs all)) (All-tail (IsJournaledCut agents J) x xs all)

front_is_cut : (agents base p : ℕ) (h J : Holding) (c : Cut) → IsHolding J → IsPartOf h J → IsJournaledCut agents J c → IsJournaledCut agents J (front base h c p)
front_is_cut agents base p h J c is part was = record {
  size = length-front base p h c ∙ was.size;
  journaled = has;
  low = low_cut J (front base h c p) is has;
}
  where
    has : (agent seq : ℕ) → 0 < seq → seq ≤ last_of (front base h c p) agent → is_some (held J agent seq) ≡ true
    has agent seq some within = elim (cases_lt (last_of c agent) seq) [
      | inr below ↦ was.journaled agent seq some below
      | inl above ↦ due (held h agent seq) refl ((front_goes_on base p h c).due agent seq above within)
    ]
      where
        due : (o : Option Batch) → held h agent seq ≡ o → IsSomeAnd o (λ b. is_due base p b ≡ true) → is_some (held J agent seq) ≡ true
        due None e d = absurd d
        due (Some b) e d = ap is_some (part.had agent seq b e)

-- ---- votes and tallies

greater_is_vote : (N agents : ℕ) (J : Holding) (v w : Option Vote) → MayBeVote N agents J v → MayBeVote N agents J w → MayBeVote N agents J (greater_vote v w)
greater_is_vote N agents J None w h k = k
greater_is_vote N agents J (Some v) None h k = h
greater_is_vote N agents J (Some v) (Some w) h k = by_test (nat_lt v.ballot w.ballot)
  where
    by_test : (b : Bool) → MayBeVote N agents J (cond b (Some w) (Some v))
    by_test true = k
    by_test false = h

insert_in : (N : ℕ) (t : Tally) (k : ℕ) (v : Nodes) → IsEntry N (k, v) → All (IsEntry N) t → All (IsEntry N) (insert_entry nat_cmp t k v)
insert_in N [] k v new all = All-cons (IsEntry N) (k, v) [] new all
insert_in N (e ∷ t) k v new all = by_order (nat_cmp k e.0) (insert_in N t k v new (All-tail (IsEntry N) e t all))
  where
    first : IsEntry N e
    first = All-head (IsEntry N) e t all

    rest : All (IsEntry N) t
    rest = All-tail (IsEntry N) e t all

    by_order : (o : Ordering) → All (IsEntry N) (insert_entry nat_cmp t k v) → All (IsEntry N) (match_ordering o ((k, v) ∷ e ∷ t) ((e.0, v) ∷ t) (e ∷ insert_entry nat_cmp t k v))
    by_order Less later = All-cons (IsEntry N) (k, v) (e ∷ t) new all
    by_order Equal later = All-cons (IsEntry N) (e.0, v) t (first.0, new.1) rest
    by_order Greater later = All-cons (IsEntry N) e (insert_entry nat_cmp t k v) first later

-- ---- what a node does with a packet

abbrev MayBePacket : ℕ → ℕ → Holding → Option Packet → Type 0
MayBePacket N agents J None = Unit {0}
MayBePacket N agents J (Some q) = IsPacket N agents J q

abbrev Does : ℕ → ℕ → Holding → Handled → Type 0
Does N agents J h = IsBounded N agents J h.node × MayBePacket N agents J h.sends

module _ (N : ℕ) (w : World) (h : KeepsBounds N w) (i : ℕ) (n : Node) (found : slice_get w.nodes i ≡ Some n) where
  is : IsBounded N w.agents w.journals n
  is = at_entry (IsBounded N w.agents w.journals) w.nodes i n h.nodes found

  part : IsPartOf n.kept.holding w.journals
  part = (h.fitting.holdings i n found).of.part

  abbrev Well : Handled → Type 0
  Well x = Does N w.agents w.journals x

  by_flag : (b : Bool) (x y : Handled) → (b ≡ true → Well x) → Well y → Well (cond b x y)
  by_flag true x y f k = f refl
  by_flag false x y f k = k

  by_vote : (x : Handled) → (i < N → Well x) → Well (if_votes w i n x)
  by_vote x f = by_flag (votes w i) x (silent n) (λ e. f (subst (λ k. i < k) h.fitting.told.kept.count (ltb-true _ _ e))) (is, tt)

  by_learned : (p : ℕ) (x : Handled) → p < 1_200 → Well x → Well (unless_learned p n x)
  by_learned p x in_range d = either (slice_get n.kept.learned p) refl
    where
      either : (o : Option Cut) → slice_get n.kept.learned p ≡ o → Well (elim o [ Some cut ↦ sending (Decided p cut) n | None ↦ x ])
      either (Some cut) e = (is, (in_range, at_entry (IsJournaledCut w.agents w.journals) n.kept.learned p cut is.cuts e))
      either None e = d

  learns : (c : Cut) → IsJournaledCut w.agents w.journals c → Well (learning c n)
  learns c cut = (
    record {
      round_in = is.round_in;
      cuts = All-push (IsJournaledCut w.agents w.journals) n.kept.learned c is.cuts cut;
      promised = λ ballot e. absurd (none-some ballot e);
      vote = tt;
      attempts = λ a e. absurd (none-some a e);
      entries = All-nil (IsEntry N);
    },
    tt,
  )

  with_attempt : (a : Attempt) → IsAttempt N w.agents w.journals a → IsBounded N w.agents w.journals (record n { attempt = Some a })
  with_attempt a new = record {
    round_in = is.round_in;
    cuts = is.cuts;
    promised = is.promised;
    vote = is.vote;
    attempts = λ x e. subst (IsAttempt N w.agents w.journals) (same_Some a x e) new;
    entries = is.entries;
  }

  prepared : (p b : ℕ) → IsPacket N w.agents w.journals (Prepare p b) → Well (handled w i n (Prepare p b))
  prepared p b was = by_learned p (if_votes w i n (on_prepare i n p b)) was.0 (by_vote (on_prepare i n p b) (λ within. by_flag _ _ _ (λ e. (
    record {
      round_in = is.round_in;
      cuts = is.cuts;
      promised = λ ballot e. subst (IsBallot N) (same_Some b ballot e) was.1;
      vote = is.vote;
      attempts = is.attempts;
      entries = is.entries;
    },
    (within, was.0, was.1, is.vote),
  )) (is, tt)))

  proposed : (o : Option Vote) → MayBeVote N w.agents w.journals o → IsJournaledCut w.agents w.journals (proposal w n o)
  proposed None v = front_is_cut w.agents w.sheet.base (current_period n) n.kept.holding w.journals (last_cut w.agents n.kept.learned) h.fitting.rules.is_holding part
      (last_in w.agents w.journals None n.kept.learned (λ c e. absurd (none-some c e)) is.cuts)
  proposed (Some v) vote = vote.cut

  promised : (from p b : ℕ) (v : Option Vote) → IsPacket N w.agents w.journals (Promise from p b v) → Well (handled w i n (Promise from p b v))
  promised from p b v was = by_vote (on_promise w n from p b v) (λ within. by_attempt n.attempt refl)
    where
      more : (a : Attempt) → n.attempt ≡ Some a → IsAttempt N w.agents w.journals (with_promise from v a)
      more a e = let old = is.attempts a e in record {
        ballot = old.ballot;
        promising = length-set a.promising from true ∙ old.promising;
        told = greater_is_vote N w.agents w.journals a.told v old.told was.3;
      }

      waiting : (a : Attempt) → n.attempt ≡ Some a → Well (after_promise w n p b (with_promise from v a))
      waiting a e = let new = more a e in by_flag _ _ _
          (λ many. (with_attempt (record (with_promise from v a) { sent = true }) (record { ballot = new.ballot; promising = new.promising; told = new.told }), (was.1, was.2, proposed (with_promise from v a).told new.told)))
          (with_attempt (with_promise from v a) new, tt)

      by_attempt : (o : Option Attempt) → n.attempt ≡ o → Well (elim o [ None ↦ silent n | Some a ↦ cond ((p == current_period n) && (a.ballot == b) && not a.sent) (after_promise w n p b (with_promise from v a)) (silent n) ])
      by_attempt None e = (is, tt)
      by_attempt (Some a) e = by_flag ((p == current_period n) && (a.ballot == b) && not a.sent) (after_promise w n p b (with_promise from v a)) (silent n) (λ t. waiting a e) (is, tt)

  asked_to : (p b : ℕ) (c : Cut) → IsPacket N w.agents w.journals (Accept p b c) → Well (handled w i n (Accept p b c))
  asked_to p b c was = by_learned p (if_votes w i n (on_accept i n p b c)) was.0 (by_vote (on_accept i n p b c) (λ within. by_flag _ _ _ (λ e. (
    record {
      round_in = is.round_in;
      cuts = is.cuts;
      promised = λ ballot e. subst (IsBallot N) (same_Some b ballot e) was.1;
      vote = record { ballot = was.1; cut = was.2 };
      attempts = is.attempts;
      entries = is.entries;
    },
    (within, was.0, was.1, was.2),
  )) (is, tt)))

  accepted : (from p b : ℕ) (c : Cut) → IsPacket N w.agents w.journals (Accepted from p b c) → Well (after_accepted w n b c (with_accepted (voter_count w) from b n.tally))
  accepted from p b c was =
      subst (λ k. Well (cond (has_majority k (accepting_at k b (with_accepted k from b n.tally))) (learning c n) (silent (record n { tally = with_accepted k from b n.tally })))) (sym h.fitting.told.kept.count)
      (by_flag _ _ _ (λ many. learns c was.3) (
        record {
          round_in = is.round_in;
          cuts = is.cuts;
          promised = is.promised;
          vote = is.vote;
          attempts = is.attempts;
          entries = insert_in N n.tally b (with_node from (accepting_at N b n.tally)) (was.2, length-set (accepting_at N b n.tally) from true ∙ size) is.entries;
        },
        tt,
      ))
    where
      size : length (accepting_at N b n.tally) ≡ N
      size = (accepting_counted w.packets N (current_period n) b n.kept.learned n.tally (h.fitting.told.nodes i n found)).size

  does : (q : Packet) → IsPacket N w.agents w.journals q → Well (handled w i n q)
  does (CarriesBatch b) was = (is, tt)
  does (Prepare p b) was = prepared p b was
  does (Promise from p b v) was = promised from p b v was
  does (Accept p b c) was = asked_to p b c was
  does (Accepted from p b c) was = by_flag (p == current_period n) _ (silent n) (λ e. accepted from p b c was) (is, tt)
  does (Decided p c) was = by_flag (p == current_period n) _ (silent n) (λ e. learns c was.1) (is, tt)

-- ---- a step

bounded_after : (N : ℕ) (w : World) (i : ℕ) (n : Node) (o : Option Packet) → KeepsBounds N w → IsFitting N (after w i n o) → HasRoomFor w o → IsBounded N w.agents w.journals n → MayBePacket N w.agents w.journals o → KeepsBounds N (after w i n o)
bounded_after N w i n None h fitting room is sends = record {
  fitting = fitting;
  fits = h.fits;
  packets = h.packets;
  nodes = All-set (IsBounded N w.agents w.journals) w.nodes i n is h.nodes;
}
bounded_after N w i n (Some q) h fitting room is sends = record {
  fitting = fitting;
  fits = let pushed = length-push w.packets q in omega (arith, pushed, room);
  packets = All-push (IsPacket N w.agents w.journals) w.packets q h.packets sends;
  nodes = All-set (IsBounded N w.agents w.journals) w.nodes i n is h.nodes;
}

module _ (N : ℕ) where
  steps : IsKeptBySteps (IsFitting N)
  steps = IsFitting-steps N

  bounded_journals : (w : World) (b : Batch) → KeepsBounds N w → IsNext w b → KeepsBounds N (journaling w b)
  bounded_journals w b h next =
      let fitting = steps.journals w b h.fitting next in
      let more : IsPartOf w.journals (put w.journals b) = IsPartOf-grown w.journals b h.fitting.rules.is_holding in
      record {
        fitting = fitting;
        fits = let pushed = length-push w.packets (CarriesBatch b) in omega (arith, pushed, next.room);
        packets = All-push (IsPacket N w.agents (put w.journals b)) w.packets (CarriesBatch b)
            (All-weaker (IsPacket N w.agents w.journals) (IsPacket N w.agents (put w.journals b)) (IsPacket-more N w.agents w.journals (put w.journals b) more) w.packets h.packets)
            (fitting.carried b (sent_now w.packets (CarriesBatch b)));
        nodes = All-weaker (IsBounded N w.agents w.journals) (IsBounded N w.agents (put w.journals b)) (IsBounded-more N w.agents w.journals (put w.journals b) more) w.nodes h.nodes;
      }

  start_bounded : (w : World) (i : ℕ) (n : Node) → KeepsBounds N w → MayStart w i n → IsBounded N w.agents w.journals (started w i n) × IsPacket N w.agents w.journals (start_packet w i n)
  start_bounded w i n h may =
      let is = at_entry (IsBounded N w.agents w.journals) w.nodes i n h.nodes may.found in
      let inside = subst (λ k. i < k) h.fitting.told.kept.count may.votes in
      let ballot : IsBallot N (fresh_ballot w i n) = subst (λ k. IsBallot N (ballot_of (n.kept.round + 1) i k)) (sym h.fitting.told.kept.count) (fresh_is_ballot N n.kept.round i inside may.round) in (
        record {
          round_in = let round = may.round in omega arith;
          cuts = is.cuts;
          promised = is.promised;
          vote = is.vote;
          attempts = λ a e. subst (IsAttempt N w.agents w.journals) (same_Some _ a e) (record { ballot = ballot; promising = length-nobody (voter_count w) ∙ h.fitting.told.kept.count; told = tt });
          entries = is.entries;
        },
        (may.going, ballot),
      )

  pub KeepsBounds-steps : IsKeptBySteps (KeepsBounds N)
  KeepsBounds-steps = record {
    journals = bounded_journals;
    delivers = λ w i n q h may.
        let well = does N w h i n may.found q (at_entry (IsPacket N w.agents w.journals) w.packets may.sent.0 q h.packets may.sent.1) in
        bounded_after N w i (handled w i n q).node (handled w i n q).sends h (steps.delivers w i n q h.fitting may) may.room well.0 well.1;
    starts = λ w i n h may.
        let well = start_bounded w i n h may in
        bounded_after N w i (started w i n) (Some (start_packet w i n)) h (steps.starts w i n h.fitting may) may.room well.0 well.1;
    restarts = λ w i n h found.
        let is = at_entry (IsBounded N w.agents w.journals) w.nodes i n h.nodes found in
        bounded_after N w i (wake n.kept) None h (steps.restarts w i n h.fitting found) tt (record {
          round_in = is.round_in;
          cuts = is.cuts;
          promised = is.promised;
          vote = is.vote;
          attempts = λ a e. absurd (none-some a e);
          entries = All-nil (IsEntry N);
        }) tt;
  }

pub KeepsBounds-opening : (room voters observers agents : ℕ) (sheet : Sheet) (issuer : Issuer) → KeepsBounds voters (opening_with room voters observers agents sheet issuer)
KeepsBounds-opening room voters observers agents sheet issuer = record {
  fitting = IsFitting-opening room voters observers agents sheet issuer;
  fits = omega arith;
  packets = All-nil (IsPacket voters agents []);
  nodes = All-replicate (IsBounded voters agents []) (voters + observers) (wake new_kept) (record {
    round_in = omega arith;
    cuts = All-nil (IsJournaledCut agents []);
    promised = λ ballot e. absurd (none-some ballot e);
    vote = tt;
    attempts = λ a e. absurd (none-some a e);
    entries = All-nil (IsEntry voters);
  });
}

-- ---- after a run

grows_prefix : (before : Cut) (xs rest : List Cut) → GrowsFrom before (xs ++ rest) → GrowsFrom before xs
grows_prefix before [] rest h = tt
grows_prefix before (x ∷ xs) rest h = (h.0, grows_prefix x xs rest h.1)

module _ (room voters observers agents : ℕ) (sheet : Sheet) (issuer : Issuer) (events : List Event) where
  bounds : KeepsBounds voters (play (opening_with room voters observers agents sheet issuer) events).1
  bounds = play_kept (KeepsBounds voters) (KeepsBounds-steps voters) events (opening_with room voters observers agents sheet issuer) (HasForms-opening room voters observers agents sheet issuer) (KeepsBounds-opening room voters observers agents sheet issuer)

  headline : HoldsAfter voters observers agents sheet issuer events (play (opening_with room voters observers agents sheet issuer) events).0 (play (opening_with room voters observers agents sheet issuer) events).1
  headline = holds_after room voters observers agents sheet issuer events

  is_node : (i : ℕ) (n : Node) → slice_get (play (opening_with room voters observers agents sheet issuer) events).1.nodes i ≡ Some n → IsNode voters agents (play (opening_with room voters observers agents sheet issuer) events).1.journals n
  is_node i n found = record {
    round = is.round_in;
    periods = length_prefix n.kept.learned headline.cuts prefix headline.are_the_cuts.in_range;
    learned = is.cuts;
    growing = grows_prefix (zero_cut agents) n.kept.learned prefix.0 (subst (GrowsFrom (zero_cut agents)) (sym prefix.1) (subst (λ a. IsGrowing a headline.cuts) headline.agents_kept headline.are_the_cuts.growing));
    promised = is.promised;
    vote = is.vote;
    is_holding = of.is_holding;
    part = of.part;
    attempt = is.attempts;
    tally = is.entries;
    whole = λ period cut e none. agree_where_none_missing n.kept.holding (play (opening_with room voters observers agents sheet issuer) events).1.journals cut of.is_holding bounds.fitting.rules.is_holding of.part none;
  }
    where
      w : World
      w = (play (opening_with room voters observers agents sheet issuer) events).1

      is : IsBounded voters agents w.journals n
      is = subst (λ a. IsBounded voters a w.journals n) headline.agents_kept (at_entry (IsBounded voters w.agents w.journals) w.nodes i n bounds.nodes found)

      of : IsOf w.journals n.kept.holding
      of = (bounds.fitting.holdings i n found).of

      prefix : IsPrefixOf n.kept.learned headline.cuts
      prefix = prefix_of_cuts w headline.cuts headline.are_the_cuts i n found

      length_prefix : (xs ys : List Cut) → IsPrefixOf xs ys → length ys ≤ 1_200 → length xs ≤ 1_200
      length_prefix xs ys p few = let sum = length-append xs p.0 in let same = ap (λ (zs : List Cut). length zs) p.1 in omega (arith, sum, same, few)

  pub keeps_limits : KeepsLimits room voters observers agents (play (opening_with room voters observers agents sheet issuer) events).1
  keeps_limits = record {
    nodes_kept = headline.nodes_kept;
    voters_kept = headline.voters_kept;
    agents_kept = headline.agents_kept;
    rules = headline.rules;
    in_range = (has_agents room voters observers agents sheet issuer events).each;
    room_kept = opened.room_kept;
    fits = subst (λ r. length w.packets ≤ r) opened.room_kept bounds.fits;
    each_packet = subst (λ N. All (IsPacket N w.agents w.journals) w.packets) (sym headline.voters_kept) bounds.packets;
    each_node = subst (λ N. All (IsNode N w.agents w.journals) w.nodes) (sym headline.voters_kept)
        (subst (λ a. All (IsNode voters a w.journals) w.nodes) (sym headline.agents_kept) (all_entries (IsNode voters agents w.journals) w.nodes is_node));
    each_observer = λ i n beyond found. observing.each i n (subst (λ N. N ≤ i) observing.count beyond) found;
  }
    where
      w : World
      w = (play (opening_with room voters observers agents sheet issuer) events).1

      opened : IsAsOpened room (voters + observers) agents sheet issuer w
      opened = as_opened room voters observers agents sheet issuer events

      observing : HasObservers voters w
      observing = play_kept (HasObservers voters) (HasObservers-steps voters) events (opening_with room voters observers agents sheet issuer) (HasForms-opening room voters observers agents sheet issuer) (HasObservers-opening room voters observers agents sheet issuer)
