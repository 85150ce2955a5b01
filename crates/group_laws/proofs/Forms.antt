-- What a node keeps is read back from its text: no ballot is 0, and cuts and batches are of the agents that there are. So a
-- revival is a restart, and what each step keeps a run keeps.
use Rattle.std.proofs.Common.{◌≡◌, ℕ, zero, suc, ◌+◌, ◌<◌, ◌≤◌, Bool, true, false, ◌&&◌, not, cond, List, [], ◌∷◌, length, filter, fold, max, refl, sym, subst, ◌∙◌, arith, Option, Some, None, inl, inr, unwrap_or, nat_lt, All, slice_index}
use Rattle.std.specs.Prelude.{slice_get, ◌==◌}
use Rattle.std.specs.List.{last_or, range_with_len}
use Rattle.std.proofs.Math.Nat.{mul-le-mul_right}
use Rattle.std.proofs.lemmas.Bool.{cond_both}
use Rattle.std.proofs.lemmas.Option.{same_Some, none-some}
use Rattle.std.proofs.lemmas.List.Elements.{All-nil, All-cons, All-head, All-tail, All-push, All-map, All-replicate}
use Rattle.metering_model.specs.Batch.{Batch, IsWellFormed}
use Rattle.metering_model.specs.Cut.{Cut, zero_cut, last_of}
use Rattle.metering_model.specs.Holding.{Holding, IsHolding, comes_before, sequences_of, put}
use Rattle.metering_model.specs.Front.{can_close, front_of, front}
use Rattle.metering_model.specs.Sheet.{Sheet, Issuer}
use Rattle.metering_model.specs.Ballot.{Vote, Acceptor, Attempt, greater_vote, with_promise, has_majority}
use Rattle.metering_model.specs.World.{World, Node, Packet, CarriesBatch, Prepare, Promise, Accept, Accepted, Decided, Event, voter_count, votes, current_period, last_cut, wake, new_kept, opening_with}
use Rattle.metering_model.specs.Deliveries.{Handled, silent, sending, learning, unless_learned, if_votes, on_prepare, on_promise, on_accept, after_promise, proposal, handled}
use Rattle.metering_model.specs.KeptText.{IsCutAmong}
use Rattle.metering_model.specs.Step.{kept_now, step, play}
use Rattle.metering_model.proofs.HoldingLaws.{IsHolding-nil, IsHolding-put}
use Rattle.metering_model.proofs.Fronts.{length-front}
use Rattle.metering_model.proofs.KeptLaws.{IsWritable, read_back}
use Rattle.group_laws.proofs.Quorum.{In}
use Rattle.group_laws.proofs.Kept.{sent_split}
use Rattle.group_laws.proofs.StepCases.{after, started, start_packet, fresh_ballot, journaling, IsNext, IsKeptBySteps, IsReadBack, step_kept}
use Rattle.group_laws.proofs.Steps.{get-slice_set, get-replicate, length-replicate, none_sent}

-- ---- cuts of so many agents

abbrev IsLow : ℕ → Type 0
IsLow seq = seq ≤ 1_000_000

low_fold : (a : ℕ) (xs : List ℕ) → IsLow a → All IsLow xs → IsLow (fold max a xs)
low_fold a [] h all = h
low_fold a (x ∷ xs) h all = let one = All-head IsLow x xs all in low_fold (max a x) xs (omega (arith, h, one)) (All-tail IsLow x xs all)

all_filter : {A : Type 0} (P : A → Type 0) (test : A → Bool) (xs : List A) → All P xs → All P (filter test xs)
all_filter P test [] h = All-nil P
all_filter P test (x ∷ xs) h =
    let rest = all_filter P test xs (All-tail P x xs h) in
    cond_both (test x) (x ∷ filter test xs) (filter test xs) (λ ys. All P ys) (λ _. All-cons P x (filter test xs) (All-head P x xs h) rest) (λ _. rest)

all_of : {A : Type 0} (P : A → Type 0) (xs : List A) → ((x : A) → P x) → All P xs
all_of P [] f = All-nil P
all_of P (x ∷ xs) f = All-cons P x xs (f x) (all_of P xs f)

low_sequences : (h : Holding) → All IsWellFormed h → All (λ b. IsLow b.seq) h
low_sequences [] well = All-nil (λ b. IsLow b.seq)
low_sequences (b ∷ h) well = All-cons (λ b. IsLow b.seq) b h (All-head IsWellFormed b h well).seq.1 (low_sequences h (All-tail IsWellFormed b h well))

low_sequences_of : (agent : ℕ) (h : Holding) → All IsWellFormed h → All IsLow (sequences_of agent h)
low_sequences_of agent h well =
    All-map IsLow (λ b. b.seq) (filter (λ b. b.agent == agent) h) (all_filter (λ b. IsLow b.seq) (λ b. b.agent == agent) h (low_sequences h well))

low_last : (cut : Cut) (agent : ℕ) → All IsLow cut → IsLow (last_of cut agent)
low_last cut zero h = omega arith
low_last cut (suc a) h = index cut a h
  where
    index : (xs : List ℕ) (i : ℕ) → All IsLow xs → IsLow (slice_index xs i)
    index [] i h = omega arith
    index (x ∷ xs) zero h = All-head IsLow x xs h
    index (x ∷ xs) (suc i) h = index xs i (All-tail IsLow x xs h)

front_among : (agents base p : ℕ) (h : Holding) (cut : Cut) → All IsWellFormed h → IsCutAmong agents cut → IsCutAmong agents (front base h cut p)
front_among agents base p h cut well is = record {
  size = length-front base p h cut ∙ is.size;
  low = All-map IsLow (λ agent. front_of base p h agent (last_of cut agent)) (range_with_len 1 (length cut)) (all_of (λ agent. IsLow (front_of base p h agent (last_of cut agent))) (range_with_len 1 (length cut)) each);
}
  where
    each : (agent : ℕ) → IsLow (front_of base p h agent (last_of cut agent))
    each agent =
        low_fold (last_of cut agent) (filter (can_close base p h agent (last_of cut agent)) (sequences_of agent h)) (low_last cut agent is.low)
        (all_filter IsLow (can_close base p h agent (last_of cut agent)) (sequences_of agent h) (low_sequences_of agent h well))

zero_among : (agents : ℕ) → IsCutAmong agents (zero_cut agents)
zero_among agents = record { size = length-replicate agents 0; low = All-replicate IsLow agents 0 (omega arith) }

last_among : (agents : ℕ) (o : Option Cut) (xs : List Cut) → ((c : Cut) → o ≡ Some c → IsCutAmong agents c) → All (IsCutAmong agents) xs → IsCutAmong agents (unwrap_or (last_or o xs) (zero_cut agents))
last_among agents None [] f all = zero_among agents
last_among agents (Some c) [] f all = f c refl
last_among agents o (x ∷ xs) f all = last_among agents (Some x) xs (λ c e. subst (IsCutAmong agents) (same_Some x c e) (All-head (IsCutAmong agents) x xs all)) (All-tail (IsCutAmong agents) x xs all)

-- ---- packets and nodes

abbrev pub MayBeForm : ℕ → Option Vote → Type 0
MayBeForm agents None = Unit {0}
MayBeForm agents (Some v) = (1 ≤ v.ballot) × IsCutAmong agents v.cut

abbrev pub IsForm : ℕ → Packet → Type 0
IsForm agents (CarriesBatch b) = IsWellFormed b × (b.agent ≤ agents)
IsForm agents (Prepare p b) = 1 ≤ b
IsForm agents (Promise i p b v) = (1 ≤ b) × MayBeForm agents v
IsForm agents (Accept p b c) = (1 ≤ b) × IsCutAmong agents c
IsForm agents (Accepted i p b c) = IsCutAmong agents c
IsForm agents (Decided p c) = IsCutAmong agents c

abbrev OfAgents : ℕ → Batch → Type 0
OfAgents agents b = b.agent ≤ agents

pub record NodeForm (agents : ℕ) (cuts : List Cut) (acc : Acceptor) (holding : Holding) (attempt : Option Attempt) : Type 0 where
  pub learned : All (IsCutAmong agents) cuts
  pub promised : (ballot : ℕ) → acc.promised ≡ Some ballot → 1 ≤ ballot
  pub vote : MayBeForm agents acc.vote
  pub is_holding : IsHolding holding
  pub in_range : All (OfAgents agents) holding
  pub told : (a : Attempt) → attempt ≡ Some a → MayBeForm agents a.told

abbrev pub HasForm : ℕ → Node → Type 0
HasForm agents n = NodeForm agents n.kept.learned n.kept.acceptor n.kept.holding n.attempt

pub record HasForms (w : World) : Type 0 where
  pub packets : (q : Packet) → In w.packets q → IsForm w.agents q
  pub nodes : (i : ℕ) (n : Node) → slice_get w.nodes i ≡ Some n → HasForm w.agents n

pub writable : (w : World) (n : Node) → HasForm w.agents n → IsWritable (kept_now w n)
writable w n h = record {
  learned = h.learned;
  promised = h.promised;
  vote = λ v e. subst (MayBeForm w.agents) e h.vote;
  is_holding = h.is_holding;
  in_range = h.in_range;
}

pub readable : (w : World) → HasForms w → IsReadBack w
readable w h = record { same = λ i n k found has e. read_back k (kept_now w n) has (writable w n (h.nodes i n found)) e }

-- ---- what a node does with a packet

greater_form : (agents : ℕ) (u v : Option Vote) → MayBeForm agents u → MayBeForm agents v → MayBeForm agents (greater_vote u v)
greater_form agents None v h k = k
greater_form agents (Some u) None h k = h
greater_form agents (Some u) (Some v) h k = by_test (nat_lt u.ballot v.ballot)
  where
    by_test : (b : Bool) → MayBeForm agents (cond b (Some v) (Some u))
    by_test true = k
    by_test false = h

in_range_put : (agents : ℕ) (h : Holding) (b : Batch) → All (OfAgents agents) h → b.agent ≤ agents → All (OfAgents agents) (put h b)
in_range_put agents [] b all low = All-cons (OfAgents agents) b [] low all
in_range_put agents (c ∷ h) b all low =
    let first = All-head (OfAgents agents) c h all in
    let rest = in_range_put agents h b (All-tail (OfAgents agents) c h all) low in
    cond_both (comes_before b c) (b ∷ c ∷ h) _ (λ k. All (OfAgents agents) k) (λ _. All-cons (OfAgents agents) b (c ∷ h) low all)
    (λ _. cond_both (comes_before c b) (c ∷ put h b) (c ∷ h) (λ k. All (OfAgents agents) k) (λ _. All-cons (OfAgents agents) c (put h b) first rest) (λ _. all))

abbrev MaySend : ℕ → Option Packet → Type 0
MaySend agents None = Unit {0}
MaySend agents (Some q) = IsForm agents q

module _ (w : World) (i : ℕ) (n : Node) (is : HasForm w.agents n) where
  abbrev Does : Handled → Type 0
  Does x = HasForm w.agents x.node × MaySend w.agents x.sends

  by_flag : (b : Bool) (x y : Handled) → Does x → Does y → Does (cond b x y)
  by_flag true x y f k = f
  by_flag false x y f k = k

  by_vote : (x : Handled) → Does x → Does (if_votes w i n x)
  by_vote x f = by_flag (votes w i) x (silent n) f (is, tt)

  cut_at : (xs : List Cut) (p : ℕ) (c : Cut) → All (IsCutAmong w.agents) xs → slice_get xs p ≡ Some c → IsCutAmong w.agents c
  cut_at [] p c all e = absurd (none-some c e)
  cut_at (x ∷ xs) zero c all e = subst (IsCutAmong w.agents) (same_Some x c e) (All-head (IsCutAmong w.agents) x xs all)
  cut_at (x ∷ xs) (suc p) c all e = cut_at xs p c (All-tail (IsCutAmong w.agents) x xs all) e

  by_learned : (p : ℕ) (x : Handled) → Does x → Does (unless_learned p n x)
  by_learned p x d = either (slice_get n.kept.learned p) refl
    where
      either : (o : Option Cut) → slice_get n.kept.learned p ≡ o → Does (elim o [ Some cut ↦ sending (Decided p cut) n | None ↦ x ])
      either (Some cut) e = (is, cut_at n.kept.learned p cut is.learned e)
      either None e = d

  learns : (c : Cut) → IsCutAmong w.agents c → Does (learning c n)
  learns c cut = (
    record {
      learned = All-push (IsCutAmong w.agents) n.kept.learned c is.learned cut;
      promised = λ ballot e. absurd (none-some ballot e);
      vote = tt;
      is_holding = is.is_holding;
      in_range = is.in_range;
      told = λ a e. absurd (none-some a e);
    },
    tt,
  )

  with_attempt : (a : Attempt) → MayBeForm w.agents a.told → HasForm w.agents (record n { attempt = Some a })
  with_attempt a told = record {
    learned = is.learned;
    promised = is.promised;
    vote = is.vote;
    is_holding = is.is_holding;
    in_range = is.in_range;
    told = λ x e. subst (λ (y : Attempt). MayBeForm w.agents y.told) (same_Some a x e) told;
  }

  proposed : (o : Option Vote) → MayBeForm w.agents o → IsCutAmong w.agents (proposal w n o)
  proposed None v = front_among w.agents w.sheet.base (current_period n) n.kept.holding (last_cut w.agents n.kept.learned) is.is_holding.batches
      (last_among w.agents None n.kept.learned (λ c e. absurd (none-some c e)) is.learned)
  proposed (Some v) vote = vote.1

  promised : (from p b : ℕ) (v : Option Vote) → IsForm w.agents (Promise from p b v) → Does (on_promise w n from p b v)
  promised from p b v was = by_attempt n.attempt refl
    where
      waiting : (a : Attempt) → n.attempt ≡ Some a → Does (after_promise w n p b (with_promise from v a))
      waiting a e =
          let told : MayBeForm w.agents (with_promise from v a).told = greater_form w.agents a.told v (is.told a e) was.1 in
          by_flag (has_majority (voter_count w) (with_promise from v a).promising) _ _
          (with_attempt (record (with_promise from v a) { sent = true }) told, (was.0, proposed (with_promise from v a).told told))
          (with_attempt (with_promise from v a) told, tt)

      by_attempt : (o : Option Attempt) → n.attempt ≡ o → Does (elim o [ None ↦ silent n | Some a ↦ cond ((p == current_period n) && (a.ballot == b) && not a.sent) (after_promise w n p b (with_promise from v a)) (silent n) ])
      by_attempt None e = (is, tt)
      by_attempt (Some a) e = by_flag ((p == current_period n) && (a.ballot == b) && not a.sent) (after_promise w n p b (with_promise from v a)) (silent n) (waiting a e) (is, tt)

  does : (q : Packet) → IsForm w.agents q → Does (handled w i n q)
  does (CarriesBatch b) was = (
    record {
      learned = is.learned;
      promised = is.promised;
      vote = is.vote;
      is_holding = IsHolding-put n.kept.holding b is.is_holding was.0;
      in_range = in_range_put w.agents n.kept.holding b is.in_range was.1;
      told = is.told;
    },
    tt,
  )
  does (Prepare p b) was = by_learned p (if_votes w i n (on_prepare i n p b)) (by_vote (on_prepare i n p b) (by_flag _ _ _ (
    record {
      learned = is.learned;
      promised = λ ballot e. subst (λ k. 1 ≤ k) (same_Some b ballot e) was;
      vote = is.vote;
      is_holding = is.is_holding;
      in_range = is.in_range;
      told = is.told;
    },
    (was, is.vote),
  ) (is, tt)))
  does (Promise from p b v) was = by_vote (on_promise w n from p b v) (promised from p b v was)
  does (Accept p b c) was = by_learned p (if_votes w i n (on_accept i n p b c)) (by_vote (on_accept i n p b c) (by_flag _ _ _ (
    record {
      learned = is.learned;
      promised = λ ballot e. subst (λ k. 1 ≤ k) (same_Some b ballot e) was.0;
      vote = was;
      is_holding = is.is_holding;
      in_range = is.in_range;
      told = is.told;
    },
    was.1,
  ) (is, tt)))
  does (Accepted from p b c) was = by_flag (p == current_period n) _ (silent n) (by_flag _ _ _ (learns c was) (
    record {
      learned = is.learned;
      promised = is.promised;
      vote = is.vote;
      is_holding = is.is_holding;
      in_range = is.in_range;
      told = is.told;
    },
    tt,
  )) (is, tt)
  does (Decided p c) was = by_flag (p == current_period n) _ (silent n) (learns c was) (is, tt)

-- ---- a step

forms_after : (w : World) (i : ℕ) (n : Node) (o : Option Packet) → HasForms w → HasForm w.agents n → MaySend w.agents o → HasForms (after w i n o)
forms_after w i n None h is sends = record {
  packets = h.packets;
  nodes = λ j m e. elim (get-slice_set w.nodes i j n m e) [
    | inl here ↦ subst (HasForm w.agents) (sym here.1) is
    | inr there ↦ h.nodes j m there.1
  ];
}
forms_after w i n (Some q) h is sends = record {
  packets = λ x sent. elim (sent_split w.packets q x sent) [
    | inl old ↦ h.packets x old
    | inr new ↦ subst (IsForm w.agents) new sends
  ];
  nodes = λ j m e. elim (get-slice_set w.nodes i j n m e) [
    | inl here ↦ subst (HasForm w.agents) (sym here.1) is
    | inr there ↦ h.nodes j m there.1
  ];
}

forms_journaled : (w : World) (b : Batch) → HasForms w → IsNext w b → HasForms (journaling w b)
forms_journaled w b h next = record {
  packets = λ x sent. elim (sent_split w.packets (CarriesBatch b) x sent) [
    | inl old ↦ h.packets x old
    | inr new ↦ subst (IsForm w.agents) new (next.well_formed, next.agent)
  ];
  nodes = h.nodes;
}

-- a ballot of a voter is not 0
fresh_is_some : (w : World) (i : ℕ) (n : Node) → i < voter_count w → 1 ≤ fresh_ballot w i n
fresh_is_some w i n within = let least = mul-le-mul_right {m = 1} {n = n.kept.round + 1} (voter_count w) (omega arith) in omega (arith, least, within)

pub HasForms-steps : IsKeptBySteps HasForms
HasForms-steps = record {
  journals = forms_journaled;
  delivers = λ w i n q h may.
      let well = does w i n (h.nodes i n may.found) q (h.packets q may.sent) in
      forms_after w i (handled w i n q).node (handled w i n q).sends h well.0 well.1;
  starts = λ w i n h may.
      let is = h.nodes i n may.found in
      forms_after w i (started w i n) (Some (start_packet w i n)) h (record {
        learned = is.learned;
        promised = is.promised;
        vote = is.vote;
        is_holding = is.is_holding;
        in_range = is.in_range;
        told = λ a e. subst (λ (x : Attempt). MayBeForm w.agents x.told) (same_Some _ a e) tt;
      }) (fresh_is_some w i n may.votes);
  restarts = λ w i n h found.
      let is = h.nodes i n found in
      forms_after w i (wake n.kept) None h (record {
        learned = is.learned;
        promised = is.promised;
        vote = is.vote;
        is_holding = is.is_holding;
        in_range = is.in_range;
        told = λ a e. absurd (none-some a e);
      }) tt;
}

pub HasForms-step : (w : World) → HasForms w → (e : Event) → HasForms (step w e).1
HasForms-step w h e = step_kept HasForms HasForms-steps w (readable w h) h e

pub HasForms-opening : (room voters observers agents : ℕ) (sheet : Sheet) (issuer : Issuer) → HasForms (opening_with room voters observers agents sheet issuer)
HasForms-opening room voters observers agents sheet issuer = record {
  packets = λ q sent. absurd (none_sent q sent);
  nodes = λ i n e. subst (HasForm agents) (sym (get-replicate (voters + observers) i (wake new_kept) n e)) (record {
    learned = All-nil (IsCutAmong agents);
    promised = λ ballot e. absurd (none-some ballot e);
    vote = tt;
    is_holding = IsHolding-nil;
    in_range = All-nil (OfAgents agents);
    told = λ a e. absurd (none-some a e);
  });
}

-- ---- a run

-- what each step keeps, a run keeps
pub play_kept : (M : World → Type 0) → IsKeptBySteps M → (es : List Event) (w : World) → HasForms w → M w → M (play w es).1
play_kept M keeps [] w forms h = h
play_kept M keeps (e ∷ es) w forms h = play_kept M keeps es (step w e).1 (HasForms-step w forms e) (step_kept M keeps w (readable w forms) h e)
