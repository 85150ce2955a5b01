-- A run under another sheet of the same base month goes the same way, where neither sheet lacks a price.
use Rattle.std.proofs.Common.{◌≡◌, ℕ, Bool, true, false, List, [], ◌∷◌, map, refl, sym, ap, subst, ◌∙◌, Option, Some, None, Result, Ok, Err, ok_or, nat_lt, nat_le}
use Rattle.std.specs.Prelude.{◌≢◌, slice_get, ◌==◌, ◌&&◌, not, if◌then◌else◌}
use Rattle.std.proofs.lemmas.List.Elements.{All-nil, All-cons, All-head, All-tail}
use Rattle.metering_model.specs.FirstFailure.{◌>>=◌, holds_or}
use Rattle.metering_model.specs.Batch.{Batch, Record, Reads, Amends}
use Rattle.metering_model.specs.BatchReading.{is_same}
use Rattle.metering_model.specs.Sheet.{Sheet, Issuer}
use Rattle.metering_model.specs.Holding.{Holding, Position, Placed, placed, put}
use Rattle.metering_model.specs.JournalRules.{next_seq, is_fit_reading, broken_by, first_broken}
use Rattle.metering_model.specs.declared.BrokenRule.{BrokenRule}
use Rattle.metering_model.specs.declared.BrokenRule.TheVariants.{Unpriced}
use Rattle.metering_model.specs.declared.Refusal.{Refusal}
use Rattle.metering_model.specs.declared.Refusal.TheVariants.{NoNode, NoAgent, WrongSeq, NoPacket, NotClosed, AllClosed, NoBallot, Observer, NotKept}
use Rattle.metering_model.specs.declared.Refusal.TheVariants.{Unpriced as IsUnpriced}
use Rattle.metering_model.specs.Front.{front}
use Rattle.metering_model.specs.KeptText.{kept_text}
use Rattle.metering_model.specs.Ballot.{Vote, Attempt, with_promise, has_majority}
use Rattle.metering_model.specs.World.{Packet, CarriesBatch, Prepare, Promise, Accept, Accepted, Decided, Node, World, Offer, Event, Journal}
use Rattle.metering_model.specs.World.{Deliver, Start, Restart, Export, Keep, Revive, Snapshot, Reply, Journaled, Delivered, Started, Restarted}
use Rattle.metering_model.specs.World.{Exported, KeptText, Refused, voter_count, votes, current_period, last_cut, with_packet, next_packet, opening}
use Rattle.metering_model.specs.Deliveries.{Handled, silent, sending, if_votes, proposal, after_promise, handled}
use Rattle.metering_model.specs.Step.{Outcome, batch_of, unless_broken, on_batch, after_delivery, first_missing, unless_missing, kept_of, kept_now, snapshot, outcome_of, or_refused, replies_then, step, play}
use Rattle.sheet_laws.specs.Runs.{under_sheet, world_under, AreAllPriced, PricesAllOf}

-- ---- what another sheet does to an outcome

abbrev pub mapped : {A B : Type 0} → (A → B) → Result A Refusal → Result B Refusal
mapped f (Ok x) = Ok (f x)
mapped f (Err e) = Err e

abbrev pub outcome_under : Sheet → Outcome → Outcome
outcome_under new o = (under_sheet new o.0, world_under new o.1)

chain_mapped : {A B C : Type 0} (h : B → C) (r : Result A Refusal) (f : A → Result C Refusal) (g : A → Result B Refusal) → ((x : A) → f x ≡ mapped h (g x)) → (r >>= f) ≡ mapped h (r >>= g)
chain_mapped h (Ok x) f g each = each x
chain_mapped h (Err e) f g each = refl

-- a chain whose first step is another one's, mapped
chain_behind : {A B C D : Type 0} (h : A → B) (k : C → D) (r : Result A Refusal) (f : B → Result D Refusal) (g : A → Result C Refusal) → ((x : A) → f (h x) ≡ mapped k (g x)) → (mapped h r >>= f) ≡ mapped k (r >>= g)
chain_behind h k (Ok x) f g each = each x
chain_behind h k (Err e) f g each = refl

-- ---- the journals' rules

abbrev or_next : Option BrokenRule → Option BrokenRule → Option BrokenRule
or_next first later = elim first [ Some rule ↦ Some rule | None ↦ later ]

module _ (old new : Sheet) (h : Holding) where
  by_fit : (a b : Bool) (rest_old rest_new : Option BrokenRule) →
      (or_next (if a then None else Some Unpriced) rest_old ≡ Some Unpriced → ⊥) → (or_next (if b then None else Some Unpriced) rest_new ≡ Some Unpriced → ⊥) →
      ((rest_old ≡ Some Unpriced → ⊥) → (rest_new ≡ Some Unpriced → ⊥) → rest_new ≡ rest_old) →
      or_next (if b then None else Some Unpriced) rest_new ≡ or_next (if a then None else Some Unpriced) rest_old
  by_fit true true rest_old rest_new p q rest = rest p q
  by_fit true false rest_old rest_new p q rest = absurd (q refl)
  by_fit false b rest_old rest_new p q rest = absurd (p refl)

  by_rule : (o rest_old rest_new : Option BrokenRule) →
      (or_next o rest_old ≡ Some Unpriced → ⊥) → (or_next o rest_new ≡ Some Unpriced → ⊥) →
      ((rest_old ≡ Some Unpriced → ⊥) → (rest_new ≡ Some Unpriced → ⊥) → rest_new ≡ rest_old) →
      or_next o rest_new ≡ or_next o rest_old
  by_rule None rest_old rest_new p q rest = rest p q
  by_rule (Some rule) rest_old rest_new p q rest = refl

  by_record : (at : Position) (what : Record) (rest_old rest_new : Option BrokenRule) →
      (or_next (broken_by old h at what) rest_old ≡ Some Unpriced → ⊥) → (or_next (broken_by new h at what) rest_new ≡ Some Unpriced → ⊥) →
      ((rest_old ≡ Some Unpriced → ⊥) → (rest_new ≡ Some Unpriced → ⊥) → rest_new ≡ rest_old) →
      or_next (broken_by new h at what) rest_new ≡ or_next (broken_by old h at what) rest_old
  by_record at (Reads r) rest_old rest_new p q rest = by_fit (is_fit_reading old r) (is_fit_reading new r) rest_old rest_new p q rest
  by_record at (Amends seq index value) rest_old rest_new p q rest = by_rule (broken_by old h at (Amends seq index value)) rest_old rest_new p q rest

  -- where neither sheet lacks a price or a commitment, the same rule is broken first
  pub same_broken : (xs : List Placed) → (first_broken old h xs ≡ Some Unpriced → ⊥) → (first_broken new h xs ≡ Some Unpriced → ⊥) → first_broken new h xs ≡ first_broken old h xs
  same_broken [] p q = refl
  same_broken (x ∷ xs) p q = by_record x.place x.what (first_broken old h xs) (first_broken new h xs) p q (same_broken xs)

  -- ---- the same, where the new sheet prices all that the old one does

  module _ (prices : PricesAllOf old new) where
    by_fit_too : (a b : Bool) (rest_old rest_new : Option BrokenRule) → (a ≡ true → b ≡ true) →
        (or_next (if a then None else Some Unpriced) rest_old ≡ Some Unpriced → ⊥) → ((rest_old ≡ Some Unpriced → ⊥) → rest_new ≡ rest_old) →
        or_next (if b then None else Some Unpriced) rest_new ≡ or_next (if a then None else Some Unpriced) rest_old
    by_fit_too true true rest_old rest_new fit p rest = rest p
    by_fit_too true false rest_old rest_new fit p rest = let never = fit refl in absurd (cc)
    by_fit_too false b rest_old rest_new fit p rest = absurd (p refl)

    by_record_too : (at : Position) (what : Record) (rest_old rest_new : Option BrokenRule) →
        (or_next (broken_by old h at what) rest_old ≡ Some Unpriced → ⊥) → ((rest_old ≡ Some Unpriced → ⊥) → rest_new ≡ rest_old) →
        or_next (broken_by new h at what) rest_new ≡ or_next (broken_by old h at what) rest_old
    by_record_too at (Reads r) rest_old rest_new p rest = by_fit_too (is_fit_reading old r) (is_fit_reading new r) rest_old rest_new (prices r) p rest
    by_record_too at (Amends seq index value) rest_old rest_new p rest = by_rule_too (broken_by old h at (Amends seq index value)) p
      where
        by_rule_too : (o : Option BrokenRule) → (or_next o rest_old ≡ Some Unpriced → ⊥) → or_next o rest_new ≡ or_next o rest_old
        by_rule_too None p = rest p
        by_rule_too (Some rule) p = refl

    pub priced_broken : (xs : List Placed) → (first_broken old h xs ≡ Some Unpriced → ⊥) → first_broken new h xs ≡ first_broken old h xs
    priced_broken [] p = refl
    priced_broken (x ∷ xs) p = by_record_too x.place x.what (first_broken old h xs) (first_broken new h xs) p (priced_broken xs)

-- ---- one step

module _ (new : Sheet) (w : World) where
  abbrev under : World
  under = world_under new w

  -- a batch that comes to the rules on prices breaks the same rule first
  abbrev pub BreaksTheSame : Batch → Type 0
  BreaksTheSame b = nat_le b.agent w.agents ≡ true → (b.seq == next_seq w.journals b.agent) ≡ true →
      first_broken new (put w.journals b) (placed b) ≡ first_broken w.sheet (put w.journals b) (placed b)

  abbrev behind_rules : World → Batch → Option BrokenRule → Result Outcome Refusal
  behind_rules v b o = unless_broken o >>= λ _. next_packet v >>= λ k. Ok (Journaled k, with_packet (CarriesBatch b) (record v { journals = put v.journals b }))

  rules_moved : (b : Batch) (o : Option BrokenRule) → behind_rules under b o ≡ mapped (outcome_under new) (behind_rules w b o)
  rules_moved b o = chain_mapped (outcome_under new) (unless_broken o) _ _ (λ _. chain_mapped (outcome_under new) (next_packet w) _ _ (λ k. refl))

  batch_by_tests : (b : Batch) (s t : Bool) (o p : Option BrokenRule) → (s ≡ true → t ≡ true → p ≡ o) →
      (holds_or s NoAgent >>= λ _. holds_or t (WrongSeq (next_seq w.journals b.agent)) >>= λ _. behind_rules under b p)
      ≡ mapped (outcome_under new) (holds_or s NoAgent >>= λ _. holds_or t (WrongSeq (next_seq w.journals b.agent)) >>= λ _. behind_rules w b o)
  batch_by_tests b false t o p same = refl
  batch_by_tests b true false o p same = refl
  batch_by_tests b true true o p same = ap (behind_rules under b) (same refl refl) ∙ rules_moved b o

  pub batch_moved : (b : Batch) → BreaksTheSame b → on_batch under b ≡ mapped (outcome_under new) (on_batch w b)
  batch_moved b same = batch_by_tests b (nat_le b.agent w.agents) (b.seq == next_seq w.journals b.agent) (first_broken w.sheet (put w.journals b) (placed b)) (first_broken new (put w.journals b) (placed b)) same

  journal_moved : (r : Result Batch Refusal) → ((b : Batch) → r ≡ Ok b → BreaksTheSame b) → (r >>= on_batch under) ≡ mapped (outcome_under new) (r >>= on_batch w)
  journal_moved (Ok b) same = batch_moved b (same b refl)
  journal_moved (Err e) same = refl

  -- ---- deliveries

  module _ (base : new.base ≡ w.sheet.base) (i : ℕ) (n : Node) where
    same_proposal : (o : Option Vote) → proposal under n o ≡ proposal w n o
    same_proposal (Some v) = refl
    same_proposal None = ap (λ b. front b n.kept.holding (last_cut w.agents n.kept.learned) (current_period n)) base

    abbrev promised_by : World → (from period ballot : ℕ) → Option Vote → Option Attempt → Handled
    promised_by v from period ballot vote o = elim o [
      | None ↦ silent n
      | Some a ↦ if (period == current_period n) && (a.ballot == ballot) && not a.sent then after_promise v n period ballot (with_promise from vote a) else silent n
    ]

    same_promise : (from period ballot : ℕ) (vote : Option Vote) (o : Option Attempt) → promised_by under from period ballot vote o ≡ promised_by w from period ballot vote o
    same_promise from period ballot vote None = refl
    same_promise from period ballot vote (Some a) =
        ap (λ c. if (period == current_period n) && (a.ballot == ballot) && not a.sent
        then (if has_majority (voter_count w) (with_promise from vote a).promising
        then sending (Accept period ballot c) (record n { attempt = Some (record (with_promise from vote a) { sent = true }) })
        else silent (record n { attempt = Some (with_promise from vote a) }))
        else silent n) (same_proposal (with_promise from vote a).told)

    same_handled : (q : Packet) → handled under i n q ≡ handled w i n q
    same_handled (CarriesBatch b) = refl
    same_handled (Prepare period ballot) = refl
    same_handled (Promise from period ballot vote) = ap (if_votes w i n) (same_promise from period ballot vote n.attempt)
    same_handled (Accept period ballot cut) = refl
    same_handled (Accepted from period ballot cut) = refl
    same_handled (Decided period cut) = refl

  delivered : (i : ℕ) (h : Handled) → after_delivery under i h ≡ mapped (outcome_under new) (after_delivery w i h)
  delivered i h = by_sends h.sends
    where
      by_sends : (o : Option Packet) → after_delivery under i (record h { sends = o }) ≡ mapped (outcome_under new) (after_delivery w i (record h { sends = o }))
      by_sends None = refl
      by_sends (Some p) = chain_mapped (outcome_under new) (next_packet w) _ _ (λ k. refl)

  -- ---- all events

  abbrev snapshot_under : Snapshot → Snapshot
  snapshot_under s = record s { sheet = new }

  snapshot_moved : (i p : ℕ) → snapshot under i p ≡ mapped snapshot_under (snapshot w i p)
  snapshot_moved i p =
      chain_mapped snapshot_under (ok_or (slice_get w.nodes i) NoNode) _ _ (λ n.
      chain_mapped snapshot_under (ok_or (slice_get n.kept.learned p) (NotClosed (current_period n))) _ _ (λ to.
      chain_mapped snapshot_under (unless_missing (first_missing n.kept.holding to)) _ _ (λ _. refl)))

  outcome_moved : new.base ≡ w.sheet.base → (e : Event) → ((offer : Offer) (b : Batch) → e ≡ Journal offer → batch_of offer ≡ Ok b → BreaksTheSame b) → outcome_of under e ≡ mapped (outcome_under new) (outcome_of w e)
  outcome_moved base (Journal offer) same = journal_moved (batch_of offer) (λ b is. same offer b refl is)
  outcome_moved base (Deliver k i) same =
      chain_mapped (outcome_under new) (ok_or (slice_get w.packets k) NoPacket) _ _ (λ q.
      chain_mapped (outcome_under new) (ok_or (slice_get w.nodes i) NoNode) _ _ (λ n.
      ap (after_delivery under i) (same_handled base i n q) ∙ delivered i (handled w i n q)))
  outcome_moved base (Start i) same =
      chain_mapped (outcome_under new) (ok_or (slice_get w.nodes i) NoNode) _ _ (λ n.
      chain_mapped (outcome_under new) (holds_or (votes w i) Observer) _ _ (λ _.
      chain_mapped (outcome_under new) (holds_or (nat_lt (current_period n) 1_200) AllClosed) _ _ (λ _.
      chain_mapped (outcome_under new) (holds_or (nat_lt n.kept.round 10_000) NoBallot) _ _ (λ _.
      chain_mapped (outcome_under new) (next_packet w) _ _ (λ k. refl)))))
  outcome_moved base (Restart i) same = chain_mapped (outcome_under new) (ok_or (slice_get w.nodes i) NoNode) _ _ (λ n. refl)
  outcome_moved base (Export i p) same = ap (λ r. r >>= λ s. Ok (Exported s, under)) (snapshot_moved i p) ∙ chain_behind snapshot_under (outcome_under new) (snapshot w i p) _ _ (λ s. refl)
  outcome_moved base (Keep i) same = chain_mapped (outcome_under new) (ok_or (slice_get w.nodes i) NoNode) _ _ (λ n. refl)
  outcome_moved base (Revive i offer) same =
      chain_mapped (outcome_under new) (ok_or (slice_get w.nodes i) NoNode) _ _ (λ n.
      chain_mapped (outcome_under new) (kept_of offer) _ _ (λ k.
      chain_mapped (outcome_under new) (holds_or (is_same (kept_text k) (kept_text (kept_now w n))) NotKept) _ _ (λ _. refl)))

  answered : (r : Result Outcome Refusal) → or_refused under (mapped (outcome_under new) r) ≡ outcome_under new (or_refused w r)
  answered (Ok o) = refl
  answered (Err e) = refl

  pub step_moved : new.base ≡ w.sheet.base → (e : Event) → ((offer : Offer) (b : Batch) → e ≡ Journal offer → batch_of offer ≡ Ok b → BreaksTheSame b) → step under e ≡ outcome_under new (step w e)
  step_moved base e same = ap (or_refused under) (outcome_moved base e same) ∙ answered (outcome_of w e)

-- a step keeps the sheet
pub step_keeps_sheet : (w : World) (e : Event) → (step w e).1.sheet ≡ w.sheet
step_keeps_sheet w e = ap (λ (o : Outcome). o.1.sheet) (step_moved w.sheet w refl e (λ offer b is read one two. refl))

-- ---- a whole run

-- a batch that comes to the rules on prices is not refused by them
module _ (w : World) where
  abbrev IsRefused : Batch → Type 0
  IsRefused b = on_batch w b ≡ Err IsUnpriced

  refused_by_rules : (b : Batch) → nat_le b.agent w.agents ≡ true → (b.seq == next_seq w.journals b.agent) ≡ true → first_broken w.sheet (put w.journals b) (placed b) ≡ Some Unpriced → IsRefused b
  refused_by_rules b one two broken = rw one (rw two (rw broken refl))

  refused_in_step : (offer : Offer) (b : Batch) → batch_of offer ≡ Ok b → IsRefused b → (step w (Journal offer)).0 ≡ Refused IsUnpriced
  refused_in_step offer b read refused = ap (λ (r : Result Batch Refusal). (or_refused w (r >>= on_batch w)).0) read ∙ ap (λ (r : Result Outcome Refusal). (or_refused w r).0) refused

-- the batch breaks the same rule, or is refused for a price under one of the sheets
pub breaks_the_same : (new : Sheet) (w : World) (b : Batch) → (on_batch w b ≡ Err IsUnpriced → ⊥) → (on_batch (world_under new w) b ≡ Err IsUnpriced → ⊥) → BreaksTheSame new w b
breaks_the_same new w b p q one two =
    same_broken w.sheet new (put w.journals b) (placed b)
    (λ broken. p (refused_by_rules w b one two broken))
    (λ broken. q (refused_by_rules (world_under new w) b one two broken))

pub priced_breaks_the_same : (new : Sheet) (w : World) (b : Batch) → PricesAllOf w.sheet new → (on_batch w b ≡ Err IsUnpriced → ⊥) → BreaksTheSame new w b
priced_breaks_the_same new w b prices p one two = priced_broken w.sheet new (put w.journals b) prices (placed b) (λ broken. p (refused_by_rules w b one two broken))

abbrev run_under : Sheet → List Reply × World → List Reply × World
run_under new run = (map (under_sheet new) run.0, world_under new run.1)

pub same_play : (new : Sheet) (w : World) (es : List Event) → new.base ≡ w.sheet.base → AreAllPriced (play w es).0 → AreAllPriced (play (world_under new w) es).0 → play (world_under new w) es ≡ run_under new (play w es)
same_play new w [] base p q = refl
same_play new w (e ∷ es) base p q =
    let here = All-head (λ (r : Reply). r ≢ Refused IsUnpriced) (step w e).0 _ p in
    let there = All-head (λ (r : Reply). r ≢ Refused IsUnpriced) (step (world_under new w) e).0 _ q in
    let moved = step_moved new w base e (λ offer b is read. breaks_the_same new w b
    (λ refused. here (ap (λ x. (step w x).0) is ∙ refused_in_step w offer b read refused))
    (λ refused. there (ap (λ x. (step (world_under new w) x).0) is ∙ refused_in_step (world_under new w) offer b read refused))) in
    let later = All-tail (λ (r : Reply). r ≢ Refused IsUnpriced) (step (world_under new w) e).0 _ q in
    let base_later : new.base ≡ (step w e).1.sheet.base = base ∙ ap (λ (s : Sheet). s.base) (sym (step_keeps_sheet w e)) in
    let rest = same_play new (step w e).1 es base_later (All-tail (λ (r : Reply). r ≢ Refused IsUnpriced) (step w e).0 _ p)
    (subst (λ (o : Outcome). AreAllPriced (play o.1 es).0) moved later) in
    ap (λ (o : Outcome). replies_then o.0 (play o.1 es)) moved ∙ ap (replies_then (under_sheet new (step w e).0)) rest

pub still_priced_from : (new : Sheet) (w : World) (es : List Event) → new.base ≡ w.sheet.base → PricesAllOf w.sheet new → AreAllPriced (play w es).0 → AreAllPriced (play (world_under new w) es).0
still_priced_from new w [] base prices p = All-nil (λ (r : Reply). r ≢ Refused IsUnpriced)
still_priced_from new w (e ∷ es) base prices p =
    let here = All-head (λ (r : Reply). r ≢ Refused IsUnpriced) (step w e).0 _ p in
    let moved = step_moved new w base e (λ offer b is read. priced_breaks_the_same new w b prices
    (λ refused. here (ap (λ x. (step w x).0) is ∙ refused_in_step w offer b read refused))) in
    let kept = sym (step_keeps_sheet w e) in
    let rest = still_priced_from new (step w e).1 es (base ∙ ap (λ (s : Sheet). s.base) kept) (subst (λ (s : Sheet). PricesAllOf s new) kept prices)
    (All-tail (λ (r : Reply). r ≢ Refused IsUnpriced) (step w e).0 _ p) in
    subst (λ (o : Outcome). AreAllPriced (replies_then o.0 (play o.1 es)).0) (sym moved)
    (All-cons (λ (r : Reply). r ≢ Refused IsUnpriced) (under_sheet new (step w e).0) _ (not_refused (step w e).0 here) rest)
  where
    not_refused : (r : Reply) → r ≢ Refused IsUnpriced → under_sheet new r ≢ Refused IsUnpriced
    not_refused (Exported s) h = λ e. absurd (cc)
    not_refused (Journaled k) h = h
    not_refused (Delivered sent learned) h = h
    not_refused (Started ballot k) h = h
    not_refused Restarted h = h
    not_refused (KeptText text) h = h
    not_refused (Refused refusal) h = h

module _ (voters observers agents : ℕ) (old new : Sheet) (issuer : Issuer) (events : List Event) (base : new.base ≡ old.base) where
  pub same_replies : AreAllPriced (play (opening voters observers agents old issuer) events).0 → AreAllPriced (play (opening voters observers agents new issuer) events).0 →
      (play (opening voters observers agents new issuer) events).0 ≡ map (under_sheet new) (play (opening voters observers agents old issuer) events).0
  same_replies p q = ap (λ (run : List Reply × World). run.0) (same_play new (opening voters observers agents old issuer) events base p q)

  pub same_world : AreAllPriced (play (opening voters observers agents old issuer) events).0 → AreAllPriced (play (opening voters observers agents new issuer) events).0 →
      (play (opening voters observers agents new issuer) events).1 ≡ world_under new (play (opening voters observers agents old issuer) events).1
  same_world p q = ap (λ (run : List Reply × World). run.1) (same_play new (opening voters observers agents old issuer) events base p q)

  pub still_priced : PricesAllOf old new → AreAllPriced (play (opening voters observers agents old issuer) events).0 → AreAllPriced (play (opening voters observers agents new issuer) events).0
  still_priced prices p = still_priced_from new (opening voters observers agents old issuer) events base prices p
