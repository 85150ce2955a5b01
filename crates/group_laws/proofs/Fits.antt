-- Each cut that is asked for goes on from chosen ones, within the journals.
use Rattle.std.proofs.Common.{◌<◌, ◌≡◌, ℕ, ◌+◌, Bool, true, false, ◌&&◌, not, cond, List, [], ◌∷◌, ◌++◌, length, refl, sym, ap, subst, ◌∙◌, Option, Some, None, inl, inr, unwrap_or}
use Rattle.std.specs.Prelude.{slice_get, ◌==◌}
use Rattle.std.proofs.lemmas.Bool.{and_parts, eqb-true, ltb-true}
use Rattle.metering_model.specs.Batch.{Batch, IsWellFormed}
use Rattle.metering_model.specs.Cut.{Cut}
use Rattle.metering_model.specs.Holding.{Holding, IsHolding, IsPartOf, held, put}
use Rattle.metering_model.specs.JournalRules.{MeetsJournalRules}
use Rattle.metering_model.specs.Sheet.{Sheet, Issuer}
use Rattle.metering_model.specs.Ballot.{Vote, Attempt, has_majority, with_promise}
use Rattle.metering_model.specs.World.{World, Node, Packet, CarriesBatch, Prepare, Promise, Accept, Accepted, Decided, voter_count, votes, current_period, last_cut, wake, new_kept, opening_with}
use Rattle.metering_model.specs.Deliveries.{learning, Handled, silent, sending, on_prepare, on_promise, on_accept, unless_learned, if_votes, after_promise, proposal, handled}
use Rattle.metering_model.proofs.HoldingLaws.{IsHolding-nil, IsHolding-put, held-put_same}
use Rattle.metering_model.proofs.PartLaws.{part_of_itself, IsPartOf-trans, IsPartOf-put, IsPartOf-grown}
use Rattle.group_laws.proofs.Quorum.{In}
use Rattle.group_laws.proofs.Kept.{sent_split}
use Rattle.group_laws.proofs.Nodes.{AttemptIsKept, one_promise_more}
use Rattle.group_laws.proofs.StepCases.{after, started, start_packet, journaling, IsNext, IsKeptBySteps}
use Rattle.group_laws.proofs.Steps.{get-slice_set, get-replicate, none_sent}
use Rattle.group_laws.proofs.Told.{ChosenIn, ChosenIn-more, IsTold, IsTold-steps, IsTold-opening}
use Rattle.metering_model.proofs.Journals.{MeetsJournalRules-nil, MeetsJournalRules-put, next_not_held}
use Rattle.metering_model.proofs.Fronts.{GoesOn, GoesOn-more, front_goes_on}

-- The cut goes on from as many chosen cuts as there are earlier periods.
pub record IsFit (P : List Packet) (J : Holding) (N agents base p : ℕ) (c : Cut) : Type 0 where
  pub before : List Cut
  pub size : length before ≡ p
  pub is_period : p < 1_200
  pub chosen : (q : ℕ) (d : Cut) → slice_get before q ≡ Some d → ChosenIn P N q d
  pub goes_on : GoesOn base p J (last_cut agents before) c

IsFit-more : (P : List Packet) (q : Packet) (J K : Holding) (N agents base p : ℕ) (c : Cut) → IsPartOf J K → IsFit P J N agents base p c → IsFit (P ++ q ∷ []) K N agents base p c
IsFit-more P q J K N agents base p c more h = record {
  before = h.before;
  size = h.size;
  is_period = h.is_period;
  chosen = λ r d e. ChosenIn-more P q N r d (h.chosen r d e);
  goes_on = GoesOn-more base p J K (last_cut agents h.before) c more h.goes_on;
}

-- a holding that has nothing but what the journals have
pub record IsOf (J h : Holding) : Type 0 where
  pub is_holding : IsHolding h
  pub part : IsPartOf h J

pub IsOf-more : (J K h : Holding) → IsPartOf J K → IsOf J h → IsOf K h
IsOf-more J K h more is = record { is_holding = is.is_holding; part = IsPartOf-trans h J K is.part more }

IsOf-put : (J h : Holding) (b : Batch) → IsOf J h → IsWellFormed b → held J b.agent b.seq ≡ Some b → IsOf J (put h b)
IsOf-put J h b is well found = record { is_holding = IsHolding-put h b is.is_holding well; part = IsPartOf-put h J b is.is_holding is.part found }

-- an attempt is at a period that there is
abbrev pub IsOpen : ℕ → Option Attempt → Type 0
IsOpen now None = Unit {0}
IsOpen now (Some a) = now < 1_200

pub record NodeFits (J : Holding) (now : ℕ) (h : Holding) (attempt : Option Attempt) : Type 0 where
  pub of : IsOf J h
  pub going : IsOpen now attempt

abbrev pub Fits : Holding → Node → Type 0
Fits J n = NodeFits J (current_period n) n.kept.holding n.attempt

Fits-more : (J K : Holding) (n : Node) → IsPartOf J K → Fits J n → Fits K n
Fits-more J K n more f = record { of = IsOf-more J K n.kept.holding more f.of; going = f.going }

pub record IsFitting (N : ℕ) (w : World) : Type 0 where
  pub told : IsTold N w
  pub rules : MeetsJournalRules w.sheet w.journals
  pub carried : (b : Batch) → In w.packets (CarriesBatch b) → IsWellFormed b × (held w.journals b.agent b.seq ≡ Some b)
  pub holdings : (i : ℕ) (n : Node) → slice_get w.nodes i ≡ Some n → Fits w.journals n
  pub asked : (p b : ℕ) (c : Cut) → In w.packets (Accept p b c) → IsFit w.packets w.journals N w.agents w.sheet.base p c

-- ---- what nodes send

abbrev SendsFit : World → ℕ → Packet → Type 0
SendsFit w N (CarriesBatch b) = ⊥
SendsFit w N (Prepare p b) = Unit {0}
SendsFit w N (Promise i p b v) = Unit {0}
SendsFit w N (Accept p b c) = IsFit w.packets w.journals N w.agents w.sheet.base p c
SendsFit w N (Accepted i p b c) = Unit {0}
SendsFit w N (Decided p c) = Unit {0}

abbrev MaySend : World → ℕ → Option Packet → Type 0
MaySend w N None = Unit {0}
MaySend w N (Some q) = SendsFit w N q

abbrev Does : World → ℕ → Handled → Type 0
Does w N h = Fits w.journals h.node × MaySend w N h.sends

fitting_after : (N : ℕ) (w : World) (i : ℕ) (n : Node) (o : Option Packet) → IsFitting N w → IsTold N (after w i n o) → Fits w.journals n → MaySend w N o → IsFitting N (after w i n o)
fitting_after N w i n None h told of fit = record {
  told = told;
  rules = h.rules;
  carried = h.carried;
  holdings = λ j m e. elim (get-slice_set w.nodes i j n m e) [
    | inl here ↦ subst (Fits w.journals) (sym here.1) of
    | inr there ↦ h.holdings j m there.1
  ];
  asked = h.asked;
}
fitting_after N w i n (Some q) h told of fit = record {
  told = told;
  rules = h.rules;
  carried = λ b sent. elim (sent_split w.packets q _ sent) [
    | inl old ↦ h.carried b old
    | inr new ↦ absurd (subst (SendsFit w N) new fit)
  ];
  holdings = λ j m e. elim (get-slice_set w.nodes i j n m e) [
    | inl here ↦ subst (Fits w.journals) (sym here.1) of
    | inr there ↦ h.holdings j m there.1
  ];
  asked = λ p b c sent. IsFit-more w.packets q w.journals w.journals N w.agents w.sheet.base p c (part_of_itself w.journals) (elim (sent_split w.packets q _ sent) [
    | inl old ↦ h.asked p b c old
    | inr new ↦ subst (SendsFit w N) new fit
  ]);
}

module _ (N : ℕ) (w : World) (h : IsFitting N w) (i : ℕ) (n : Node) (found : slice_get w.nodes i ≡ Some n) where
  fits : Fits w.journals n
  fits = h.holdings i n found

  of : IsOf w.journals n.kept.holding
  of = fits.of

  by_flag : (b : Bool) (x y : Handled) → (b ≡ true → Does w N x) → Does w N y → Does w N (cond b x y)
  by_flag true x y f k = f refl
  by_flag false x y f k = k

  by_learned : (p : ℕ) (x : Handled) → Does w N x → Does w N (unless_learned p n x)
  by_learned p x d = either (slice_get n.kept.learned p)
    where
      either : (o : Option Cut) → Does w N (elim o [ Some cut ↦ sending (Decided p cut) n | None ↦ x ])
      either (Some cut) = (fits, tt)
      either None = d

  by_vote : (x : Handled) → (i < N → Does w N x) → Does w N (if_votes w i n x)
  by_vote x d = by_flag (votes w i) x (silent n) (λ e. d (subst (λ k. i < k) h.told.kept.count (ltb-true _ _ e))) (fits, tt)

  learns : (c : Cut) → Does w N (learning c n)
  learns c = (record { of = of; going = tt }, tt)

  -- the cut that a proposer sends
  proposal_fits : (a : Attempt) → current_period n < 1_200 → AttemptIsKept w.packets N i n.kept.round (current_period n) a → IsFit w.packets w.journals N w.agents w.sheet.base (current_period n) (proposal w n a.told)
  proposal_fits a going kept = by_told a.told refl
    where
      by_told : (o : Option Vote) → a.told ≡ o → IsFit w.packets w.journals N w.agents w.sheet.base (current_period n) (proposal w n o)
      by_told None e = record {
        before = n.kept.learned;
        size = refl;
        is_period = going;
        chosen = (h.told.nodes i n found).chosen;
        goes_on = GoesOn-more w.sheet.base (current_period n) n.kept.holding w.journals (last_cut w.agents n.kept.learned) _ of.part (front_goes_on w.sheet.base (current_period n) n.kept.holding (last_cut w.agents n.kept.learned));
      }
      by_told (Some v) e =
          let one = kept.told v e in
          let safe = h.told.kept.safe in
          let truth = safe.true_promise one.0 (current_period n) a.ballot (Some v) one.1 in
          h.asked (current_period n) v.ballot v.cut (safe.asked one.0 (current_period n) v.ballot v.cut truth.1)

  promised : (from p b : ℕ) (v : Option Vote) → In w.packets (Promise from p b v) → i < N → Does w N (on_promise w n from p b v)
  promised from p b v was within = by_attempt n.attempt refl
    where
      waiting : (a : Attempt) → n.attempt ≡ Some a → ((p == current_period n) && (a.ballot == b) && not a.sent) ≡ true → Does w N (after_promise w n p b (with_promise from v a))
      waiting a is e =
          let both = and_parts ((p == current_period n) && (a.ballot == b)) (not a.sent) e in
          let tests = and_parts (p == current_period n) (a.ballot == b) both.0 in
          let at : p ≡ current_period n = eqb-true _ _ tests.0 in
          let same : a.ballot ≡ b = eqb-true _ _ tests.1 in
          let more = one_promise_more w.packets N i n.kept.round (current_period n) from v a (subst (λ r. In w.packets (Promise from r a.ballot v)) at (subst (λ k. In w.packets (Promise from p k v)) (sym same) was)) ((h.told.kept.nodes i n within found).attempt a is) in
          let going : current_period n < 1_200 = subst (IsOpen (current_period n)) is fits.going in
          let waits : Fits w.journals (record n { attempt = Some (with_promise from v a) }) = record { of = of; going = going } in
          let sent : Fits w.journals (record n { attempt = Some (record (with_promise from v a) { sent = true }) }) = record { of = of; going = going } in
          by_flag (has_majority (voter_count w) (with_promise from v a).promising) _ _
          (λ many. (sent, subst (λ r. IsFit w.packets w.journals N w.agents w.sheet.base r (proposal w n (with_promise from v a).told)) (sym at) (proposal_fits (with_promise from v a) going more)))
          (waits, tt)

      by_attempt : (o : Option Attempt) → n.attempt ≡ o → Does w N (elim o [ None ↦ silent n | Some a ↦ cond ((p == current_period n) && (a.ballot == b) && not a.sent) (after_promise w n p b (with_promise from v a)) (silent n) ])
      by_attempt None is = (fits, tt)
      by_attempt (Some a) is = by_flag ((p == current_period n) && (a.ballot == b) && not a.sent) (after_promise w n p b (with_promise from v a)) (silent n) (waiting a is) (fits, tt)

  does : (q : Packet) → In w.packets q → Does w N (handled w i n q)
  does (CarriesBatch b) was = let real = h.carried b was in (record { of = IsOf-put w.journals n.kept.holding b of real.0 real.1; going = fits.going }, tt)
  does (Prepare p b) was = by_learned p (if_votes w i n (on_prepare i n p b)) (by_vote (on_prepare i n p b) (λ within. by_flag _ _ _ (λ e. (fits, tt)) (fits, tt)))
  does (Promise from p b v) was = by_vote (on_promise w n from p b v) (promised from p b v was)
  does (Accept p b c) was = by_learned p (if_votes w i n (on_accept i n p b c)) (by_vote (on_accept i n p b c) (λ within. by_flag _ _ _ (λ e. (fits, tt)) (fits, tt)))
  does (Accepted from p b c) was = by_flag (p == current_period n) _ (silent n) (λ e. by_flag _ _ _ (λ many. learns c) (fits, tt)) (fits, tt)
  does (Decided p c) was = by_flag (p == current_period n) _ (silent n) (λ e. learns c) (fits, tt)

-- ---- a step

journaled : (N : ℕ) (w : World) (b : Batch) → IsFitting N w → IsNext w b → IsTold N (journaling w b) → IsFitting N (journaling w b)
journaled N w b h next told = record {
  told = told;
  rules = MeetsJournalRules-put w.sheet w.journals b h.rules next.well_formed next.seq next.none_broken;
  carried = λ c sent. elim (sent_split w.packets (CarriesBatch b) _ sent) [
    | inl old ↦ let real = h.carried c old in (real.0, more.had c.agent c.seq c real.1)
    | inr new ↦ let same : b ≡ c = ap carried_by new in subst (λ (x : Batch). IsWellFormed x × (held (put w.journals b) x.agent x.seq ≡ Some x)) same (next.well_formed, found)
  ];
  holdings = λ j m e. Fits-more w.journals (put w.journals b) m more (h.holdings j m e);
  asked = λ p k c sent. elim (sent_split w.packets (CarriesBatch b) _ sent) [
    | inl old ↦ IsFit-more w.packets (CarriesBatch b) w.journals (put w.journals b) N w.agents w.sheet.base p c more (h.asked p k c old)
    | inr new ↦ absurd (cc)
  ];
}
  where
    more : IsPartOf w.journals (put w.journals b)
    more = IsPartOf-grown w.journals b h.rules.is_holding

    carried_by : Packet → Batch
    carried_by (CarriesBatch c) = c
    carried_by _ = b

    found : held (put w.journals b) b.agent b.seq ≡ Some b
    found =
        let none : held w.journals b.agent b.seq ≡ None = subst (λ s. held w.journals b.agent s ≡ None) (sym next.seq) (next_not_held w.sheet w.journals b.agent h.rules) in
        held-put_same w.journals b h.rules.is_holding ∙ ap (λ o. Some (unwrap_or o b)) none

module _ (N : ℕ) where
  steps : IsKeptBySteps (IsTold N)
  steps = IsTold-steps N

  pub IsFitting-steps : IsKeptBySteps (IsFitting N)
  IsFitting-steps = record {
    journals = λ w b h next. journaled N w b h next (steps.journals w b h.told next);
    delivers = λ w i n q h may.
        let well = does N w h i n may.found q may.sent in
        fitting_after N w i (handled w i n q).node (handled w i n q).sends h (steps.delivers w i n q h.told may) well.0 well.1;
    starts = λ w i n h may. fitting_after N w i (started w i n) (Some (start_packet w i n)) h (steps.starts w i n h.told may) (record { of = (h.holdings i n may.found).of; going = may.going }) tt;
    restarts = λ w i n h found. fitting_after N w i (wake n.kept) None h (steps.restarts w i n h.told found) (record { of = (h.holdings i n found).of; going = tt }) tt;
  }

pub IsFitting-opening : (room voters observers agents : ℕ) (sheet : Sheet) (issuer : Issuer) → IsFitting voters (opening_with room voters observers agents sheet issuer)
IsFitting-opening room voters observers agents sheet issuer = record {
  told = IsTold-opening room voters observers agents sheet issuer;
  rules = MeetsJournalRules-nil sheet;
  carried = λ b h. absurd (none_sent _ h);
  holdings = λ i n e. subst (Fits []) (sym (get-replicate (voters + observers) i (wake new_kept) n e)) (record { of = record { is_holding = IsHolding-nil; part = part_of_itself [] }; going = tt });
  asked = λ p b c h. absurd (none_sent _ h);
}
