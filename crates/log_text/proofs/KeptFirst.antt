-- What is read of a log has a text, and a log that begins with it goes on as the one that it was read of.
use Rattle.std.proofs.Common.{◌≡◌, ℕ, ◌≤◌, not, List, [], ◌∷◌, ◌++◌, length, All, Option, Some, None, Ok, refl, sym, ap, ◌∙◌, subst, arith, leb-true, eqb-true, length-append}
use Rattle.std.specs.Prelude.{nat_le, IsTrue}
use Rattle.std.specs.Option.{is_some}
use Rattle.std.proofs.lemmas.Bool.{and_parts}
use Rattle.std.proofs.lemmas.List.Elements.{All-nil, All-cons, All-head, All-tail, All-append}
use Rattle.std.proofs.lemmas.Option.{same_Some, none-some}
use Rattle.metering_model.specs.Batch.{Batch}
use Rattle.metering_model.specs.Holding.{Holding, held, put}
use Rattle.metering_model.specs.KeptText.{HasText, IsCutAmong, KeptAmong}
use Rattle.metering_model.proofs.BatchOrder.{put_cases}
use Rattle.metering_model.proofs.HoldingLaws.{IsHolding-nil, IsHolding-put}
use Rattle.log_text.specs.LogText.{BeginsRound, GoOn, HasIncrementText, HasLog, Increment, IsLogHead, Learns, LogHead, SetsBallots, Takes, among_with, goes_on, kept_after, kept_at_first, log_in, log_text, nothing_kept}
use Rattle.log_text.proofs.LogLaws.{AreFew, MayBeFirst, log_written}

-- ---- what is kept has a text

all_put : (P : Batch → Type 0) (h : Holding) (b : Batch) → P b → All P h → All P (put h b)
all_put P [] b new all = All-cons P b [] new all
all_put P (c ∷ h) b new all =
    put_cases (All P) b c h
    (λ _. All-cons P b (c ∷ h) new all)
    (λ _. All-cons P c (put h b) (All-head P c h all) (all_put P h b new (All-tail P c h all)))
    (λ _. all)

with_has_text : (i : Increment) (k : KeptAmong) → HasText k → HasIncrementText k.agents i → IsTrue (goes_on i k) → HasText (among_with i k)
with_has_text (BeginsRound round) k h is goes = record {
  agents = h.agents;
  round = is.1;
  periods = h.periods;
  learned = h.learned;
  promised = h.promised;
  vote = h.vote;
  is_holding = h.is_holding;
  in_range = h.in_range;
}
with_has_text (SetsBallots period a) k h is goes = record {
  agents = h.agents;
  round = h.round;
  periods = h.periods;
  learned = h.learned;
  promised = is.1;
  vote = is.2;
  is_holding = h.is_holding;
  in_range = h.in_range;
}
with_has_text (Learns period cut) k h is goes = record {
  agents = h.agents;
  round = h.round;
  periods = let size = length-append k.kept.learned (cut ∷ []) in let period = eqb-true period (length k.kept.learned) goes in let low = is.0 in omega (arith, size, period, low);
  learned = All-append (IsCutAmong k.agents) k.kept.learned (cut ∷ []) h.learned (All-cons (IsCutAmong k.agents) cut [] is.1 (All-nil (IsCutAmong k.agents)));
  promised = λ ballot e. absurd (none-some ballot e);
  vote = λ v e. absurd (none-some v e);
  is_holding = h.is_holding;
  in_range = h.in_range;
}
with_has_text (Takes b) k h is goes = record {
  agents = h.agents;
  round = h.round;
  periods = h.periods;
  learned = h.learned;
  promised = h.promised;
  vote = h.vote;
  is_holding = IsHolding-put k.kept.holding b h.is_holding is;
  in_range = all_put (λ c. c.agent ≤ k.agents) k.kept.holding b (leb-true b.agent k.agents (and_parts (nat_le b.agent k.agents) (not (is_some (held k.kept.holding b.agent b.seq))) goes).0) h.in_range;
}

pub after_has_text : (k : KeptAmong) (is : List Increment) → HasText k → GoOn k is → HasText (kept_after k is) × ((kept_after k is).agents ≡ k.agents)
after_has_text k [] h go = (h, refl)
after_has_text k (i ∷ is) h go = after_has_text (among_with i k) is (with_has_text i k h go.0 go.1) go.2

nothing_has_text : (agents : ℕ) → AreFew agents → HasText (nothing_kept agents)
nothing_has_text agents few = record {
  agents = few;
  round = omega arith;
  periods = omega arith;
  learned = All-nil (IsCutAmong agents);
  promised = λ ballot e. absurd (none-some ballot e);
  vote = λ v e. absurd (none-some v e);
  is_holding = IsHolding-nil;
  in_range = All-nil (λ b. b.agent ≤ agents);
}

first_has_text : (h : LogHead) (base : Option KeptAmong) → IsLogHead h → MayBeFirst h.agents base → HasText (kept_at_first h base) × ((kept_at_first h base).agents ≡ h.agents)
first_has_text h None is may = (nothing_has_text h.agents is.agents, refl)
first_has_text h (Some k) is may = may k refl

-- what is kept when these were added to what a log begins with
read_has_text : (h : LogHead) (base : Option KeptAmong) (is : List Increment) → IsLogHead h → MayBeFirst h.agents base → GoOn (kept_at_first h base) is → HasText (kept_after (kept_at_first h base) is) × ((kept_after (kept_at_first h base) is).agents ≡ h.agents)
read_has_text h base is head may go =
    let first = first_has_text h base head may in
    let last = after_has_text (kept_at_first h base) is first.0 go in
    (last.0, last.1 ∙ first.1)

pub log_has_text : (h : LogHead) (base : Option KeptAmong) (is : List Increment) → HasLog h base is → HasText (kept_after (kept_at_first h base) is) × ((kept_after (kept_at_first h base) is).agents ≡ h.agents)
log_has_text h base is has = read_has_text h base is has.head has.first has.go_on

-- ---- what is kept in between

go_on_apart : (k : KeptAmong) (before behind : List Increment) → GoOn k (before ++ behind) → GoOn k before × GoOn (kept_after k before) behind
go_on_apart k [] behind go = (tt, go)
go_on_apart k (i ∷ before) behind go = let more = go_on_apart (among_with i k) before behind go.2 in ((go.0, go.1, more.0), more.1)

after_both : (k : KeptAmong) (before behind : List Increment) → kept_after k (before ++ behind) ≡ kept_after (kept_after k before) behind
after_both k [] behind = refl
after_both k (i ∷ before) behind = after_both (among_with i k) before behind

-- a log that begins with it
pub kept_stands_first : (h : LogHead) (base : Option KeptAmong) (before behind : List Increment) → HasLog h base (before ++ behind) → length (log_text h (Some (kept_after (kept_at_first h base) before)) behind) ≤ 4_294_967_296
    → HasLog h (Some (kept_after (kept_at_first h base) before)) behind
kept_stands_first h base before behind has short =
    let go = go_on_apart (kept_at_first h base) before behind has.go_on in
    let now = kept_after (kept_at_first h base) before in
    record {
      head = has.head;
      first = λ k e. subst (λ c. HasText c × (c.agents ≡ h.agents)) (same_Some now k e) (read_has_text h base before has.head has.first go.0);
      go_on = go.1;
      short = short;
    }

pub read_alike : (h : LogHead) (base : Option KeptAmong) (before behind : List Increment) → HasLog h base (before ++ behind) → length (log_text h (Some (kept_after (kept_at_first h base) before)) behind) ≤ 4_294_967_296
    → log_in (log_text h (Some (kept_after (kept_at_first h base) before)) behind) ≡ log_in (log_text h base (before ++ behind))
read_alike h base before behind has short =
    log_written h (Some (kept_after (kept_at_first h base) before)) behind (kept_stands_first h base before behind has short)
    ∙ ap (λ k. Ok (record { head = h; kept = k })) (sym (after_both (kept_at_first h base) before behind))
    ∙ sym (log_written h base (before ++ behind) has)
