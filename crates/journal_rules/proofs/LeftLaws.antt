-- The batches that are left from an agent's sequence on: the first of them, and those of the next agent.
use Rattle.std.proofs.Common.{◌≡◌, ℕ, zero, suc, ◌+◌, ◌<◌, ◌≤◌, Bool, true, false, [], ◌∷◌, length, filter, refl, sym, ap, ◌∙◌, arith, Some, inl, inr, cond}
use Rattle.std.specs.Prelude.{All, nat_le}
use Rattle.std.specs.List.{list_all}
use Rattle.std.proofs.lemmas.Bool.{and_parts, cond-true, cond-false, cases_Bool, leb-true, cases_lt}
use Rattle.std.proofs.lemmas.Bool.Decides.{nat_tests}
use Rattle.std.proofs.lemmas.List.{get_or_past}
use Rattle.std.proofs.lemmas.List.Elements.{All-head, All-tail, All-filter, filter_passes, All-weaker}
use Rattle.std.proofs.lemmas.Option.{same_Some}
use Rattle.metering_model.specs.Batch.{Batch, IsWellFormed}
use Rattle.metering_model.specs.Cut.{Cut, last_of}
use Rattle.metering_model.specs.Holding.{Holding, IsHolding, comes_before, is_in_order, is_batch_at, held, up_to}
use Rattle.metering_model.proofs.BatchOrder.{found_passes, in_order_parts, place_of_batch}
use Rattle.journal_rules.specs.Inner.Left.{is_from, left}

-- ---- tests

pub from_here : (a s : ℕ) (b : Batch) → b.agent ≡ a → b.seq ≡ s → (is_from a s b ≡ true) × (is_from a (s + 1) b ≡ false)
from_here a s b e f = (grind (arith, nat_tests), grind (arith, nat_tests))

from_behind : (a s : ℕ) (b c : Batch) → comes_before b c ≡ true → b.agent ≡ a → b.seq ≡ s → is_from a s c ≡ is_from a (s + 1) c
from_behind a s b c before e f = grind (arith, nat_tests)

from_before : (a s : ℕ) (b c : Batch) → comes_before b c ≡ true → c.agent ≡ a → c.seq ≡ s → (is_from a s b ≡ false) × (is_from a (s + 1) b ≡ false)
from_before a s b c before e f = (grind (arith, nat_tests), grind (arith, nat_tests))

-- ---- filters

pub filter-same : (p q : Batch → Bool) (k : Holding) → All (λ b. p b ≡ q b) k → filter p k ≡ filter q k
filter-same p q [] same = refl
filter-same p q (b ∷ k) same =
    let Same = λ (b : Batch). p b ≡ q b in
    ap (λ t. cond t (b ∷ filter p k) (filter p k)) (All-head Same b k same)
    ∙ ap (λ k'. cond (q b) (b ∷ k') k') (filter-same p q k (All-tail Same b k same))

pub filter-all : (p : Batch → Bool) (k : Holding) → All (λ b. p b ≡ true) k → filter p k ≡ k
filter-all p [] all = refl
filter-all p (b ∷ k) all =
    let Passes = λ (b : Batch). p b ≡ true in
    cond-true (p b) (b ∷ filter p k) (filter p k) (All-head Passes b k all) ∙ ap (λ k'. b ∷ k') (filter-all p k (All-tail Passes b k all))

pub filter-none : (p : Batch → Bool) (k : Holding) → All (λ b. p b ≡ false) k → filter p k ≡ []
filter-none p [] all = refl
filter-none p (b ∷ k) all =
    let Fails = λ (b : Batch). p b ≡ false in
    cond-false (p b) (b ∷ filter p k) (filter p k) (All-head Fails b k all) ∙ filter-none p k (All-tail Fails b k all)

-- ---- the first batch that is left

same_behind : (a s : ℕ) (b : Batch) (k : Holding) → list_all (comes_before b) k ≡ true → b.agent ≡ a → b.seq ≡ s → left a s k ≡ left a (s + 1) k
same_behind a s b [] before e f = refl
same_behind a s b (c ∷ k) before e f =
    let parts = and_parts (comes_before b c) (list_all (comes_before b) k) before in
    ap (λ t. cond t (c ∷ left a s k) (left a s k)) (from_behind a s b c parts.0 e f)
    ∙ ap (λ k'. cond (is_from a (s + 1) c) (c ∷ k') k') (same_behind a s b k parts.1 e f)

-- A batch that is held is the first from its own place on, and the others are those behind it.
pub left_first : (k : Holding) (a s : ℕ) (b : Batch) → is_in_order k ≡ true → held k a s ≡ Some b → left a s k ≡ b ∷ left a (s + 1) k
left_first [] a s b o found = absurd (cc)
left_first (c ∷ k) a s b o found =
    let parts = in_order_parts c k o in
    elim (cases_Bool (is_batch_at a s c)) [
      | inl at ↦
          let place = place_of_batch a s c at in
          let tests = from_here a s c place.0 place.1 in
          let same : c ≡ b = same_Some c b (sym (cond-true (is_batch_at a s c) (Some c) (held k a s) at) ∙ found) in
          cond-true (is_from a s c) (c ∷ left a s k) (left a s k) tests.0
          ∙ (ap (λ k'. c ∷ k') (same_behind a s c k parts.0 place.0 place.1
          ∙ sym (cond-false (is_from a (s + 1) c) (c ∷ left a (s + 1) k) (left a (s + 1) k) tests.1))
          ∙ ap (λ x. x ∷ left a (s + 1) (c ∷ k)) same)
      | inr past ↦
          let later : held k a s ≡ Some b = sym (cond-false (is_batch_at a s c) (Some c) (held k a s) past) ∙ found in
          let passes = found_passes (is_batch_at a s) (comes_before c) k b parts.0 later in
          let place = place_of_batch a s b passes.0 in
          let tests = from_before a s c b passes.1 place.0 place.1 in
          cond-false (is_from a s c) (c ∷ left a s k) (left a s k) tests.0
          ∙ (left_first k a s b parts.1 later
          ∙ ap (λ k'. b ∷ k') (sym (cond-false (is_from a (s + 1) c) (c ∷ left a (s + 1) k) (left a (s + 1) k) tests.1)))
    ]

-- ---- up to a cut

-- where a batch up to a cut stands
pub record IsInCut (cut : Cut) (b : Batch) : Type 0 where
  pub agent_from : 1 ≤ b.agent
  pub agent_to : b.agent ≤ length cut
  pub seq_from : 1 ≤ b.seq
  pub within : b.seq ≤ last_of cut b.agent

agent_in : (cut : Cut) (agent seq : ℕ) → 1 ≤ seq → seq ≤ last_of cut agent → agent ≤ length cut
agent_in cut zero seq from within = omega arith
agent_in cut (suc a) seq from within = elim (cases_lt a (length cut)) [
  | inl inside ↦ omega arith
  | inr past ↦ let none = get_or_past cut a 0 past in absurd (omega (arith, none))
]

pub in_cut : (h : Holding) (cut : Cut) → IsHolding h → All (IsInCut cut) (up_to cut h)
in_cut h cut ok k d inside =
    let test = λ (b : Batch). nat_le b.seq (last_of cut b.agent) in
    let within = leb-true _ _ (filter_passes test h k d inside) in
    let well = All-filter test IsWellFormed h ok.batches k d inside in
    record {
      agent_from = well.agent.0;
      agent_to = agent_in cut _ _ well.seq.0 within;
      seq_from = well.seq.0;
      within = within;
    }

module _ (h : Holding) (cut : Cut) (ok : IsHolding h) where
  -- all batches stand from the first place on
  pub left_all : left 1 1 (up_to cut h) ≡ up_to cut h
  left_all = filter-all (is_from 1 1) (up_to cut h) (All-weaker (IsInCut cut) (λ b. is_from 1 1 b ≡ true) (λ b is. first_place b is.agent_from is.seq_from) (up_to cut h) (in_cut h cut ok))
    where
      first_place : (b : Batch) → 1 ≤ b.agent → 1 ≤ b.seq → is_from 1 1 b ≡ true
      first_place b e f = grind (arith, nat_tests)

  -- behind an agent's last batch stands the next agent's first
  pub left_next : (a s : ℕ) → last_of cut a < s → left a s (up_to cut h) ≡ left (a + 1) 1 (up_to cut h)
  left_next a s past = filter-same (is_from a s) (is_from (a + 1) 1) (up_to cut h) (All-weaker (IsInCut cut) (λ b. is_from a s b ≡ is_from (a + 1) 1 b) (λ b is. same b is) (up_to cut h) (in_cut h cut ok))
    where
      same_tests : (b : Batch) → 1 ≤ b.seq → (b.agent ≡ a → b.seq < s) → is_from a s b ≡ is_from (a + 1) 1 b
      same_tests b from below = grind (arith, nat_tests)

      same : (b : Batch) → IsInCut cut b → is_from a s b ≡ is_from (a + 1) 1 b
      same b is = same_tests b is.seq_from (λ e. let last : last_of cut b.agent ≡ last_of cut a = ap (last_of cut) e in let within = is.within in omega arith)

  -- behind the last agent there is none
  pub left_none : (a s : ℕ) → length cut < a → left a s (up_to cut h) ≡ []
  left_none a s past = filter-none (is_from a s) (up_to cut h) (All-weaker (IsInCut cut) (λ b. is_from a s b ≡ false) (λ b is. fails b is.agent_to) (up_to cut h) (in_cut h cut ok))
    where
      fails : (b : Batch) → b.agent ≤ length cut → is_from a s b ≡ false
      fails b within = grind (arith, nat_tests)
