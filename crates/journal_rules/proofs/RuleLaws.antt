-- What misses nothing and breaks no rule up to a cut meets the rules of the journals.
use Rattle.std.proofs.Common.{◌≡◌, ℕ, zero, suc, ◌+◌, ◌≤◌, Bool, true, false, [], ◌∷◌, length, filter, refl, sym, ap, ◌∙◌, arith, None, inl, inr, cond}
use Rattle.std.specs.Prelude.{All, ◌==◌}
use Rattle.std.specs.List.{range_with_len}
use Rattle.std.proofs.lemmas.Bool.{cond-true, cases_Bool, eqb-true, eq-eqb}
use Rattle.std.proofs.lemmas.Bool.Decides.{nat_tests}
use Rattle.std.proofs.lemmas.List.Elements.{All-head, All-tail, All-weaker, filter_passes}
use Rattle.metering_model.specs.Batch.{Batch}
use Rattle.metering_model.specs.Sheet.{Sheet}
use Rattle.metering_model.specs.Cut.{Cut, last_of}
use Rattle.metering_model.specs.Holding.{Holding, IsHolding, held, up_to, sequences_of, records_in_order}
use Rattle.metering_model.specs.Step.{first_missing}
use Rattle.metering_model.specs.JournalRules.{MeetsJournalRules, first_broken}
use Rattle.metering_model.proofs.HoldingLaws.{IsHolding-up_to, held-up_to, held_place}
use Rattle.metering_model.proofs.Journals.{sequences-of_agent, sequences-of_another}
use Rattle.metering_model.proofs.MissingLaws.{some_of, held-up_to_where}
use Rattle.journal_rules.specs.Inner.Left.{is_from, left}
use Rattle.journal_rules.proofs.LeftLaws.{IsInCut, in_cut, left_first, left_next}

-- a filter that keeps an agent's batches keeps its sequences
sequences_kept : (a : ℕ) (p : Batch → Bool) (k : Holding) → All (λ b. b.agent ≡ a → p b ≡ true) k → sequences_of a (filter p k) ≡ sequences_of a k
sequences_kept a p [] all = refl
sequences_kept a p (b ∷ k) all =
    let Kept = λ (b : Batch). b.agent ≡ a → p b ≡ true in
    let rest = sequences_kept a p k (All-tail Kept b k all) in
    elim (cases_Bool (b.agent == a)) [
      | inl own ↦
          ap (sequences_of a) (cond-true (p b) (b ∷ filter p k) (filter p k) (All-head Kept b k all (eqb-true b.agent a own)))
          ∙ (sequences-of_agent a b (filter p k) own ∙ (ap (λ ss. b.seq ∷ ss) rest ∙ sym (sequences-of_agent a b k own)))
      | inr other ↦ by_test (p b) other rest ∙ sym (sequences-of_another a b k other)
    ]
  where
    by_test : (t : Bool) → (b.agent == a) ≡ false → sequences_of a (filter p k) ≡ sequences_of a k → sequences_of a (cond t (b ∷ filter p k) (filter p k)) ≡ sequences_of a k
    by_test true other rest = sequences-of_another a b (filter p k) other ∙ rest
    by_test false other rest = rest

-- batches of other agents have no sequence of this one
no_sequences : (a : ℕ) (k : Holding) → All (λ b. (b.agent == a) ≡ false) k → sequences_of a k ≡ []
no_sequences a [] all = refl
no_sequences a (b ∷ k) all =
    let Other = λ (b : Batch). (b.agent == a) ≡ false in
    sequences-of_another a b k (All-head Other b k all) ∙ no_sequences a k (All-tail Other b k all)

length-range : (s m : ℕ) → length (range_with_len s m) ≡ m
length-range s zero = refl
length-range s (suc m) = omega (arith, length-range (s + 1) m)

module _ (h : Holding) (cut : Cut) (ok : IsHolding h) (whole : first_missing h cut ≡ None) where
  sequences_left : (a s m : ℕ) → 1 ≤ s → s + m ≡ last_of cut a + 1 → sequences_of a (left a s (up_to cut h)) ≡ range_with_len s m
  sequences_left a s zero from at =
      ap (sequences_of a) (left_next h cut ok a s (omega arith))
      ∙ no_sequences a (left (a + 1) 1 (up_to cut h)) (All-weaker (λ b. is_from (a + 1) 1 b ≡ true) (λ b. (b.agent == a) ≡ false) (λ b. other b) (left (a + 1) 1 (up_to cut h)) (filter_passes (is_from (a + 1) 1) (up_to cut h)))
    where
      other : (b : Batch) → is_from (a + 1) 1 b ≡ true → (b.agent == a) ≡ false
      other b e = grind (arith, nat_tests)
  sequences_left a s (suc m) from at =
      let found = some_of (held h a s) (held-up_to_where h cut whole a s (omega arith) (omega arith)) in
      let b = found.0 in
      let place = held_place h a s b found.1 in
      let order = (IsHolding-up_to h cut ok).in_order in
      ap (sequences_of a) (left_first (up_to cut h) a s b order (held-up_to cut h a s (omega arith) ∙ found.1))
      ∙ (sequences-of_agent a b (left a (s + 1) (up_to cut h)) (eq-eqb b.agent a place.0)
      ∙ (ap (λ x. x ∷ sequences_of a (left a (s + 1) (up_to cut h))) place.1
      ∙ ap (λ ss. s ∷ ss) (sequences_left a (s + 1) m (omega arith) (omega arith))))

  no_gap : (a : ℕ) → sequences_of a (up_to cut h) ≡ range_with_len 1 (length (sequences_of a (up_to cut h)))
  no_gap a =
      let kept = sequences_kept a (is_from a 1) (up_to cut h) (All-weaker (IsInCut cut) (λ b. b.agent ≡ a → is_from a 1 b ≡ true) (λ b is. own b is.seq_from) (up_to cut h) (in_cut h cut ok)) in
      let range : sequences_of a (up_to cut h) ≡ range_with_len 1 (last_of cut a) = sym kept ∙ sequences_left a 1 (last_of cut a) (omega arith) (omega arith) in
      range ∙ ap (range_with_len 1) (sym (ap length range ∙ length-range 1 (last_of cut a)))
    where
      own : (b : Batch) → 1 ≤ b.seq → b.agent ≡ a → is_from a 1 b ≡ true
      own b from e = grind (arith, nat_tests)

  pub rules_met : (sheet : Sheet) → first_broken sheet (up_to cut h) (records_in_order (up_to cut h)) ≡ None → MeetsJournalRules sheet (up_to cut h)
  rules_met sheet none = record { is_holding = IsHolding-up_to h cut ok; no_gap = no_gap; none_broken = none }
