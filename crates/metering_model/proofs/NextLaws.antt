-- The journals have every batch of an agent below its next sequence.
use Rattle.std.proofs.Common.{◌≡◌, ℕ, zero, suc, ◌+◌, ◌<◌, true, [], ◌∷◌, length, sym, ap, ◌∙◌, arith, Some, inl, inr, is_some}
use Rattle.std.specs.Prelude.{slice_get, ◌==◌}
use Rattle.std.specs.List.{range_with_len}
use Rattle.std.proofs.lemmas.Bool.{and_from, cases_Bool, cond-true, cond-false, eq-eqb}
use Rattle.std.proofs.lemmas.Option.{same_Some, none-some}
use Rattle.metering_model.specs.Batch.{Batch}
use Rattle.metering_model.specs.Sheet.{Sheet}
use Rattle.metering_model.specs.Holding.{Holding, is_batch_at, held, sequences_of}
use Rattle.metering_model.specs.JournalRules.{MeetsJournalRules, next_seq}
use Rattle.metering_model.proofs.Journals.{sequences-of_agent, sequences-of_another}

range_has : (k n i : ℕ) → i < n → slice_get (range_with_len k n) i ≡ Some (k + i)
range_has k zero i h = absurd (omega arith)
range_has k (suc n) zero h = let e : k ≡ k + 0 = omega arith in ap Some e
range_has k (suc n) (suc i) h = let e : k + 1 + i ≡ k + suc i = omega arith in range_has (k + 1) n i (omega arith) ∙ ap Some e

held_behind : (agent seq : ℕ) (c : Batch) (h : Holding) → is_some (held h agent seq) ≡ true → is_some (held (c ∷ h) agent seq) ≡ true
held_behind agent seq c h e = elim (cases_Bool (is_batch_at agent seq c)) [
  | inl here ↦ ap is_some (cond-true (is_batch_at agent seq c) (Some c) (held h agent seq) here)
  | inr past ↦ ap is_some (cond-false (is_batch_at agent seq c) (Some c) (held h agent seq) past) ∙ e
]

held_here : (agent seq : ℕ) (c : Batch) (h : Holding) → is_batch_at agent seq c ≡ true → is_some (held (c ∷ h) agent seq) ≡ true
held_here agent seq c h here = ap is_some (cond-true (is_batch_at agent seq c) (Some c) (held h agent seq) here)

-- what is one of an agent's sequences is held
sequence_held : (agent seq k : ℕ) (h : Holding) → slice_get (sequences_of agent h) k ≡ Some seq → is_some (held h agent seq) ≡ true
sequence_held agent seq k [] e = absurd (none-some seq e)
sequence_held agent seq k (c ∷ h) e = elim (cases_Bool (c.agent == agent)) [
  | inl same ↦ at_head k same (sym (ap (λ xs. slice_get xs k) (sequences-of_agent agent c h same)) ∙ e) (λ i. sequence_held agent seq i h)
  | inr other ↦ held_behind agent seq c h (sequence_held agent seq k h (sym (ap (λ xs. slice_get xs k) (sequences-of_another agent c h other)) ∙ e))
]
  where
    at_head : (k : ℕ) → (c.agent == agent) ≡ true → slice_get (c.seq ∷ sequences_of agent h) k ≡ Some seq
        → ((i : ℕ) → slice_get (sequences_of agent h) i ≡ Some seq → is_some (held h agent seq) ≡ true) → is_some (held (c ∷ h) agent seq) ≡ true
    at_head zero same f rest = held_here agent seq c h (and_from (c.agent == agent) (c.seq == seq) same (eq-eqb c.seq seq (same_Some c.seq seq f)))
    at_head (suc i) same f rest = held_behind agent seq c h (rest i f)

pub held_below_next : (sheet : Sheet) (h : Holding) (agent seq : ℕ) → MeetsJournalRules sheet h → 0 < seq → seq < next_seq h agent → is_some (held h agent seq) ≡ true
held_below_next sheet h agent zero rules some low = absurd (omega arith)
held_below_next sheet h agent (suc s) rules some low =
    let one_on : 1 + s ≡ suc s = omega arith in
    let there : slice_get (range_with_len 1 (length (sequences_of agent h))) s ≡ Some (suc s) = range_has 1 (length (sequences_of agent h)) s (omega arith) ∙ ap Some one_on in
    sequence_held agent (suc s) s h (ap (λ xs. slice_get xs s) (rules.no_gap agent) ∙ there)
