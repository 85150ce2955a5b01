-- What a store has of agents that it has not.
use Rattle.std.proofs.Common.{◌≡◌, ℕ, ◌≤◌, [], ◌∷◌, arith, refl, ◌∙◌, subst, None, Some, inl, inr}
use Rattle.std.specs.Prelude.{All}
use Rattle.std.proofs.lemmas.Bool.{cases_Bool, cases_lt, cond-false}
use Rattle.std.proofs.lemmas.List.Elements.{All-head, All-tail, All-weaker}
use Rattle.metering_model.specs.Batch.{IsWellFormed}
use Rattle.metering_model.specs.Holding.{Holding, is_batch_at, held}
use Rattle.metering_model.proofs.BatchOrder.{place_of_batch}
use Rattle.journal_rules.specs.Stores.{IsStored, Stored}

-- An agent of which something does not hold, that holds of each batch's agent, has no batch.
none_held : (P : ℕ → Type 0) (h : Holding) (agent seq : ℕ) → All (λ b. P b.agent) h → (P agent → ⊥) → held h agent seq ≡ None
none_held P [] agent seq all not = refl
none_held P (c ∷ h) agent seq all not = elim (cases_Bool (is_batch_at agent seq c)) [
  | inl at ↦ absurd (not (subst P (place_of_batch agent seq c at).0 (All-head (λ b. P b.agent) c h all)))
  | inr past ↦ cond-false (is_batch_at agent seq c) (Some c) (held h agent seq) past ∙ none_held P h agent seq (All-tail (λ b. P b.agent) c h all) not
]

-- A store holds nothing of an agent that it has not.
pub none_held_in_store : (s : Stored) (agent seq : ℕ) → IsStored s → (1 ≤ agent → agent ≤ s.agents → ⊥) → held s.batches agent seq ≡ None
none_held_in_store s agent seq is not = elim (cases_lt agent 1) [
  | inl zero ↦ none_held (λ a. 1 ≤ a) s.batches agent seq (All-weaker IsWellFormed (λ b. 1 ≤ b.agent) (λ b well. well.agent.0) s.batches is.is_holding.batches) (λ from. omega (arith, from, zero))
  | inr from ↦ none_held (λ a. a ≤ s.agents) s.batches agent seq is.of_agents (λ to. not from to)
]
