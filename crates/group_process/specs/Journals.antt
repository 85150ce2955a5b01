-- The journal of an agent: its own batches alone, counted from 1 without a gap.
use Rattle.std.specs.Prelude.{◌≡◌, ℕ, ◌+◌, ◌==◌, ◌&&◌, Bool, true, false, List, [], ◌∷◌, Some, None, Result, Ok, Err}
use Rattle.std.specs.Arc.{arc_value}
use Rattle.metering_model.specs.Holding.{Holding, is_batch_at}
use Rattle.metering_model.specs.Ballot.{Acceptor}
use Rattle.metering_model.specs.World.{CarriesBatch, Kept}
use Rattle.process_laws.specs.LocalSteps as model
use Rattle.group_events.specs.Batches.{batch_of}
use Rattle.group_process.specs.declared.refusals.ProcessRefusal.{ProcessRefusal}
use Rattle.group_process.specs.declared.agents.Journaled.{Journaled}
use Rattle.group_process.specs.Answers.{refusal_of}
use Rattle.group_process.specs.Selves.{AgentSelf}

-- these batches are the agent's, from that sequence on, in turn
abbrev pub are_journaled_from : (agent seq : ℕ) → Holding → Bool
are_journaled_from agent seq [] = true
are_journaled_from agent seq (b ∷ h) = is_batch_at agent seq b && are_journaled_from agent (seq + 1) h

abbrev pub is_journal_of : (agent : ℕ) → Holding → Bool
is_journal_of agent h = are_journaled_from agent 1 h

abbrev pub is_empty_acceptor : Acceptor → Bool
is_empty_acceptor a = elim a.promised [ Some ballot ↦ false | None ↦ elim a.vote [ Some v ↦ false | None ↦ true ] ]

abbrev pub is_nothing : {A : Type 0} → List A → Bool
is_nothing [] = true
is_nothing (x ∷ xs) = false

-- what is kept is a journal of the agent, and nothing of a node
abbrev pub keeps_journal_of : (agent : ℕ) → Kept → Bool
keeps_journal_of agent k = (k.round == 0) && is_nothing k.learned && is_empty_acceptor k.acceptor && is_journal_of agent k.holding

-- the batch was journaled, and is given out; or why it was not
abbrev pub journaled_answer : Result Journaled ProcessRefusal → model.Answer
journaled_answer (Ok j) = record { words = model.HasJournaled (batch_of (arc_value j.batch)).seq; sends = Some (CarriesBatch (batch_of (arc_value j.batch))) }
journaled_answer (Err why) = model.refusing (refusal_of why)

-- Nothing of the process changes but its journal, which becomes what the model says, and the answer is the model's.
pub record DoesAsAgent (command : model.AgentCommand) (old new : AgentSelf) (answer : model.Answer) : Type 0 where
  pub does : model.agent_does old.group old.number old.journal command ≡ record { answer = answer; journal = new.journal }
  pub group : new.group ≡ old.group
  pub number : new.number ≡ old.number
