-- What was appended to a text.
use Rattle.std.specs.Prelude.{◌≡◌, ℕ, List, ◌++◌, Option, Some, None, codes}
use Rattle.metering_model.specs.Batch.{Batch}
use Rattle.metering_model.specs.Transcript.{line}
use Rattle.metering_model.specs.World.{CarriesBatch}
use Rattle.metering_model.specs.declared.Refusal.TheVariants.{Missing}
use Rattle.process_laws.specs.LocalSteps.{OfModel}
use Rattle.group_process.specs.Selves.{NodeSelf, AgentSelf}
use Rattle.process_text.specs.Requests.{NodeRequest, AgentRequest}
use Rattle.process_text.specs.Answers.{AnswersNode, AnswersAgent, packet_sent_text, process_refusal_text, refused_text}

-- what is said where a batch is asked for once more: the batch, where it is held, or that it is missing
abbrev pub given_text : (name : List ℕ) → Option Batch → (agent seq : ℕ) → List ℕ
given_text name (Some b) agent seq = packet_sent_text name None (CarriesBatch b) ++ line (codes "sent")
given_text name None agent seq = refused_text (process_refusal_text (OfModel (Missing agent seq)))

-- Behind what was there stands what a node answers to a request.
pub record AppendsNode (request : NodeRequest) (old new : NodeSelf) (before after : List ℕ) : Type 0 where
  pub said : List ℕ
  pub answers : AnswersNode request old new said
  pub joined : after ≡ before ++ said

-- Behind what was there stands what an agent answers to a request.
pub record AppendsAgent (request : AgentRequest) (old new : AgentSelf) (before after : List ℕ) : Type 0 where
  pub said : List ℕ
  pub answers : AnswersAgent request old new said
  pub joined : after ≡ before ++ said
