-- What a call of a process answers, in the words of the model.
use Rattle.std.specs.Prelude.{◌≡◌, Option, Some, None, Result, Ok, Err}
use Rattle.std.specs.Option.{option_map}
use Rattle.metering_model.specs.World.{Snapshot}
use Rattle.process_laws.specs.LocalSteps as model
use Rattle.group_node.specs.Packets.{packet_of}
use Rattle.group_process.specs.declared.refusals.ProcessRefusal.{ProcessRefusal}
use Rattle.group_process.specs.declared.refusals.ProcessRefusal.TheVariants.{OfModel, Unfit}
use Rattle.group_process.specs.declared.beginning.Begun.{Begun}
use Rattle.group_process.specs.declared.taking.Taken.{Taken}
use Rattle.group_process.specs.Selves.{NodeSelf}

abbrev pub refusal_of : ProcessRefusal → model.ProcessRefusal
refusal_of (OfModel why) = model.OfModel why
refusal_of Unfit = model.Unfit

-- what is answered where a packet was taken, or is none of the group
abbrev pub taken_answer : Option Taken → model.Answer
taken_answer (Some t) = record { words = model.HasTaken t.learned; sends = option_map packet_of t.sends }
taken_answer None = model.refusing model.Foreign

-- Nothing of the process changes but its node, which becomes what the model says, and the answer is the model's.
pub record Does (command : model.NodeCommand) (old new : NodeSelf) (answer : model.Answer) : Type 0 where
  pub does : model.node_does old.group old.number old.node command ≡ record { answer = answer; node = new.node }
  pub group : new.group ≡ old.group
  pub number : new.number ≡ old.number

-- a ballot was begun, and what is sent for it; or why none is
abbrev pub begun_answer : Result Begun ProcessRefusal → model.Answer
begun_answer (Ok b) = record { words = model.HasBegun b.ballot; sends = Some (packet_of b.sends) }
begun_answer (Err why) = model.refusing (refusal_of why)

abbrev pub exported_answer : Result Snapshot ProcessRefusal → model.Answer
exported_answer (Ok s) = model.saying (model.HasExported s)
exported_answer (Err why) = model.refusing (refusal_of why)
