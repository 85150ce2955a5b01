-- What a book holds, what a worker is told, and what a plan and a log say, as plain data.
use Rattle.std.specs.Prelude.{ℕ, ◌+◌, List, Option, Some, None}
use Rattle.metering_model.specs.declared.Worker.{Worker}
use Rattle.metering_model.specs.Sheet.{Sheet, Issuer}
use Rattle.metering_model.specs.World.{World, Reply, Exported, opening}
use Rattle.metering_model.specs.History.{Entry}
use Rattle.metering_model.specs.Transcript.{file_of}

-- the group that the book was opened for, what was done since, and the world that this led to
pub record Book : Type 0 where
  pub voters : ℕ
  pub observers : ℕ
  pub agents : ℕ
  pub sheet : Sheet
  pub issuer : Issuer
  pub history : List Entry
  pub world : World

-- what a worker is told of an act: the place of its entry, and the reply
pub record Told : Type 0 where
  pub index : ℕ
  pub reply : Reply

-- a worker, and what it was told of its acts, in order
pub record Log : Type 0 where
  pub who : Worker
  pub told : List Told

-- How many voters and observers, the sheet and the issuer, the texts of each agent, how many periods are to be exported, and at
-- most how often a gate is asked before a node goes on.
pub record Plan : Type 0 where
  pub voters : ℕ
  pub observers : ℕ
  pub sheet : Sheet
  pub issuer : Issuer
  pub journals : List (List (List ℕ))
  pub periods : ℕ
  pub turns : ℕ

-- the nodes of a plan: first come the voters, and then the observers
abbrev pub node_total : Plan → ℕ
node_total plan = plan.voters + plan.observers

-- the world in which nothing was done yet
abbrev pub opened : Book → World
opened b = opening b.voters b.observers b.agents b.sheet b.issuer

-- the file of a reply, where it is an export
abbrev pub file_in : Reply → Option (List ℕ)
file_in (Exported s) = Some (file_of s)
file_in _ = None
