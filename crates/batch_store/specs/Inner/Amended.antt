-- Which places are added to a list, and what amendments name.
use Rattle.std.specs.Prelude.{◌≡◌, ◌<◌, ◌≤◌, ◌⊎◌, ◌↔◌, ℕ, nat_le, if◌then◌else◌, List, map, Option, Some, None}
use Rattle.std.specs.List.{Contains}
use Rattle.metering_model.specs.Batch.{Batch}
use Rattle.metering_model.specs.Holding.{Holding, Position, held}
use Rattle.batch_view.specs.declared.owned.Amendment.{Amendment}
use Rattle.batch_view.specs.Kept.{amendments_in}
use Rattle.batch_store.specs.declared.RecordPlace.{RecordPlace}
use Rattle.batch_store.specs.Stores.{position_of}

-- the list has what it had, and the places that are so, and no more
abbrev pub Adds : (Position → Type 0) → List RecordPlace → List RecordPlace → Type 0
Adds IsSo old new = (p : Position) → Contains (map position_of new) p ↔ (Contains (map position_of old) p ⊎ IsSo p)

-- the place that an agent's amendment names, where its sequence is within the limit
abbrev pub named_place : ℕ → ℕ → Amendment → Option RecordPlace
named_place agent upto a = if nat_le a.seq upto then Some (record { agent = agent; seq = a.seq; index = a.index }) else None

-- one of an agent's amendments names the place, whose sequence is within the limit
pub record IsNamedIn (agent upto : ℕ) (amendments : List Amendment) (p : Position) : Type 0 where
  pub amendment : Amendment
  pub is_there : Contains amendments amendment
  pub is_agent : p.agent ≡ agent
  pub is_seq : p.seq ≡ amendment.seq
  pub is_index : p.index ≡ amendment.index
  pub within : amendment.seq ≤ upto

-- one of an agent's batches above the one sequence and up to the other has such an amendment
pub record IsNamedOf (h : Holding) (agent from to : ℕ) (p : Position) : Type 0 where
  pub seq : ℕ
  pub batch : Batch
  pub above : from < seq
  pub until : seq ≤ to
  pub is_held : held h agent seq ≡ Some batch
  pub named : IsNamedIn agent from (amendments_in batch) p
