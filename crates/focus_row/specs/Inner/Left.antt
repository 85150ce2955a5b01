-- The rows of the batches up to a cut from an agent's sequence on.
use Rattle.std.specs.Prelude.{◌≡◌, ◌≤◌, ◌<◌, ◌+◌, ◌⊎◌, ℕ, List, [], ◌++◌, map, length, drop, Option, Some, None, slice_get}
use Rattle.std.specs.List.{filter_map}
use Rattle.std.specs.Option.{option_and_then}
use Rattle.metering_model.specs.Batch.{Batch, Record}
use Rattle.metering_model.specs.Sheet.{Sheet, Issuer}
use Rattle.metering_model.specs.Cut.{Cut, IsAtLeast, last_of}
use Rattle.metering_model.specs.Holding.{Holding, Position, Placed, held, placed, up_to, records_in_order}
use Rattle.metering_model.specs.Step.{first_missing}
use Rattle.metering_model.specs.JournalRules.{MeetsJournalRules}
use Rattle.metering_model.specs.Row.{Row}
use Rattle.metering_model.specs.Rows.{placed_row}
use Rattle.journal_rules.specs.Stores.{IsStored}
use Rattle.charge_row.specs.FocusRows.{model_row}
use Rattle.charge_row.specs.declared.columns.FocusRow.{FocusRow}
use Rattle.focus_row.specs.declared.due_batches.BatchPlace.{BatchPlace}
use Rattle.journal_rules.specs.Inner.Left.{left, placed_from}

abbrev pub record_at : Holding → Position → Option Record
record_at h p = option_and_then (λ b. slice_get b.records p.index) (held h p.agent p.seq)

-- What is charged between two cuts, and by what.
pub record Between : Type 0 where
  pub sheet : Sheet
  pub issuer : Issuer
  pub agents : ℕ
  pub batches : Holding
  pub period : ℕ
  pub from : Cut
  pub to : Cut

-- Up to the later cut nothing is absent, and no rule of the journals is broken.
pub record MayBeCharged (b : Between) : Type 0 where
  pub stored : IsStored (record { agents = b.agents; batches = b.batches })
  pub same_agents : length b.to ≡ b.agents
  pub grows : IsAtLeast b.to b.from
  pub whole : first_missing b.batches b.to ≡ None
  pub met : MeetsJournalRules b.sheet (up_to b.to b.batches)

-- The place is one of the agents', up to a cut.
pub record IsUpTo (agents : ℕ) (cut : Cut) (p : Position) : Type 0 where
  pub from : 1 ≤ p.agent
  pub to : p.agent ≤ agents
  pub within : p.seq ≤ last_of cut p.agent

-- the rows of these records
abbrev pub rows_in : Between → List Placed → List Row
rows_in b xs = map (λ x. x.row) (filter_map (placed_row b.sheet b.issuer b.batches b.period b.from b.to) xs)

-- the rows of the batches from an agent's sequence on
unfoldable pub rows_left : Between → ℕ → ℕ → List Row
rows_left b agent seq = rows_in b (records_in_order (left agent seq (up_to b.to b.batches)))

-- the rows of the batch that is held there
abbrev pub rows_of_held : Between → Option Batch → List Row
rows_of_held b None = []
rows_of_held b (Some x) = rows_in b (placed x)

-- the rows of the batch of an agent at a sequence
abbrev pub rows_of_batch : Between → ℕ → ℕ → List Row
rows_of_batch b agent seq = rows_of_held b (held b.batches agent seq)

abbrev pub rows_of_place : Between → BatchPlace → List Row
rows_of_place b p = rows_of_batch b p.agent p.seq

-- A batch of one of the agents, up to the later cut.
pub record IsWithin (b : Between) (p : BatchPlace) : Type 0 where
  pub from : 1 ≤ p.agent
  pub to : p.agent ≤ b.agents
  pub first : 1 ≤ p.seq
  pub last : p.seq ≤ last_of b.to p.agent

-- The batch stands no earlier than an agent's sequence, and its rows and those behind it are all that are left from there.
pub record IsNextBatch (b : Between) (agent seq : ℕ) (p : BatchPlace) : Type 0 where
  pub within : IsWithin b p
  pub from_agent : agent ≤ p.agent
  pub from_seq : p.agent ≡ agent → seq ≤ p.seq
  pub left : rows_of_place b p ++ rows_left b p.agent (p.seq + 1) ≡ rows_left b agent seq

-- the rows of the batch's records from that index on
abbrev pub rows_behind : Between → ℕ → ℕ → ℕ → Batch → List Row
rows_behind b agent seq index x = rows_in b (placed_from agent seq index (drop index x.records))

-- A walk over the rows of that batch, which is held there, stands before the record at that index.
pub record IsWalk (b : Between) (agent seq index : ℕ) (x : Batch) : Type 0 where
  pub from : 1 ≤ agent
  pub to : agent ≤ b.agents
  pub last : seq ≤ last_of b.to agent
  pub held : held b.batches agent seq ≡ Some x
  pub within : index ≤ length x.records

-- A walk over the rows of that batch goes on from an index to another, and puts those in between behind others. It ends where
-- there are as many rows as the limit, or no record is left.
pub record WalksOn (b : Between) (agent seq : ℕ) (x : Batch) (from to limit : ℕ) (begun rows : List FocusRow) : Type 0 where
  pub put : map model_row rows ++ rows_behind b agent seq to x ≡ map model_row begun ++ rows_behind b agent seq from x
  pub within : to ≤ length x.records
  pub ends : (to ≡ length x.records) ⊎ (limit ≤ length rows)
  pub further : from < length x.records → length begun < limit → from < to
  pub most : length begun ≤ limit → length rows ≤ limit
