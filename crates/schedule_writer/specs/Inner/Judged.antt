-- What is found of batches that are journaled in turn.
use Rattle.std.specs.Prelude.{◌≡◌, ◌<◌, ◌≤◌, ◌⊎◌, ℕ, false, true, max, List, ◌∷◌, ◌++◌, All, Option, IfSome, Ok, ⊤}
use Rattle.metering_model.specs.Batch.{Batch}
use Rattle.metering_model.specs.Front.{is_due}
use Rattle.metering_model.specs.Limits.{last_period, most_agents}
use Rattle.metering_model.specs.Sheet.{Sheet, Issuer}
use Rattle.metering_model.specs.Transcript.{line}
use Rattle.metering_model.specs.World.{World, Refused}
use Rattle.metering_model.specs.declared.Refusal.{Refusal}
use Rattle.input_sections.specs.RateInput.{RateInput, rate_input_in}
use Rattle.schedule_writer.specs.declared.judging.Asked.{Asked}
use Rattle.schedule_writer.specs.declared.faults.WriteFault.{WriteFault}
use Rattle.schedule_writer.specs.declared.faults.WriteFault.TheVariants as fault
use Rattle.schedule_writer.specs.Inputs.{IsLastStart, Offered, Offers, agents_of, batches_of, closes_of, item_at, items_of}
use Rattle.schedule_writer.specs.Refusals.{IsJournaled, IsRefused, IsRefusedBySections, IsTaken, answer_to, answers_to, told_of_offered, world_behind}

-- The last period in which a reading of the batch starts, or this one, where that is later.
pub record IsLaterStart (base : ℕ) (b : Batch) (before last : ℕ) : Type 0 where
  pub later : before ≤ last
  pub within : last ≤ last_period
  pub none_behind : (last ≡ last_period) ⊎ (is_due base last b ≡ true)
  pub not_before : (p : ℕ) → before ≤ p → p < last → is_due base p b ≡ false

-- what is asked is within the limits of a group
abbrev pub IsAskedWithin : (agents last : ℕ) → Type 0
IsAskedWithin agents last = (last ≤ last_period) × (1 ≤ agents) × (agents ≤ most_agents)

-- What one batch more asks too: its agent, where that is greater, and the last period in which one of its readings starts, where that is
-- later. It is still within the limits.
pub record IsAskedToo (base : ℕ) (b : Batch) (asked more : Asked) : Type 0 where
  pub agents : more.agents ≡ max asked.agents b.agent
  pub last : IsLaterStart base b asked.last more.last
  pub within : IsAskedWithin more.agents more.last

-- what these batches ask of a group: the greatest agent, and the last period in which a reading starts
pub record IsAskedBy (base : ℕ) (bs : List Offered) (agents last : ℕ) : Type 0 where
  pub are_agents : agents ≡ agents_of bs
  pub is_last : IsLastStart base bs last

-- what is judged so far
pub record IsJudged (sheet : Sheet) (issuer : Issuer) (bs : List Offered) (w : World) (agents last : ℕ) : Type 0 where
  pub world : w ≡ world_behind sheet issuer bs
  pub taken : All IsJournaled (answers_to sheet issuer bs)
  pub asked : IsAskedBy sheet.base bs agents last

-- the world refuses the batch, and this is told of it
pub record IsRefusedNow (input : List ℕ) (w : World) (b : Offered) (told : List ℕ) : Type 0 where
  pub why : Refusal
  pub refused : answer_to w b.text ≡ Refused why
  pub is_told : line told ≡ told_of_offered input w b why

-- a batch begins at that byte of the input, and is refused so
pub record IsRefusedHere (input : List ℕ) (from : ℕ) (w : World) (told : List ℕ) : Type 0 where
  pub batch : Offered
  pub is_there : item_at input from ≡ Offers batch
  pub refused : IsRefusedNow input w batch told

-- The first of these batches that is refused is so, and this is told of it.
pub record IsRefusedAmong (input : List ℕ) (sheet : Sheet) (issuer : Issuer) (bs : List Offered) (told : List ℕ) : Type 0 where
  pub before : List Offered
  pub batch : Offered
  pub behind : List Offered
  pub all : bs ≡ before ++ batch ∷ behind
  pub taken : All IsJournaled (answers_to sheet issuer before)
  pub refused : IsRefusedNow input (world_behind sheet issuer before) batch told

-- the fault is a refusal, of which that is so what is told, or want of memory
abbrev pub IsRefusedOr : (List ℕ → Type 0) → WriteFault → Type 0
IsRefusedOr so (fault.Refused told) = so told.items
IsRefusedOr so fault.OutOfMemory = ⊤
IsRefusedOr so other = ⊥

-- The fault is one of reading an input whose bytes are these, where they are known: it is too long, and refused for that, or was not read.
abbrev pub IsUnread : Option (List ℕ) → WriteFault → Type 0
IsUnread known fault.Read = ⊤
IsUnread known (fault.Refused told) = IfSome known (λ input. IsRefusedBySections input told.items)
IsUnread known fault.OutOfMemory = ⊤
IsUnread known other = ⊥

-- the fault is none of the input
abbrev pub IsUncertain : WriteFault → Type 0
IsUncertain fault.TooLong = ⊤
IsUncertain fault.NotClosed = ⊤
IsUncertain fault.OutOfMemory = ⊤
IsUncertain other = ⊥

-- what each fault says of an input that was read
abbrev pub IsFaultOf : List ℕ → WriteFault → Type 0
IsFaultOf input (fault.Refused told) = IsRefused input told.items
IsFaultOf input fault.TooLong = IsTaken input
IsFaultOf input fault.NotClosed = IsTaken input
IsFaultOf input fault.OutOfMemory = ⊤
IsFaultOf input fault.Read = ⊥
IsFaultOf input fault.Write = ⊥

-- These are the sheet, the issuer and the batches of the input, and how many of the batches stand above each line that closes a period.
pub record IsReadInput (input : List ℕ) (sheet : Sheet) (issuer : Issuer) (bs : List Offered) (closes : List ℕ) : Type 0 where
  pub given : RateInput
  pub is_given : rate_input_in input ≡ Ok given
  pub by_sheet : given.sheet ≡ sheet
  pub by_issuer : given.issuer ≡ issuer
  pub batches : bs ≡ batches_of (items_of input given)
  pub are_closes : closes ≡ closes_of (items_of input given)
