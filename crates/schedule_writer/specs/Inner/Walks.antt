-- Where a walk over the items of an input stands, and what it has found with one item more.
use Rattle.std.specs.Prelude.{◌≡◌, ◌+◌, ◌≤◌, ℕ, List, [], ◌∷◌, ◌++◌, length, map, take, drop, Option, IfSome, Ok}
use Rattle.std.specs.List.{slice_range}
use Rattle.metering_model.specs.Sheet.{Sheet, Issuer}
use Rattle.metering_model.specs.Transcript.{line_count}
use Rattle.input_sections.specs.RateInput.{RateInput, rate_input_in}
use Rattle.schedule_writer.specs.declared.judging.Items.{Items}
use Rattle.schedule_writer.specs.Inputs.{Item, Offered, batches_of, closes_from, closes_of, item_length}
use Rattle.schedule_writer.specs.Inner.Judged.{IsAskedWithin}
use Rattle.schedule_writer.specs.Inner.Plans.{taken_of}

-- The sections of the input are this sheet and this issuer, and that is the first byte behind them.
pub record IsGiven (input : List ℕ) (sheet : Sheet) (issuer : Issuer) (from : ℕ) : Type 0 where
  pub is_read : rate_input_in input ≡ Ok (record { sheet = sheet; issuer = issuer; batch = drop from input })
  pub within : from ≤ length input

-- the input is read, and its sheet is this
pub record HasSheet (input : List ℕ) (sheet : Sheet) : Type 0 where
  pub given : RateInput
  pub is_given : rate_input_in input ≡ Ok given
  pub by_sheet : given.sheet ≡ sheet

-- The byte is one of the input or its end, and this is how many lines stand above it, where that is known.
pub record IsPlace (input : List ℕ) (from : ℕ) (known : Option ℕ) : Type 0 where
  pub within : from ≤ length input
  pub above : IfSome known (λ lines. lines ≡ line_count (take from input))

-- The batch is what stands at its byte of the input.
pub record IsThere (input : List ℕ) (b : Offered) : Type 0 where
  pub begins : b.from ≤ length input
  pub room : b.from + length b.text ≤ length input
  pub is_text : slice_range input b.from (b.from + length b.text) ≡ b.text

-- The item that begins at that byte has so many bytes, and the input has them all.
pub record IsItemLength (input : List ℕ) (from n : ℕ) : Type 0 where
  pub is_length : n ≡ item_length (drop from input)
  pub within : from + n ≤ length input

-- What was found of these items: the batches, and how many of them stand above each line that closes a period.
pub record IsFoundOf (is : List Item) (found : Items) : Type 0 where
  pub batches : map taken_of found.batches.items ≡ batches_of is
  pub closes : found.closes.items ≡ closes_of is

-- What was found with one item more, and that what the batches ask is still within the limits of a group.
pub record IsFoundToo (i : Item) (old new : Items) : Type 0 where
  pub batches : map taken_of new.batches.items ≡ map taken_of old.batches.items ++ batches_of (i ∷ [])
  pub count : length new.batches.items ≡ length old.batches.items + length (batches_of (i ∷ []))
  pub closes : new.closes.items ≡ old.closes.items ++ closes_from (length old.batches.items) (i ∷ [])
  pub within : IsAskedWithin new.asked.agents new.asked.last
