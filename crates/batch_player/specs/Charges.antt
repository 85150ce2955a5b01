-- What the program bills, in the words of whoever reads the file.
use Rattle.std.specs.Prelude.{◌≡◌, ℕ, List, [], ◌∷◌, ◌++◌, if◌then◌else◌, Option, None, Ok, All, IsTrue, IfSome, ℤ, pos, false, unwrap_or, option_map}
use Rattle.std.specs.List.{filter_map, flat_map, last_or, AllZip}
use Rattle.metering_model.specs.NumberText.{spelling}
use Rattle.metering_model.specs.Batch.{Batch, Reading, is_priced, lacks}
use Rattle.metering_model.specs.BatchReading.{batch_in}
use Rattle.metering_model.specs.Holding.{Position, Placed, placed, reading_of}
use Rattle.metering_model.specs.ValueAtSequence.{value_given_by}
use Rattle.metering_model.specs.Front.{is_due}
use Rattle.metering_model.specs.Sheet.{Sheet}
use Rattle.metering_model.specs.File.{header_line}
use Rattle.row_laws.specs.Charged.{charged_at_once}
use Rattle.input_sections.specs.RateInput.{RateInput, rate_input_in}
use Rattle.batch_player.specs.RateInput.{rated_file}

-- a reading, and the value that it has in the end
pub record Metered : Type 0 where
  pub reading : Reading
  pub value : ℤ

-- the value of the last of these records that is the reading at a place, or amends it
abbrev pub last_value : List Placed → Position → ℤ
last_value xs at = unwrap_or (last_or None (filter_map (value_given_by at) xs)) (pos 0)

abbrev pub metered_at : List Placed → Placed → Option Metered
metered_at all x = option_map (λ r. record { reading = r; value = last_value all x.place }) (reading_of x.what)

-- the readings of a batch in order, each at its last value there
abbrev pub metered_in : Batch → List Metered
metered_in b = filter_map (metered_at (placed b)) (placed b)

-- what a reading is billed at its value: the billed cost that rating gives from 0 to it
abbrev pub billed : Sheet → Metered → ℤ
billed sheet m = (charged_at_once sheet m.reading m.value).billed

-- The line begins with that cost, since BilledCost is the first column. Of a reading that no price charges it is spelled
-- as the value is in the batch.
pub record BillsReading (sheet : Sheet) (m : Metered) (line : List ℕ) : Type 0 where
  pub rest : List ℕ
  pub begins : line ≡ spelling 12 (billed sheet m) ++ 44 ∷ rest
  pub amount : is_priced m.reading.kind ≡ false → spelling 12 (billed sheet m) ≡ spelling 6 m.value

-- The text is the header line and one line for each of these readings, in order.
pub record BillsEach (sheet : Sheet) (readings : List Metered) (text : List ℕ) : Type 0 where
  pub lines : List (List ℕ)
  pub joined : text ≡ flat_map (λ line. line ++ 10 ∷ []) (header_line ∷ lines)
  pub costs : AllZip (BillsReading sheet) readings lines
  pub one_line_each : All (λ line. IsTrue (lacks 10 line)) lines

-- Where the batch is due, each of its readings gives one line, and else none does.
pub record BillsBatch (sheet : Sheet) (period : ℕ) (input text : List ℕ) : Type 0 where
  pub batch : Batch
  pub is_input : batch_in input ≡ Ok batch
  pub bills : BillsEach sheet (if is_due sheet.base period batch then metered_in batch else []) text

-- The text is the file of an input, which is all that a reader gives, where its bytes are known.
pub record IsFileOf (known : Option (List ℕ)) (period : ℕ) (input text : List ℕ) : Type 0 where
  pub is_input : IfSome known (λ bytes. input ≡ bytes)
  pub rated : rated_file period input ≡ Ok text
  pub given : RateInput
  pub is_given : rate_input_in input ≡ Ok given
  pub bills : BillsBatch given.sheet period given.batch text
