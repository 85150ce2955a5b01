-- What the rules of the journals ask of a record, and how it is handed out.
use Rattle.std.specs.Prelude.{◌≡◌, ℕ, ◌+◌, List, [], map, Option, None, ℤ, pos, MatchOption}
use Rattle.std.specs.Iterator.{YieldsFirstBy}
use Rattle.metering_model.specs.declared.Kind.{Kind}
use Rattle.metering_model.specs.Batch.{Reading, Record, Reads, Amends}
use Rattle.batch_view.specs.Batches.{RecordsLeft, records_left}
use Rattle.batch_view.specs.declared.asked.AskedReading.{AskedReading}
use Rattle.batch_view.specs.declared.asked.Asked as asked

-- a reading of which just this is told: its other fields are blank
abbrev pub only_asked : (kind : Kind) (start : ℤ) (key commitment : List ℕ) → Reading
only_asked kind start key commitment = record {
  kind = kind;
  start = start;
  end = pos 0;
  start_text = [];
  end_text = [];
  account = [];
  resource = [];
  key = key;
  value = pos 0;
  commitment = commitment;
  tags = [];
  region = None;
}

-- what is asked of the model's record
abbrev pub asked_in : Record → Record
asked_in (Reads r) = Reads (only_asked r.kind r.start r.key r.commitment)
asked_in (Amends seq index value) = Amends seq index value

abbrev pub reading_asked : AskedReading → Reading
reading_asked r = only_asked r.kind r.start r.key.now r.commitment.now

-- what was asked, as the model's record
abbrev pub record_asked : asked.Asked → Record
record_asked (asked.TheVariants.Reading r) = Reads (reading_asked r)
record_asked (asked.TheVariants.Amend seq index value) = Amends seq index value

-- what is asked of the records that are left
abbrev pub asked_left : RecordsLeft → List Record
asked_left walk = map asked_in (records_left walk)

-- A call of `next` gives what is asked of the first record that is left, or None at the end.
pub record GivesAsked (old : RecordsLeft) (given : Option asked.Asked) (new : RecordsLeft) : Type 0 where
  pub first : YieldsFirstBy record_asked asked_left old given new
  pub walk : MatchOption given (new ≡ old) (λ a. new ≡ record { bytes = old.bytes; index = old.index + 1 })
