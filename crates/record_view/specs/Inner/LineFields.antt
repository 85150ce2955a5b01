-- The fields of a line behind its letter.
use Rattle.std.specs.Prelude.{◌≡◌, ℕ, ◌+◌, List, [], ◌∷◌, ◌++◌, Option, Some, None, is_some, IsTrue, Result, Ok, Err, MatchOption}
use Rattle.metering_model.specs.declared.BatchCode.{BatchCode}
use Rattle.metering_model.specs.declared.Version.{Version}
use Rattle.metering_model.specs.declared.Version.TheVariants.{B1, B2}
use Rattle.metering_model.specs.Batch as model
use Rattle.metering_model.specs.Batch.{is_text}
use Rattle.metering_model.specs.BatchReading.{fields_in, record_in}
use Rattle.metering_model.specs.Dates.{stamp_in}
use Rattle.record_view.specs.declared.fields.Field.{Field}
use Rattle.record_view.specs.declared.records.Record as lent_record
use Rattle.record_view.specs.declared.exact.ReadingFields.{ReadingFields}
use Rattle.record_view.specs.declared.exact.AmendmentFields.{AmendmentFields}
use Rattle.record_view.specs.Parts.{LentText, lent, parts_at}
use Rattle.record_view.specs.Inner.Placed.{IsPlaced}
use Rattle.record_view.specs.TagTexts.{tags_at}
use Rattle.record_view.specs.Lent.{lent_texts}
use Rattle.record_view.specs.Plain.{is_plain_line}
use Rattle.record_view.specs.Inner.TagParts.{are_tags}
use Rattle.record_view.specs.Inner.RecordSteps.{reading_in, amendment_in}

abbrev pub reading_parts : ReadingFields → List LentText
reading_parts f =
    lent f.start ∷ lent f.end ∷ lent f.account ∷ lent f.resource ∷ lent f.key ∷ lent f.value ∷ lent f.commitment ∷ lent f.tags ∷ []

abbrev pub amendment_parts : AmendmentFields → List LentText
amendment_parts f = lent f.seq ∷ lent f.index ∷ lent f.value ∷ []

-- what the reading of these fields lends
abbrev pub field_texts : ReadingFields → List LentText
field_texts f =
    lent_texts (lent f.start) (lent f.end) (lent f.account) (lent f.resource) (lent f.key) (lent f.commitment)
    (tags_at (lent f.tags)) None

abbrev pub record_of_reading : List ℕ → ReadingFields → Result model.Record BatchCode
record_of_reading letter f =
    reading_in letter f.start.text.now f.end.text.now f.account.text.now f.resource.text.now f.key.text.now f.value.text.now
    f.commitment.text.now f.tags.text.now

abbrev pub record_of_amendment : AmendmentFields → Result model.Record BatchCode
record_of_amendment f = amendment_in f.seq.text.now f.index.text.now f.value.text.now

-- the first fault of a line: that of what is read first, or else the one behind it
abbrev pub first_fault : Result model.Record BatchCode → BatchCode → BatchCode
first_fault (Ok r) behind = behind
first_fault (Err e) behind = e

-- the record with that region, where it is a reading
abbrev pub in_region : Field → lent_record.Record → lent_record.Record
in_region f (lent_record.TheVariants.Reading r) = lent_record.TheVariants.Reading (record r { region = Some f })
in_region f (lent_record.TheVariants.Amend seq index value) = lent_record.TheVariants.Amend seq index value

-- The region stands behind a bar at the end, and `front` is what stands before that bar.
pub record IsBehind (rest front : LentText) (region : Field) : Type 0 where
  pub parts : parts_at 124 rest ≡ parts_at 124 front ++ lent region ∷ []
  pub adjoin : region.span.from ≡ front.to + 1

-- what stands before the region: in format B1, which has none, all of it
abbrev pub IsBeforeRegion : Version → LentText → LentText → Option Field → Type 0
IsBeforeRegion B1 rest front region = (front ≡ rest) × (region ≡ None)
IsBeforeRegion B2 rest front region = MatchOption region ⊥ (IsBehind rest front)

-- both stamps are stamps
abbrev pub HaveStamps : ReadingFields → Type 0
HaveStamps f = IsTrue (is_some (stamp_in f.start.text.now)) × IsTrue (is_some (stamp_in f.end.text.now))

-- The fields of a plain reading: those that are texts, and the last are tags.
pub record ArePlainFields (f : ReadingFields) : Type 0 where
  pub account : IsTrue (is_text f.account.text.now)
  pub resource : IsTrue (is_text f.resource.text.now)
  pub key : IsTrue (is_text f.key.text.now)
  pub commitment : IsTrue (is_text f.commitment.text.now)
  pub tags : IsTrue (are_tags f.tags.text.now)
  pub placed : IsPlaced (lent f.tags)

-- The line behind a letter, each byte of it plain or a bar, has the fields of a reading: eight, of which the first two are stamps
-- and the last are tags.
pub record IsPlainRest (line : List ℕ) : Type 0 where
  pub plain : IsTrue (is_plain_line line)
  pub start : List ℕ
  pub end : List ℕ
  pub account : List ℕ
  pub resource : List ℕ
  pub key : List ℕ
  pub value : List ℕ
  pub commitment : List ℕ
  pub tags : List ℕ
  pub fields : fields_in line ≡ start ∷ end ∷ account ∷ resource ∷ key ∷ value ∷ commitment ∷ tags ∷ []
  pub is_start : IsTrue (is_some (stamp_in start))
  pub is_end : IsTrue (is_some (stamp_in end))
  pub has_tags : IsTrue (are_tags tags)

-- The line behind that letter is a reading's, each byte of it plain or a bar.
pub record IsPlainBehind (version : Version) (letter line : List ℕ) : Type 0 where
  pub plain : IsTrue (is_plain_line line)
  pub reading : model.Reading
  pub read : record_in version (letter ∷ fields_in line) ≡ Ok (model.Reads reading)
