-- What the records of a batch lend.
use Rattle.std.specs.Prelude.{◌≡◌, ℕ, List, [], ◌∷◌, ◌++◌, map, Option, Some, None, slice_range}
use Rattle.std.specs.List.{flat_map}
use Rattle.std.specs.Option.{option_map, option_to_list}
use Rattle.metering_model.specs.Batch as model
use Rattle.record_view.specs.declared.fields.Field.{Field}
use Rattle.record_view.specs.declared.fields.Span.{Span}
use Rattle.record_view.specs.declared.tags.Tags.{Tags}
use Rattle.record_view.specs.declared.records.Reading.{Reading}
use Rattle.record_view.specs.declared.records.Record as lent_record
use Rattle.record_view.specs.Parts.{LentText, lent, parts_at, AreLentApart}
use Rattle.record_view.specs.TagTexts.{LentTag, tag_of, tags_at}

-- ---- a record without places

-- the tags that are left
abbrev pub lent_tags : Tags → List LentTag
lent_tags t = tags_at (lent t.rest)

-- a key and a value
abbrev pub lent_pair : Field × Field → LentTag
lent_pair p = record { key = lent p.0; value = lent p.1 }

abbrev pub reading_tags : Reading → List LentTag
reading_tags r = lent_tags r.tags

-- none in format B1
abbrev pub reading_region : Reading → Option Field
reading_region r = r.region

-- the model's reading
abbrev pub model_reading : Reading → model.Reading
model_reading r = record {
  kind = r.kind;
  start = r.start;
  end = r.end;
  start_text = r.start_text.text.now;
  end_text = r.end_text.text.now;
  account = r.account.text.now;
  resource = r.resource.text.now;
  key = r.key.text.now;
  value = r.value;
  commitment = r.commitment.text.now;
  tags = map tag_of (reading_tags r);
  region = option_map (λ f. f.text.now) (reading_region r);
}

-- the model's record
abbrev pub record_of : lent_record.Record → model.Record
record_of (lent_record.TheVariants.Reading r) = model.Reads (model_reading r)
record_of (lent_record.TheVariants.Amend seq index value) = model.Amends seq index value

-- ---- the texts of a record, in order

abbrev pub tag_texts : LentTag → List LentText
tag_texts t = t.key ∷ t.value ∷ []

-- of a reading: these fields, of its tags each key and value, and behind them its region, if it has one
abbrev pub lent_texts : (start end account resource key commitment : LentText) → List LentTag → Option LentText → List LentText
lent_texts start end account resource key commitment tags region =
    start ∷ end ∷ account ∷ resource ∷ key ∷ commitment ∷ flat_map tag_texts tags ++ option_to_list region

abbrev pub reading_texts : Reading → List LentText
reading_texts r =
    lent_texts (lent r.start_text) (lent r.end_text) (lent r.account) (lent r.resource) (lent r.key) (lent r.commitment)
    (reading_tags r) (option_map lent (reading_region r))

abbrev pub record_texts : lent_record.Record → List LentText
record_texts (lent_record.TheVariants.Reading r) = reading_texts r
record_texts (lent_record.TheVariants.Amend seq index value) = []

-- ---- the line that they come from

-- the source at a span
abbrev pub text_at : List ℕ → Span → LentText
text_at source span = record { text = slice_range source span.from span.to; from = span.from; to = span.to }

-- the fields of a line, from left to right: each begins where those before it, and the bar behind each of them, end
abbrev pub fields_at : List ℕ → Span → List LentText
fields_at source span = parts_at 124 (text_at source span)

-- Which of a line's fields its record lends: a reading's nine, or in format B2 ten, but the letter and the value, and of the
-- tags each key and value; none of an amendment's.
abbrev pub lent_fields : List LentText → List LentText
lent_fields (letter ∷ start ∷ end ∷ account ∷ resource ∷ key ∷ value ∷ commitment ∷ tags ∷ []) =
    lent_texts start end account resource key commitment (tags_at tags) None
lent_fields (letter ∷ start ∷ end ∷ account ∷ resource ∷ key ∷ value ∷ commitment ∷ tags ∷ region ∷ []) =
    lent_texts start end account resource key commitment (tags_at tags) (Some region)
lent_fields _ = []

-- The record is lent from the line at that span. Each of its texts is the source at its span, within the line, and
-- ends before the next begins. And each is the line's field of that name, in that field's place, also where it is empty.
pub record IsLentRecord (source : List ℕ) (span : Span) (r : lent_record.Record) : Type 0 where
  pub apart : AreLentApart source span.from span.to (record_texts r)
  pub places : record_texts r ≡ lent_fields (fields_at source span)
