-- The field of a line, found by the code of its fault.
use Rattle.std.specs.Prelude.{◌≡◌, ℕ, Bool, not, ◌&&◌, ◌||◌, if◌then◌else◌, List, ◌∷◌, codes}
use Rattle.std.specs.Option.{is_some}
use Rattle.metering_model.specs.Limits.{last_index, last_sequence}
use Rattle.metering_model.specs.Batch.{is_empty, is_text}
use Rattle.metering_model.specs.BatchReading.{fields_in, is_same, whole_in}
use Rattle.metering_model.specs.Dates.{stamp_in}
use Rattle.fault_lines.specs.declared.fields.ReadingFields.{ReadingFields}
use Rattle.fault_lines.specs.declared.fields.RecordField.{RecordField}
use Rattle.fault_lines.specs.declared.fields.RecordField.TheVariants as field

-- The line has at least nine fields, of which these are some of the first eight.
pub record AreFieldsOf (line : List ℕ) (f : ReadingFields) : Type 0 where
  pub end : List ℕ
  pub value : List ℕ
  pub rest : List ℕ
  pub are : fields_in line ≡ f.letter.now ∷ f.start.now ∷ end ∷ f.account.now ∷ f.resource.now ∷ f.key.now ∷ value ∷ f.commitment.now ∷ fields_in rest

-- usage and purchases
abbrev pub is_priced_letter : List ℕ → Bool
is_priced_letter letter = is_same letter (codes "U") || is_same letter (codes "P")

-- where a moment is at fault: the start where that is none
abbrev pub time_field : ReadingFields → RecordField
time_field f = if is_some (stamp_in f.start.now) then field.End else field.Start

-- where a text is at fault: the first that is, and else the region
abbrev pub text_field : ReadingFields → RecordField
text_field f =
    if not (is_text f.account.now) then field.Account
    else (if not (is_text f.resource.now) then field.Resource
    else (if not (is_text f.key.now && not (is_empty f.key.now)) then field.Key
    else (if not (is_text f.commitment.now && (is_priced_letter f.letter.now || is_empty f.commitment.now)) then field.Commitment else field.Region)))

-- where a number of an amendment is at fault
abbrev pub number_field : List ℕ → List ℕ → RecordField
number_field seq index =
    if not (is_some (whole_in 1 last_sequence seq)) then field.Sequence else (if not (is_some (whole_in 0 last_index index)) then field.Index else field.Value)
