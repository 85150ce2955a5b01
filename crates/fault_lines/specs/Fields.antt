-- Which field of a record's line breaks its rule first, from the left.
use Rattle.std.specs.Prelude.{◌≡◌, ℕ, ◌-◌, Bool, true, false, not, ◌&&◌, ◌||◌, if◌then◌else◌, List, [], ◌∷◌, ◌++◌, map, Option, Some, None, pos, ℤ, int_lt, int_le, codes}
use Rattle.std.specs.List.{slice_get}
use Rattle.std.specs.Option.{is_some, option_and_then}
use Rattle.std.specs.Result.{result_ok}
use Rattle.metering_model.specs.Limits.{last_index, last_sequence}
use Rattle.metering_model.specs.Batch.{is_empty, is_priced, is_text}
use Rattle.metering_model.specs.BatchReading.{fields_in, is_same, kind_in, lines_in, tags_in, whole_in}
use Rattle.metering_model.specs.Dates.{stamp_in}
use Rattle.metering_model.specs.NumberText.{value_in}
use Rattle.metering_model.specs.declared.Kind.{Kind}
use Rattle.metering_model.specs.declared.BatchCode.{BatchCode}
use Rattle.metering_model.specs.declared.BatchCode.TheVariants as code
use Rattle.metering_model.specs.declared.BatchFault.{BatchFault}
use Rattle.fault_lines.specs.declared.fields.RecordField.{RecordField}
use Rattle.fault_lines.specs.declared.fields.RecordField.TheVariants as field

abbrev pub field_name : RecordField → List ℕ
field_name field.Start = codes "start"
field_name field.End = codes "end"
field_name field.Account = codes "account"
field_name field.Resource = codes "resource"
field_name field.Key = codes "key"
field_name field.Value = codes "value"
field_name field.Commitment = codes "commitment"
field_name field.Tags = codes "tags"
field_name field.Region = codes "region"
field_name field.Sequence = codes "sequence"
field_name field.Index = codes "index"

-- the code of a batch in which a field breaks its rule
abbrev pub field_code : RecordField → BatchCode
field_code field.Start = code.Time
field_code field.End = code.Time
field_code field.Account = code.Text
field_code field.Resource = code.Text
field_code field.Key = code.Text
field_code field.Value = code.Number
field_code field.Commitment = code.Text
field_code field.Tags = code.Tags
field_code field.Region = code.Text
field_code field.Sequence = code.Number
field_code field.Index = code.Number

-- whether it is one of these codes: V4 to V7
abbrev pub is_of_field : BatchCode → Bool
is_of_field code.Head = false
is_of_field code.Count = false
is_of_field code.Fields = false
is_of_field code.Time = true
is_of_field code.Number = true
is_of_field code.Text = true
is_of_field code.Tags = true
is_of_field code.TooLong = false

-- ---- the rules of a line's fields

-- both are moments, of which the second comes later
abbrev pub comes_later : Option ℤ → Option ℤ → Bool
comes_later None end = false
comes_later (Some s) None = false
comes_later (Some s) (Some e) = int_lt s e

-- a value, which of a priced kind is not negative
abbrev pub is_fit_value : Kind → Option ℤ → Bool
is_fit_value k None = false
is_fit_value k (Some v) = not (is_priced k) || int_le (pos 0) v

-- each field of a reading behind its letter, from left to right, with whether it meets its rule
abbrev pub reading_rules : Kind → (start end account resource key value commitment tags : List ℕ) → (region : List (List ℕ)) → List (RecordField × Bool)
reading_rules k start end account resource key value commitment tags region =
    (field.Start, is_some (stamp_in start)) ∷ (field.End, comes_later (stamp_in start) (stamp_in end))
    ∷ (field.Account, is_text account) ∷ (field.Resource, is_text resource) ∷ (field.Key, is_text key && not (is_empty key))
    ∷ (field.Value, is_fit_value k (result_ok (value_in value)))
    ∷ (field.Commitment, is_text commitment && (is_priced k || is_empty commitment))
    ∷ (field.Tags, is_some (tags_in tags)) ∷ map (λ t. (field.Region, is_text t)) region

abbrev pub amendment_rules : (seq index value : List ℕ) → List (RecordField × Bool)
amendment_rules seq index value =
    (field.Sequence, is_some (whole_in 1 last_sequence seq)) ∷ (field.Index, is_some (whole_in 0 last_index index))
    ∷ (field.Value, is_some (result_ok (value_in value))) ∷ []

-- none of a line of fewer than nine fields that are not four, or whose letter is none of a kind
abbrev pub line_rules : List (List ℕ) → List (RecordField × Bool)
line_rules (letter ∷ seq ∷ index ∷ value ∷ []) = if is_same letter (codes "X") then amendment_rules seq index value else []
line_rules (letter ∷ start ∷ end ∷ account ∷ resource ∷ key ∷ value ∷ commitment ∷ tags ∷ region) =
    elim (kind_in letter) [ Some k ↦ reading_rules k start end account resource key value commitment tags region | None ↦ [] ]
line_rules _ = []

abbrev pub first_not_met : List (RecordField × Bool) → Option RecordField
first_not_met [] = None
first_not_met (r ∷ rs) = if r.1 then first_not_met rs else Some r.0

-- the first field of a line that breaks its rule
unfoldable pub fault_field : List ℕ → Option RecordField
fault_field line = first_not_met (line_rules (fields_in line))

-- ---- the line of a batch

-- the line of a text of that number, counted from 1
abbrev pub line_at : List ℕ → ℕ → Option (List ℕ)
line_at text n = slice_get (lines_in text).lines (n - 1)

-- the field for which a text is no batch, where it is for a field
abbrev pub field_of : List ℕ → BatchFault → Option RecordField
field_of text fault = if is_of_field fault.code then option_and_then fault_field (line_at text fault.line) else None

-- In that line the fields left of this one meet their rules, it does not, and the code is its own.
pub record IsFaultOf (line : List ℕ) (c : BatchCode) (f : RecordField) : Type 0 where
  pub left : List RecordField
  pub right : List (RecordField × Bool)
  pub fields : line_rules (fields_in line) ≡ map (λ g. (g, true)) left ++ (f, false) ∷ right
  pub code : field_code f ≡ c
