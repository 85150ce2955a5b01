-- Reading a record step by step: each field's rule, and the fault of the first field that breaks its own.
use Rattle.std.specs.Prelude.{ℕ, not, ◌&&◌, ◌||◌, List, None, Result, Ok, ok_or, ℤ, pos, int_lt, int_le}
use Rattle.std.specs.Result.{result_ok}
use Rattle.metering_model.specs.FirstFailure.{◌>>=◌, holds_or}
use Rattle.metering_model.specs.NumberText.{value_in}
use Rattle.metering_model.specs.Dates.{stamp_in}
use Rattle.metering_model.specs.declared.Kind.{Kind}
use Rattle.metering_model.specs.declared.BatchCode.{BatchCode}
use Rattle.metering_model.specs.declared.BatchCode.TheVariants.{Fields, Time, Number, Text, Tags}
use Rattle.metering_model.specs.Batch.{Tag, Record, Reads, Amends, is_priced, is_text, is_empty}
use Rattle.metering_model.specs.BatchReading.{kind_in, whole_in, tags_in}
use Rattle.metering_model.specs.Limits.{last_index, last_sequence}

unfoldable pub kind_step : List ℕ → Result Kind BatchCode
kind_step t = ok_or (kind_in t) Fields

unfoldable pub stamp_step : List ℕ → Result ℤ BatchCode
stamp_step t = ok_or (stamp_in t) Time

unfoldable pub order_step : ℤ → ℤ → Result (Unit {0}) BatchCode
order_step start end = holds_or (int_lt start end) Time

unfoldable pub text_step : List ℕ → Result (Unit {0}) BatchCode
text_step t = holds_or (is_text t) Text

unfoldable pub key_step : List ℕ → Result (Unit {0}) BatchCode
key_step t = holds_or (is_text t && not (is_empty t)) Text

unfoldable pub value_step : List ℕ → Result ℤ BatchCode
value_step t = ok_or (result_ok (value_in t)) Number

unfoldable pub sign_step : Kind → ℤ → Result (Unit {0}) BatchCode
sign_step kind value = holds_or (not (is_priced kind) || int_le (pos 0) value) Number

unfoldable pub commitment_step : Kind → List ℕ → Result (Unit {0}) BatchCode
commitment_step kind t = holds_or (is_text t && (is_priced kind || is_empty t)) Text

unfoldable pub tags_step : List ℕ → Result (List Tag) BatchCode
tags_step t = ok_or (tags_in t) Tags

unfoldable pub whole_step : ℕ → ℕ → List ℕ → Result ℕ BatchCode
whole_step low high t = ok_or (whole_in low high t) Number

-- the record of a reading's nine fields, which tell no region
unfoldable pub reading_in : (letter start end account resource key value commitment tags : List ℕ) → Result Record BatchCode
reading_in letter start end account resource key value commitment tags = do
  k ← kind_step letter
  s ← stamp_step start
  e ← stamp_step end
  _ ← order_step s e
  _ ← text_step account
  _ ← text_step resource
  _ ← key_step key
  v ← value_step value
  _ ← sign_step k v
  _ ← commitment_step k commitment
  ts ← tags_step tags
  Ok (Reads (record {
    kind = k;
    start = s;
    end = e;
    start_text = start;
    end_text = end;
    account = account;
    resource = resource;
    key = key;
    value = v;
    commitment = commitment;
    tags = ts;
    region = None;
  }))

-- the record of an amendment's fields behind its letter
unfoldable pub amendment_in : (seq index value : List ℕ) → Result Record BatchCode
amendment_in seq index value = do
  s ← whole_step 1 last_sequence seq
  i ← whole_step 0 last_index index
  v ← value_step value
  Ok (Amends s i v)
