-- Reading a batch: the batch that a text is, or its first fault, from the top and from the left.
use Rattle.std.specs.Prelude.{ℕ, zero, suc, ◌+◌, Bool, true, false, not, ◌&&◌, ◌||◌, ◌==◌, nat_lt, nat_le, if◌then◌else◌, List, [], ◌∷◌, length, map, Option, Some, None, Result, Ok, Err, ok_or, pos, int_lt, int_le, codes}
use Rattle.std.specs.Result.{result_ok}
use Rattle.std.specs.Option.{option_to_list}
use Rattle.std.specs.List.{list_all, list_any, slice_split, before_first, after_first}
pub use Rattle.metering_model.specs.declared.BatchCode.{BatchCode}
pub use Rattle.metering_model.specs.declared.BatchCode.TheVariants.{Head, Count, Fields, Time, Number, Text, Tags, TooLong}
pub use Rattle.metering_model.specs.declared.BatchFault.{BatchFault}
use Rattle.metering_model.specs.FirstFailure.{◌>>=◌, holds_or}
use Rattle.metering_model.specs.NumberText.{is_whole_part, number_of, value_in}
use Rattle.metering_model.specs.Limits.{most_batch_bytes, most_records, last_index, most_agents, last_sequence}
use Rattle.metering_model.specs.Dates.{stamp_in}
use Rattle.metering_model.specs.Batch.{Version, B1, B2, Kind, Usage, Purchase, Credit, Tax, Adjustment, Tag, Record, Reads, Amends, Batch, is_priced, is_text, is_empty, keys_rise}

abbrev pub is_same : List ℕ → List ℕ → Bool
is_same [] [] = true
is_same [] (y ∷ ys) = false
is_same (x ∷ xs) [] = false
is_same (x ∷ xs) (y ∷ ys) = (x == y) && is_same xs ys

abbrev pub kind_in : List ℕ → Option Kind
kind_in t =
    if is_same t (codes "U") then Some Usage
    else (if is_same t (codes "P") then Some Purchase
    else (if is_same t (codes "C") then Some Credit
    else (if is_same t (codes "T") then Some Tax
    else (if is_same t (codes "A") then Some Adjustment else None))))

-- a whole number without sign and leading zero
abbrev pub whole_in : ℕ → ℕ → List ℕ → Option ℕ
whole_in low high t = if is_whole_part t && nat_le low (number_of t) && nat_le (number_of t) high then Some (number_of t) else None

abbrev pub is_equals_sign : ℕ → Bool
is_equals_sign c = c == 61

abbrev pub tag_in : List ℕ → Option Tag
tag_in t =
    if is_text t && list_any is_equals_sign t && not (is_empty (before_first is_equals_sign t))
    then Some (record { key = before_first is_equals_sign t; value = after_first is_equals_sign t })
    else None

abbrev pub with_first : {A : Type 0} → Option A → Option (List A) → Option (List A)
with_first (Some x) (Some xs) = Some (x ∷ xs)
with_first (Some x) None = None
with_first None xs = None

-- every one of them, or none
abbrev pub all_some : {A : Type 0} → List (Option A) → Option (List A)
all_some [] = Some []
all_some (o ∷ os) = with_first o (all_some os)

abbrev pub if_rising : Option (List Tag) → Option (List Tag)
if_rising None = None
if_rising (Some ts) = if keys_rise ts then Some ts else None

-- empty, or tags joined by `;` with keys strictly rising
abbrev pub tags_in : List ℕ → Option (List Tag)
tags_in [] = Some []
tags_in (c ∷ cs) = if_rising (all_some (map tag_in (slice_split (λ x. x == 59) (c ∷ cs))))

abbrev pub fields_in : List ℕ → List (List ℕ)
fields_in line = slice_split (λ c. c == 124) line

-- the reading that its nine fields give, with the region behind them where there is one
abbrev pub reading_in : (letter start end account resource key value commitment tags : List ℕ) (region : Option (List ℕ)) → Result Record BatchCode
reading_in letter start end account resource key value commitment tags region = do
  k ← ok_or (kind_in letter) Fields
  s ← ok_or (stamp_in start) Time
  e ← ok_or (stamp_in end) Time
  _ ← holds_or (int_lt s e) Time
  _ ← holds_or (is_text account) Text
  _ ← holds_or (is_text resource) Text
  _ ← holds_or (is_text key && not (is_empty key)) Text
  v ← ok_or (result_ok (value_in value)) Number
  _ ← holds_or (not (is_priced k) || int_le (pos 0) v) Number
  _ ← holds_or (is_text commitment && (is_priced k || is_empty commitment)) Text
  ts ← ok_or (tags_in tags) Tags
  _ ← holds_or (list_all is_text (option_to_list region)) Text
  Ok (Reads (record {
    kind = k;
    start = s;
    end = e;
    start_text = start;
    end_text = end;
    account = account;
    resource = resource;
    key = key;
    value = v;
    commitment = commitment;
    tags = ts;
    region = region;
  }))

-- the record that a line's fields give, or the rule that its first bad field breaks
abbrev pub record_in : Version → List (List ℕ) → Result Record BatchCode
record_in version (letter ∷ seq ∷ index ∷ value ∷ []) = do
  _ ← holds_or (is_same letter (codes "X")) Fields
  s ← ok_or (whole_in 1 last_sequence seq) Number
  i ← ok_or (whole_in 0 last_index index) Number
  v ← ok_or (result_ok (value_in value)) Number
  Ok (Amends s i v)
record_in B1 (letter ∷ start ∷ end ∷ account ∷ resource ∷ key ∷ value ∷ commitment ∷ tags ∷ []) =
    reading_in letter start end account resource key value commitment tags None
record_in B2 (letter ∷ start ∷ end ∷ account ∷ resource ∷ key ∷ value ∷ commitment ∷ tags ∷ region ∷ []) =
    reading_in letter start end account resource key value commitment tags (Some region)
record_in _ _ = Err Fields

-- version, agent, sequence and count of records of a head line
pub record HeadLine : Type 0 where
  pub version : Version
  pub agent : ℕ
  pub seq : ℕ
  pub count : ℕ

abbrev pub version_in : List ℕ → Option Version
version_in t = if is_same t (codes "B1") then Some B1 else (if is_same t (codes "B2") then Some B2 else None)

abbrev pub head_in : List (List ℕ) → Result HeadLine BatchCode
head_in (version ∷ agent ∷ seq ∷ count ∷ []) = do
  v ← ok_or (version_in version) Head
  a ← ok_or (whole_in 1 most_agents agent) Head
  s ← ok_or (whole_in 1 last_sequence seq) Head
  n ← ok_or (whole_in 0 most_records count) Head
  Ok (record { version = v; agent = a; seq = s; count = n })
head_in _ = Err Head

abbrev pub at_line : {A : Type 0} → ℕ → Result A BatchCode → Result A BatchFault
at_line line (Ok x) = Ok x
at_line line (Err c) = Err (record { code = c; line = line })

-- A text is its lines, each ended by a line feed, and what stands behind the last line feed.
pub record Lines : Type 0 where
  pub lines : List (List ℕ)
  pub rest : List ℕ

abbrev pub with_line : List ℕ → Lines → Lines
with_line l ls = record { lines = l ∷ ls.lines; rest = ls.rest }

abbrev pub lines_of_parts : List (List ℕ) → Lines
lines_of_parts [] = record { lines = []; rest = [] }
lines_of_parts (p ∷ []) = record { lines = []; rest = p }
lines_of_parts (p ∷ q ∷ ps) = with_line p (lines_of_parts (q ∷ ps))

abbrev pub lines_in : List ℕ → Lines
lines_in text = lines_of_parts (slice_split (λ c. c == 10) text)

-- so many records from the lines that stand at this line and below
abbrev pub records_in : Version → ℕ → ℕ → List (List ℕ) → Result (List Record) BatchFault
records_in version line zero ls = Ok []
records_in version line (suc n) [] = Err (record { code = Count; line = line })
records_in version line (suc n) (l ∷ ls) = do
  r ← at_line line (record_in version (fields_in l))
  rs ← records_in version (line + 1) n ls
  Ok (r ∷ rs)

abbrev pub batch_below : List (List ℕ) → List ℕ → HeadLine → Result Batch BatchFault
batch_below ls rest head = do
  rs ← records_in head.version 2 head.count ls
  _ ← at_line (head.count + 2) (holds_or ((length ls == head.count) && is_empty rest) Count)
  Ok (record { version = head.version; agent = head.agent; seq = head.seq; records = rs })

abbrev pub batch_of_lines : List (List ℕ) → List ℕ → Result Batch BatchFault
batch_of_lines [] rest = Err (record { code = Head; line = 1 })
batch_of_lines (l ∷ ls) rest = at_line 1 (head_in (fields_in l)) >>= batch_below ls rest

-- the batch that a text is, or its first fault
abbrev pub batch_in : List ℕ → Result Batch BatchFault
batch_in text =
    if nat_lt most_batch_bytes (length text) then Err (record { code = TooLong; line = 1 })
    else batch_of_lines (lines_in text).lines (lines_in text).rest
