-- Days, moments and months of the Gregorian calendar in UTC, and their texts: FOCUS writes YYYY-MM-DDTHH:mm:ssZ.
use Rattle.std.specs.Prelude.{◌≡◌, ℕ, ◌+◌, ◌-◌, ◌*◌, ◌/◌, ◌%◌, ◌≤◌, ◌<◌, Bool, ◌&&◌, ◌==◌, nat_lt, nat_le, if◌then◌else◌, List, [], ◌∷◌, ◌++◌, length, take, Option, Some, None, ℤ, pos, ◌+ℤ◌, ◌*ℤ◌, slice_index, slice_range, codes}
use Rattle.std.specs.List.{list_all}
use Rattle.std.specs.Option.{option_and_then}
use Rattle.std.specs.Int.{int_div_euclid}
use Rattle.jiff_core.specs.Calendar.{days_from_civil, days_in_month}
use Rattle.metering_model.specs.NumberText.{is_digit, number_of}
use Rattle.metering_model.specs.Limits.{most_periods, last_year, first_base_month, last_base_month}

-- a number below 100 in two digits, and one below 10,000 in four
abbrev pub two_digits : ℕ → List ℕ
two_digits n = (48 + n / 10 % 10) ∷ (48 + n % 10) ∷ []

abbrev pub four_digits : ℕ → List ℕ
four_digits n = two_digits (n / 100) ++ two_digits (n % 100)

abbrev pub month_text : ℕ → ℕ → List ℕ
month_text year month = four_digits year ++ codes "-" ++ two_digits month

abbrev pub day_text : ℕ → ℕ → ℕ → List ℕ
day_text year month day = month_text year month ++ codes "-" ++ two_digits day

abbrev pub time_text : ℕ → ℕ → ℕ → List ℕ
time_text hour minute second = two_digits hour ++ codes ":" ++ two_digits minute ++ codes ":" ++ two_digits second

abbrev pub stamp_text : List ℕ → List ℕ → List ℕ
stamp_text day time = day ++ codes "T" ++ time ++ codes "Z"

-- A month is counted from January of the year 0. The text is that of month m, in the years 0001 to 9999.
pub record IsMonthText (text : List ℕ) (m : ℕ) : Type 0 where
  pub year : ℕ
  pub month : ℕ
  pub year_in : (1 ≤ year) × (year ≤ last_year)
  pub month_in : (1 ≤ month) × (month ≤ 12)
  pub joined : text ≡ month_text year month
  pub number : m ≡ 12 * year + month - 1

-- The text is that of a day that the calendar has, and n is its day number: 0 for 1970-01-01.
pub record IsDayText (text : List ℕ) (n : ℤ) : Type 0 where
  pub year : ℕ
  pub month : ℕ
  pub day : ℕ
  pub year_in : (1 ≤ year) × (year ≤ last_year)
  pub month_in : (1 ≤ month) × (month ≤ 12)
  pub day_in : (1 ≤ day) × (day ≤ days_in_month (pos year) month)
  pub joined : text ≡ day_text year month day
  pub number : n ≡ days_from_civil (pos year) month day

-- The text is that of a moment, and n counts the seconds to it from the start of 1970-01-01.
pub record IsStampText (text : List ℕ) (n : ℤ) : Type 0 where
  pub date : List ℕ
  pub day : ℤ
  pub hour : ℕ
  pub minute : ℕ
  pub second : ℕ
  pub is_date : IsDayText date day
  pub time_in : (hour < 24) × (minute < 60) × (second < 60)
  pub joined : text ≡ stamp_text date (time_text hour minute second)
  pub number : n ≡ (day *ℤ pos 86_400) +ℤ pos (3600 * hour + 60 * minute + second)

-- the number that so many digits write from a place on
abbrev pub number_at : List ℕ → ℕ → ℕ → ℕ
number_at text from count = number_of (slice_range text from (from + count))

abbrev pub are_digits : List ℕ → ℕ → ℕ → Bool
are_digits text from count = list_all is_digit (slice_range text from (from + count))

-- YYYY-MM
abbrev pub has_month_form : List ℕ → Bool
has_month_form t = (length t == 7) && are_digits t 0 4 && (slice_index t 4 == 45) && are_digits t 5 2

-- YYYY-MM-DD
abbrev pub has_day_form : List ℕ → Bool
has_day_form t = (length t == 10) && has_month_form (take 7 t) && (slice_index t 7 == 45) && are_digits t 8 2

-- HH:mm:ss
abbrev pub has_time_form : List ℕ → Bool
has_time_form t =
    (length t == 8) && are_digits t 0 2 && (slice_index t 2 == 58) && are_digits t 3 2 && (slice_index t 5 == 58) && are_digits t 6 2

-- YYYY-MM-DDTHH:mm:ssZ, of whatever date and time
abbrev pub has_stamp_form : List ℕ → Bool
has_stamp_form t = (length t == 20) && (slice_index t 10 == 84) && (slice_index t 19 == 90)

abbrev pub month_in : List ℕ → Option ℕ
month_in t =
    if has_month_form t && nat_le 1 (number_at t 0 4) && nat_le 1 (number_at t 5 2) && nat_le (number_at t 5 2) 12
    then Some (12 * number_at t 0 4 + number_at t 5 2 - 1)
    else None

abbrev pub year_of : ℕ → ℕ
year_of m = m / 12

abbrev pub month_of_year : ℕ → ℕ
month_of_year m = m % 12 + 1

-- the day number of that day of a month, if the month has it
abbrev pub day_of_month : ℕ → ℕ → Option ℤ
day_of_month day m =
    if nat_le 1 day && nat_le day (days_in_month (pos (year_of m)) (month_of_year m))
    then Some (days_from_civil (pos (year_of m)) (month_of_year m) day)
    else None

abbrev pub day_in : List ℕ → Option ℤ
day_in t = if has_day_form t then option_and_then (day_of_month (number_at t 8 2)) (month_in (take 7 t)) else None

abbrev pub second_in : List ℕ → Option ℕ
second_in t =
    if has_time_form t && nat_lt (number_at t 0 2) 24 && nat_lt (number_at t 3 2) 60 && nat_lt (number_at t 6 2) 60
    then Some (3600 * number_at t 0 2 + 60 * number_at t 3 2 + number_at t 6 2)
    else None

abbrev pub stamp_of : Option ℤ → Option ℕ → Option ℤ
stamp_of (Some day) (Some second) = Some ((day *ℤ pos 86_400) +ℤ pos second)
stamp_of (Some day) None = None
stamp_of None second = None

abbrev pub stamp_in : List ℕ → Option ℤ
stamp_in t = if has_stamp_form t then stamp_of (day_in (take 10 t)) (second_in (slice_range t 11 19)) else None

-- a base month lies from 2000-01 to 2100-12
abbrev pub IsBaseMonth : ℕ → Type 0
IsBaseMonth m = (first_base_month ≤ m) × (m ≤ last_base_month)

abbrev pub IsPeriod : ℕ → Type 0
IsPeriod p = p < most_periods

-- the day of a stamp
abbrev pub day_of : ℤ → ℤ
day_of stamp = int_div_euclid stamp (pos 86_400)

-- the stamp at which a month begins, and its text
abbrev pub month_start : ℕ → ℤ
month_start m = days_from_civil (pos (year_of m)) (month_of_year m) 1 *ℤ pos 86_400

abbrev pub month_start_text : ℕ → List ℕ
month_start_text m = stamp_text (day_text (year_of m) (month_of_year m) 1) (time_text 0 0 0)

-- Period p bills the month that comes p months after the base. FOCUS: the start is inclusive, the end exclusive.
abbrev pub period_start : ℕ → ℕ → ℤ
period_start base p = month_start (base + p)

abbrev pub period_end : ℕ → ℕ → ℤ
period_end base p = month_start (base + p + 1)

abbrev pub period_start_text : ℕ → ℕ → List ℕ
period_start_text base p = month_start_text (base + p)

abbrev pub period_end_text : ℕ → ℕ → List ℕ
period_end_text base p = month_start_text (base + p + 1)
