-- Reading a month, a day or a stamp and joining its text from its parts are the same thing: here for stamps.
use Rattle.std.proofs.Common.{◌≡◌, ℕ, ◌+◌, ◌*◌, ◌/◌, ◌%◌, ◌<◌, Bool, true, cond, ◌&&◌, List, [], ◌∷◌, ◌++◌, length, take, refl, sym, ap, ap₂, ◌∙◌, arith, Option, Some, None, ℤ, pos, ◌+ℤ◌, ◌*ℤ◌, append_assoc}
use Rattle.std.specs.Prelude.{nat_le, nat_lt, slice_index, slice_range}
use Rattle.std.specs.List.{list_all}
use Rattle.std.proofs.lemmas.Bool.{and_parts, and_from, cond-true, eqb-true, ltb-true, lt-ltb}
use Rattle.std.proofs.lemmas.Bool.Decides.{nat_tests}
use Rattle.std.proofs.lemmas.Option.{cond_some, same_Some}
use Rattle.metering_model.specs.NumberText.{number_of}
use Rattle.metering_model.specs.Dates.{two_digits, day_text, time_text, stamp_text, IsStampText, number_at, has_time_form, has_stamp_form, day_in, second_in, stamp_of, stamp_in}
use Rattle.metering_model.proofs.DigitTexts.{by_length, IsNumberText, two_are_digits, two_digits_read, two_digits_written}
use Rattle.metering_model.proofs.DayLaws.{when_some}
pub use Rattle.metering_model.proofs.MonthLaws.{month_read, month_written}
pub use Rattle.metering_model.proofs.DayLaws.{day_read, day_written}

-- ---- times of the day

-- a text of that form in its parts
record HasTimeParts (t : List ℕ) : Type 0 where
  hour : IsNumberText 100 two_digits (slice_range t 0 2)
  minute : IsNumberText 100 two_digits (slice_range t 3 5)
  second : IsNumberText 100 two_digits (slice_range t 6 8)
  joined : t ≡ time_text (number_at t 0 2) (number_at t 3 2) (number_at t 6 2)

-- what computes of any eight bytes
record HasEightBytes (t : List ℕ) : Type 0 where
  hour : length (slice_range t 0 2) ≡ 2
  minute : length (slice_range t 3 5) ≡ 2
  second : length (slice_range t 6 8) ≡ 2
  joined : t ≡ slice_range t 0 2 ++ (slice_index t 2 ∷ (slice_range t 3 5 ++ (slice_index t 5 ∷ slice_range t 6 8)))

eight_bytes : (t : List ℕ) → length t ≡ 8 → HasEightBytes t
eight_bytes t e = by_length 8 HasEightBytes (λ a b c d e f g h. record { hour = refl; minute = refl; second = refl; joined = refl }) t e

time_parts : (t : List ℕ) → has_time_form t ≡ true → HasTimeParts t
time_parts t h =
    let all = and_parts _ _ h in
    let fifth = and_parts _ _ all.0 in
    let fourth = and_parts _ _ fifth.0 in
    let third = and_parts _ _ fourth.0 in
    let first = and_parts _ _ third.0 in
    let bytes = eight_bytes t (eqb-true _ _ first.0) in
    let hour : IsNumberText 100 two_digits (slice_range t 0 2) = two_digits_written _ bytes.hour first.1 in
    let minute : IsNumberText 100 two_digits (slice_range t 3 5) = two_digits_written _ bytes.minute fourth.1 in
    let second : IsNumberText 100 two_digits (slice_range t 6 8) = two_digits_written _ bytes.second all.1 in
    record {
      hour = hour;
      minute = minute;
      second = second;
      joined =
          bytes.joined
          ∙ ap₂ (λ x c. x ++ (c ∷ (slice_range t 3 5 ++ (slice_index t 5 ∷ slice_range t 6 8)))) hour.joined (eqb-true _ _ third.1)
          ∙ ap₂ (λ x c. two_digits (number_at t 0 2) ++ (58 ∷ (x ++ (c ∷ slice_range t 6 8)))) minute.joined (eqb-true _ _ fifth.1)
          ∙ ap (λ x. two_digits (number_at t 0 2) ++ (58 ∷ (two_digits (number_at t 3 2) ++ (58 ∷ x)))) second.joined;
    }

-- the numbers are those of a time of the day
record IsTimeOf (hour minute second : ℕ) : Type 0 where
  hours : hour < 24
  minutes : minute < 60
  seconds : second < 60

-- the text is that of a time, and s its second of the day
record IsTimeText (t : List ℕ) (s : ℕ) : Type 0 where
  hour : ℕ
  minute : ℕ
  second : ℕ
  within : IsTimeOf hour minute second
  joined : t ≡ time_text hour minute second
  number : s ≡ 3600 * hour + 60 * minute + second

second_read : (t : List ℕ) (s : ℕ) → second_in t ≡ Some s → IsTimeText t s
second_read t s h =
    let found = cond_some _ _ _ h in
    let all = and_parts _ _ found.0 in
    let front = and_parts _ _ all.0 in
    let first = and_parts _ _ front.0 in
    record {
      hour = number_at t 0 2;
      minute = number_at t 3 2;
      second = number_at t 6 2;
      within = record { hours = ltb-true _ _ first.1; minutes = ltb-true _ _ front.1; seconds = ltb-true _ _ all.1 };
      joined = (time_parts t first.0).joined;
      number = sym found.1;
    }

time_text_form : (hour minute second : ℕ) → has_time_form (time_text hour minute second) ≡ true
time_text_form hour minute second =
    and_from _ _ (and_from _ _ (and_from _ _ (and_from _ _ (two_are_digits hour) refl) (two_are_digits minute)) refl) (two_are_digits second)

-- what reading answers of a form and three numbers
abbrev second_from : Bool → ℕ → ℕ → ℕ → Option ℕ
second_from form hour minute second =
    cond (form && nat_lt hour 24 && nat_lt minute 60 && nat_lt second 60) (Some (3600 * hour + 60 * minute + second)) None

second_taken : (form : Bool) (hour minute second : ℕ) → form ≡ true → IsTimeOf hour minute second → second_from form hour minute second ≡ Some (3600 * hour + 60 * minute + second)
second_taken form hour minute second h k =
    cond-true _ _ _ (and_from _ _ (and_from _ _ (and_from _ _ h (lt-ltb _ _ k.hours)) (lt-ltb _ _ k.minutes)) (lt-ltb _ _ k.seconds))

second_joined : (hour minute second : ℕ) → IsTimeOf hour minute second → second_in (time_text hour minute second) ≡ Some (3600 * hour + 60 * minute + second)
second_joined hour minute second k =
    let few_hours : hour < 100 = omega arith in
    let few_minutes : minute < 100 = omega arith in
    let few_seconds : second < 100 = omega arith in
    let form = has_time_form (time_text hour minute second) in
    ap₂ (λ x y. second_from form x y (number_of (two_digits second))) (two_digits_read hour few_hours) (two_digits_read minute few_minutes)
    ∙ ap (second_from form hour minute) (two_digits_read second few_seconds)
    ∙ second_taken form hour minute second (time_text_form hour minute second) k

-- ---- stamps

-- what computes of any twenty bytes
record HasTwentyBytes (t : List ℕ) : Type 0 where
  joined : t ≡ take 10 t ++ (slice_index t 10 ∷ (slice_range t 11 19 ++ (slice_index t 19 ∷ [])))

twenty_bytes : (t : List ℕ) → length t ≡ 20 → HasTwentyBytes t
twenty_bytes t e = by_length 20 HasTwentyBytes (λ a b c d e f g h i j k l m n o p q r s u. record { joined = refl }) t e

stamp_parts : (t : List ℕ) → has_stamp_form t ≡ true → t ≡ stamp_text (take 10 t) (slice_range t 11 19)
stamp_parts t h =
    let all = and_parts _ _ h in
    let front = and_parts _ _ all.0 in
    let bytes = twenty_bytes t (eqb-true _ _ front.0) in
    bytes.joined
    ∙ ap₂ (λ c d. take 10 t ++ (c ∷ (slice_range t 11 19 ++ (d ∷ [])))) (eqb-true _ _ front.1) (eqb-true _ _ all.1)
    ∙ joined (take 10 t) (slice_range t 11 19)
  where
    joined : (day time : List ℕ) → day ++ (84 ∷ (time ++ (90 ∷ []))) ≡ stamp_text day time
    joined day time = simp append_assoc

-- what a stamp's day and second are
record HasStamp (d : Option ℤ) (s : Option ℕ) (n : ℤ) : Type 0 where
  day : ℤ
  second : ℕ
  day_is : d ≡ Some day
  second_is : s ≡ Some second
  number : n ≡ (day *ℤ pos 86_400) +ℤ pos second

stamp_has : (d : Option ℤ) (s : Option ℕ) (n : ℤ) → stamp_of d s ≡ Some n → HasStamp d s n
stamp_has None s n e = cc
stamp_has (Some day) None n e = cc
stamp_has (Some day) (Some second) n e = record { day = day; second = second; day_is = refl; second_is = refl; number = sym (same_Some _ _ e) }

pub stamp_read : (t : List ℕ) (n : ℤ) → stamp_in t ≡ Some n → IsStampText t n
stamp_read t n h =
    let found = when_some _ _ _ h in
    let parts = stamp_has _ _ n found.1 in
    let time = second_read (slice_range t 11 19) parts.second parts.second_is in
    let whole = stamp_parts t found.0 in
    record {
      date = take 10 t;
      day = parts.day;
      hour = time.hour;
      minute = time.minute;
      second = time.second;
      is_date = day_read (take 10 t) parts.day parts.day_is;
      time_in = (time.within.hours, time.within.minutes, time.within.seconds);
      joined = whole ∙ ap (stamp_text (take 10 t)) time.joined;
      number = parts.number ∙ ap (λ s. (parts.day *ℤ pos 86_400) +ℤ pos s) time.number;
    }

-- a text of that form is cut where it was joined
stamp_joined : (year month day hour minute second : ℕ) → stamp_in (stamp_text (day_text year month day) (time_text hour minute second)) ≡ stamp_of (day_in (day_text year month day)) (second_in (time_text hour minute second))
stamp_joined year month day hour minute second = refl

pub stamp_written : (t : List ℕ) (n : ℤ) → IsStampText t n → stamp_in t ≡ Some n
stamp_written t n s =
    let date = s.is_date in
    let time : IsTimeOf s.hour s.minute s.second = record { hours = s.time_in.0; minutes = s.time_in.1; seconds = s.time_in.2 } in
    ap stamp_in s.joined
    ∙ ap (λ d. stamp_in (stamp_text d (time_text s.hour s.minute s.second))) date.joined
    ∙ stamp_joined date.year date.month date.day s.hour s.minute s.second
    ∙ ap₂ stamp_of (ap day_in (sym date.joined) ∙ day_written s.date s.day date) (second_joined s.hour s.minute s.second time)
    ∙ ap Some (sym s.number)

-- ---- the bytes of a stamp

-- from `-` to `Z`: neither a line feed nor `|`
abbrev pub is_stamp_byte : ℕ → Bool
is_stamp_byte c = nat_le 45 c && nat_le c 90

digit_in_stamp : (n : ℕ) → is_stamp_byte (48 + n % 10) ≡ true
digit_in_stamp n = rest (n % 10) (omega arith)
  where
    rest : (r : ℕ) → r < 10 → is_stamp_byte (48 + r) ≡ true
    rest r h = grind (arith, nat_tests)

-- two digits before bytes that pass
digits_before : (n : ℕ) {others : Bool} → others ≡ true → (is_stamp_byte (48 + n / 10 % 10) && (is_stamp_byte (48 + n % 10) && others)) ≡ true
digits_before n h = and_from _ _ (digit_in_stamp (n / 10)) (and_from _ _ (digit_in_stamp n) h)

stamp_text_bytes : (year month day hour minute second : ℕ) → list_all is_stamp_byte (stamp_text (day_text year month day) (time_text hour minute second)) ≡ true
stamp_text_bytes year month day hour minute second =
    let time = digits_before hour (digits_before minute (digits_before second refl)) in
    digits_before (year / 100) (digits_before (year % 100) (digits_before month (digits_before day time)))

-- no byte of a stamp's text ends a line or a field
pub stamp_bytes : (t : List ℕ) (n : ℤ) → IsStampText t n → list_all is_stamp_byte t ≡ true
stamp_bytes t n s =
    let date = s.is_date in
    ap (list_all is_stamp_byte) s.joined
    ∙ ap (λ d. list_all is_stamp_byte (stamp_text d (time_text s.hour s.minute s.second))) date.joined
    ∙ stamp_text_bytes date.year date.month date.day s.hour s.minute s.second
