-- Reading a day and joining its text from its parts are the same thing.
use Rattle.std.proofs.Common.{◌≡◌, ℕ, ◌+◌, ◌-◌, ◌*◌, ◌<◌, ◌≤◌, Bool, true, false, cond, List, ◌∷◌, ◌++◌, length, take, refl, sym, ap, ap₂, subst, ◌∙◌, arith, Option, Some, None, ℤ, pos}
use Rattle.std.specs.Prelude.{slice_index, slice_range}
use Rattle.std.specs.Option.{option_and_then}
use Rattle.std.proofs.lemmas.Bool.{and_parts, and_from, cond-true, eqb-true, leb-true, le-leb}
use Rattle.std.proofs.lemmas.Bool.Decides.{nat_tests}
use Rattle.std.proofs.lemmas.Option.{cond_some}
use Rattle.jiff_core.specs.Calendar.{days_from_civil, days_in_month}
use Rattle.metering_model.specs.Dates.{two_digits, day_text, IsMonthText, IsDayText, number_at, has_day_form, month_in, year_of, month_of_year, day_of_month, day_in}
use Rattle.metering_model.proofs.DigitTexts.{by_length, IsNumberText, two_are_digits, two_digits_read, two_digits_written}
use Rattle.metering_model.proofs.MonthLaws.{month_text_form, IsMonthOf, month_joined, month_of_text, month_read}

-- what a conditional and a chain of options say where they have a value
pub when_some : {A : Type 0} (b : Bool) (o : Option A) (y : A) → cond b o None ≡ Some y → (b ≡ true) × (o ≡ Some y)
when_some true o y e = (refl, e)
when_some false o y e = cc

some_inside : {A B : Type 0} (f : A → Option B) (o : Option A) (y : B) → option_and_then f o ≡ Some y → (x : A) × (o ≡ Some x) × (f x ≡ Some y)
some_inside f None y e = cc
some_inside f (Some x) y e = (x, refl, e)

-- a text of that form in its parts
record HasDayParts (t : List ℕ) : Type 0 where
  day : IsNumberText 100 two_digits (slice_range t 8 10)
  joined : t ≡ take 7 t ++ 45 ∷ two_digits (number_at t 8 2)

-- what computes of any ten bytes
ten_bytes : (t : List ℕ) → length t ≡ 10 → (length (slice_range t 8 10) ≡ 2) × (t ≡ take 7 t ++ slice_index t 7 ∷ slice_range t 8 10)
ten_bytes t e = by_length 10 (λ t. (length (slice_range t 8 10) ≡ 2) × (t ≡ take 7 t ++ slice_index t 7 ∷ slice_range t 8 10)) (λ a b c d e f g h i j. (refl, refl)) t e

day_parts : (t : List ℕ) → has_day_form t ≡ true → HasDayParts t
day_parts t h =
    let all = and_parts _ _ h in
    let front = and_parts _ _ all.0 in
    let first = and_parts _ _ front.0 in
    let bytes = ten_bytes t (eqb-true _ _ first.0) in
    let day : IsNumberText 100 two_digits (slice_range t 8 10) = two_digits_written _ bytes.0 all.1 in
    record {
      day = day;
      joined = bytes.1 ∙ ap₂ (λ c x. take 7 t ++ c ∷ x) (eqb-true _ _ front.1) day.joined;
    }

-- the number of a month gives its year and its place in it
month_number_parts : (t : List ℕ) (m : ℕ) (s : IsMonthText t m) → (year_of m ≡ s.year) × (month_of_year m ≡ s.month)
month_number_parts t m s = parts s.year s.month (month_of_text t m s) s.number
  where
    parts : (year month : ℕ) → IsMonthOf year month → m ≡ 12 * year + month - 1 → (year_of m ≡ year) × (month_of_year m ≡ month)
    parts year month k e = (omega arith, omega arith)

-- the month has the day, and n is its day number
record IsDayOf (year month day : ℕ) (n : ℤ) : Type 0 where
  low : 1 ≤ day
  high : day ≤ days_in_month (pos year) month
  number : n ≡ days_from_civil (pos year) month day

day_within : (day m : ℕ) (n : ℤ) → day_of_month day m ≡ Some n → IsDayOf (year_of m) (month_of_year m) day n
day_within day m n e =
    let found = cond_some _ _ _ e in
    let tests = and_parts _ _ found.0 in
    record { low = leb-true _ _ tests.0; high = leb-true _ _ tests.1; number = sym found.1 }

day_of_text : (t : List ℕ) (d m : ℕ) (n : ℤ) → t ≡ take 7 t ++ 45 ∷ two_digits d → IsMonthText (take 7 t) m → IsDayOf (year_of m) (month_of_year m) d n → IsDayText t n
day_of_text t d m n joined s k =
    let parts = month_number_parts (take 7 t) m s in
    let here : IsDayOf s.year s.month d n = subst (λ y. IsDayOf y s.month d n) parts.0 (subst (λ x. IsDayOf (year_of m) x d n) parts.1 k) in
    record {
      year = s.year;
      month = s.month;
      day = d;
      year_in = s.year_in;
      month_in = s.month_in;
      day_in = (here.low, here.high);
      joined = joined ∙ ap (λ x. x ++ 45 ∷ two_digits d) s.joined;
      number = here.number;
    }

pub day_read : (t : List ℕ) (n : ℤ) → day_in t ≡ Some n → IsDayText t n
day_read t n h =
    let found = when_some _ _ _ h in
    let inside = some_inside (day_of_month (number_at t 8 2)) (month_in (take 7 t)) n found.1 in
    day_of_text t (number_at t 8 2) inside.0 n (day_parts t found.0).joined (month_read _ _ inside.1) (day_within _ _ _ inside.2)

day_text_form : (year month day : ℕ) → has_day_form (day_text year month day) ≡ true
day_text_form year month day = and_from _ _ (and_from _ _ (month_text_form year month) refl) (two_are_digits day)

at_most_31 : (year : ℤ) (month : ℕ) → days_in_month year month ≤ 31
at_most_31 year month = grind (arith, nat_tests)

-- reading the day of a month that has it
day_taken : (year month day m : ℕ) (n : ℤ) → year_of m ≡ year → month_of_year m ≡ month → IsDayOf year month day n → day_of_month day m ≡ Some n
day_taken year month day m n e f k =
    let here : IsDayOf (year_of m) (month_of_year m) day n = subst (λ y. IsDayOf y (month_of_year m) day n) (sym e) (subst (λ x. IsDayOf year x day n) (sym f) k) in
    cond-true _ _ _ (and_from _ _ (le-leb _ _ here.low) (le-leb _ _ here.high)) ∙ ap Some (sym here.number)

day_joined : (year month day : ℕ) (n : ℤ) → IsMonthOf year month → IsDayOf year month day n → day_in (day_text year month day) ≡ Some n
day_joined year month day n k d =
    let bound = at_most_31 (pos year) month in
    let most = d.high in
    let small : day < 100 = omega arith in
    let m = 12 * year + month - 1 in
    let year_is : year_of m ≡ year = omega arith in
    let month_is : month_of_year m ≡ month = omega arith in
    cond-true _ _ _ (day_text_form year month day)
    ∙ ap₂ (λ x o. option_and_then (day_of_month x) o) (two_digits_read day small) (month_joined year month k)
    ∙ day_taken year month day m n year_is month_is d

month_of_day : (t : List ℕ) (n : ℤ) (s : IsDayText t n) → IsMonthOf s.year s.month
month_of_day t n s = record { year_low = s.year_in.0; year_high = s.year_in.1; month_low = s.month_in.0; month_high = s.month_in.1 }

pub day_written : (t : List ℕ) (n : ℤ) → IsDayText t n → day_in t ≡ Some n
day_written t n s =
    ap day_in s.joined
    ∙ day_joined s.year s.month s.day n (month_of_day t n s) (record { low = s.day_in.0; high = s.day_in.1; number = s.number })
