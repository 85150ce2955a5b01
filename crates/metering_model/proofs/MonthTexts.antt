-- The text of a month's first moment is read as that moment.
use Rattle.std.proofs.Common.{◌≡◌, ℕ, ◌≤◌, ◌<◌, refl, arith, Some, pos}
use Rattle.std.proofs.lemmas.Int.{ints}
use Rattle.jiff_core.specs.Calendar.{days_from_civil, days_in_month}
use Rattle.jiff_core.proofs.CalendarLemmas.{days_in_month_bounds}
use Rattle.metering_model.specs.Dates.{year_of, month_of_year, month_start, month_start_text, day_text, stamp_in, IsDayText, IsStampText}
use Rattle.metering_model.proofs.DateLaws.{stamp_written}

-- months of the years 0001 to 9999

IsDayText-first : (m : ℕ) → 12 ≤ m → m < 120_000 → IsDayText (day_text (year_of m) (month_of_year m) 1) (days_from_civil (pos (year_of m)) (month_of_year m) 1)
IsDayText-first m from to =
    let some_day : 1 ≤ days_in_month (pos (year_of m)) (month_of_year m) = omega (arith, days_in_month_bounds (pos (year_of m)) (month_of_year m)) in
    record {
      year = year_of m;
      month = month_of_year m;
      day = 1;
      year_in = (omega arith, omega arith);
      month_in = (omega arith, omega arith);
      day_in = (omega arith, some_day);
      joined = refl;
      number = refl;
    }

pub IsStampText-month_start : (m : ℕ) → 12 ≤ m → m < 120_000 → IsStampText (month_start_text m) (month_start m)
IsStampText-month_start m from to = record {
  date = day_text (year_of m) (month_of_year m) 1;
  day = days_from_civil (pos (year_of m)) (month_of_year m) 1;
  hour = 0;
  minute = 0;
  second = 0;
  is_date = IsDayText-first m from to;
  time_in = (omega arith, omega arith, omega arith);
  joined = refl;
  number = omega (arith, ints);
}

pub stamp_in-month_start_text : (m : ℕ) → 12 ≤ m → m < 120_000 → stamp_in (month_start_text m) ≡ Some (month_start m)
stamp_in-month_start_text m from to = stamp_written (month_start_text m) (month_start m) (IsStampText-month_start m from to)
