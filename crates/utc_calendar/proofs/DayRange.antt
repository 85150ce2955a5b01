-- The day numbers of the years 0001 to 9999.
use Rattle.std.proofs.Common.{◌≡◌, ℕ, ◌+◌, refl, arith, ℤ, pos, ◌≤ℤ◌}
use Rattle.jiff_core.specs.Calendar.{IsCivilDate, days_from_civil, day_count, days_in_year}
use Rattle.jiff_core.proofs.SignedLemmas.{signed_arith}
use Rattle.jiff_core.proofs.MarchLemmas.{day_count-early, day_count-late}
use Rattle.jiff_core.proofs.CalendarLemmas.{days_from_civil-day_count, day_count-day_of_year, day_count-later_year, day_count_bounds}
use Rattle.utc_calendar.specs.Years.{first_day, last_day, IsDayNumber}

pub first_day_is : days_from_civil (pos 1) 1 1 ≡ first_day
first_day_is =
    let days = day_count-early (pos 1) 10_000 1 1 refl (omega arith) (omega arith) (omega arith) in
    omega (arith, signed_arith, days_from_civil-day_count (pos 1) 1 1)

pub last_day_is : days_from_civil (pos 9999) 12 31 ≡ last_day
last_day_is =
    let days = day_count-late (pos 9999) 19_999 12 31 refl (omega arith) (omega arith) (omega arith) in
    omega (arith, signed_arith, days_from_civil-day_count (pos 9999) 12 31)

-- the days before 0001-01-01, from the year -10000 on
day_count-year_1 : day_count (pos 0) 1 1 + days_in_year (pos 0) ≡ 3_652_791
day_count-year_1 = omega (arith, day_count-early (pos 0) 9999 1 1 refl (omega arith) (omega arith) (omega arith))

-- a date of those years has one of those numbers
pub IsDayNumber-date : (y : ℤ) (m d : ℕ) → IsCivilDate y m d → pos 1 ≤ℤ y → IsDayNumber (days_from_civil y m d)
IsDayNumber-date y m d date low =
    let start = day_count-later_year (pos 0) y (omega (arith, signed_arith)) (omega (arith, signed_arith)) in
    let here = day_count-day_of_year y m d date.2.0 in
    let bounds = day_count_bounds y m d date in
    (omega (arith, signed_arith, days_from_civil-day_count y m d, day_count-year_1), omega (arith, signed_arith, days_from_civil-day_count y m d))
