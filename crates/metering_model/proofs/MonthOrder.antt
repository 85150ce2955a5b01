-- A later month begins later.
use Rattle.std.proofs.Common.{◌≡◌, ℕ, zero, suc, ◌+◌, ◌-◌, ◌%◌, ◌<◌, ◌≤◌, inl, inr, arith, pos, ◌<ℤ◌, ◌≤ℤ◌}
use Rattle.std.proofs.lemmas.Bool.{cases_lt}
use Rattle.std.proofs.lemmas.Int.{ints}
use Rattle.jiff_core.specs.Calendar.{day_count}
use Rattle.jiff_core.proofs.SignedLemmas.{signed_arith}
use Rattle.jiff_core.proofs.CalendarLemmas.{days_from_civil-day_count, days_in_month_bounds, day_count-next_month, day_count-next_year, day_count-last_of_year, day_count-day}
use Rattle.metering_model.specs.Dates.{year_of, month_of_year, month_start}

-- the day count of a month's first day
abbrev days_before : ℕ → ℕ
days_before m = day_count (pos (year_of m)) (month_of_year m) 1

-- the month is followed by one of the same year
within_year : (m : ℕ) → m % 12 < 11 → days_before m < days_before (m + 1)
within_year m h =
    let y = pos (year_of m) in
    let year : year_of (m + 1) ≡ year_of m = omega arith in
    let month : month_of_year (m + 1) ≡ month_of_year m + 1 = omega arith in
    let next = day_count-next_month y (month_of_year m) (omega arith) in
    rw (year, month) (omega (arith, next, days_in_month_bounds y (month_of_year m)))

-- December is followed by January of the next year
over_year : (m : ℕ) → m % 12 ≡ 11 → days_before m < days_before (m + 1)
over_year m h =
    let y = year_of m in
    let year : year_of (m + 1) ≡ y + 1 = omega arith in
    let january : month_of_year (m + 1) ≡ 1 = omega arith in
    let december : month_of_year m ≡ 12 = omega arith in
    let next = day_count-next_year (pos y) (pos (y + 1)) (omega (arith, signed_arith)) (omega (arith, signed_arith)) in
    rw (year, january, december) (omega (arith, next, day_count-last_of_year (pos y), day_count-day (pos y) 12 1 31 (omega arith) (omega arith)))

next_month : (m : ℕ) → days_before m < days_before (m + 1)
next_month m = elim (cases_lt (m % 12) 11) [ inl h ↦ within_year m h | inr h ↦ over_year m (omega arith) ]

later_month : (m k : ℕ) → days_before m < days_before (m + suc k)
later_month m zero = let one : m + 1 ≡ m + suc zero = omega arith in rw (← one) (next_month m)
later_month m (suc k) =
    let one : m + suc (suc k) ≡ m + suc k + 1 = omega arith in
    rw one (omega (arith, later_month m k, next_month (m + suc k)))

pub month_start-lt : (a b : ℕ) → a < b → month_start a <ℤ month_start b
month_start-lt a b h =
    let there : a + suc (b - a - 1) ≡ b = omega arith in
    let before : days_before a < days_before b = rw there at (later_month a (b - a - 1)) in
    let here = days_from_civil-day_count (pos (year_of a)) (month_of_year a) 1 in
    omega (arith, signed_arith, here, days_from_civil-day_count (pos (year_of b)) (month_of_year b) 1)

pub month_start-le : (a b : ℕ) → a ≤ b → month_start a ≤ℤ month_start b
month_start-le a b h = elim (cases_lt a b) [
  | inl less ↦ omega (arith, ints, month_start-lt a b less)
  | inr most ↦ let same : a ≡ b = omega arith in rw same (omega (arith, ints))
]
