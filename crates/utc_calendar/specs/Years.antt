-- Which numbers the months, days and stamps of the years 0001 to 9999 have.
use Rattle.std.specs.Prelude.{ℕ, ◌<◌, ◌≤◌, ℤ, pos, neg_ℤ}
use Rattle.jiff_core.specs.Calendar.{IsBetween}
use Rattle.metering_model.specs.Dates.{day_of}

-- a month is counted from January of the year 0
abbrev pub IsMonthNumber : ℕ → Type 0
IsMonthNumber m = (12 ≤ m) × (m < 120_000)

-- the day number of 0001-01-01, and that of 9999-12-31
abbrev pub first_day : ℤ
first_day = neg_ℤ (pos 719_162)

abbrev pub last_day : ℤ
last_day = pos 2_932_896

abbrev pub IsDayNumber : ℤ → Type 0
IsDayNumber n = IsBetween first_day last_day n

-- the stamp lies on such a day
abbrev pub IsStampNumber : ℤ → Type 0
IsStampNumber n = IsDayNumber (day_of n)
