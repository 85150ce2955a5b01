-- A period begins with its month, and ends with the month after it; of months, a later one begins later.
use Rattle.std.proofs.Common.{◌≡◌, ℕ, ◌+◌, ◌<◌, ◌≤◌, inl, inr, arith, ◌<ℤ◌, ◌≤ℤ◌}
use Rattle.std.proofs.lemmas.Bool.{cases_lt}
use Rattle.std.proofs.lemmas.Int.{ints}
use Rattle.metering_model.specs.Dates.{month_start, period_start, period_end}
use Rattle.utc_calendar.proofs.MonthOrder.{month_start-lt}

pub month_start-le : (a b : ℕ) → a ≤ b → month_start a ≤ℤ month_start b
month_start-le a b h = elim (cases_lt a b) [
  | inl less ↦ omega (arith, ints, month_start-lt a b less)
  | inr most ↦ let same : a ≡ b = omega arith in rw same (omega (arith, ints))
]

pub period_start-lt-end : (base p : ℕ) → period_start base p <ℤ period_end base p
period_start-lt-end base p = month_start-lt (base + p) (base + p + 1) (omega arith)

pub period_end-le-start : (base p q : ℕ) → p < q → period_end base p ≤ℤ period_start base q
period_end-le-start base p q h = month_start-le (base + p + 1) (base + q) (omega arith)

pub period_start-lt : (base p q : ℕ) → p < q → period_start base p <ℤ period_start base q
period_start-lt base p q h = month_start-lt (base + p) (base + q) (omega arith)

pub period_end-lt : (base p q : ℕ) → p < q → period_end base p <ℤ period_end base q
period_end-lt base p q h = month_start-lt (base + p + 1) (base + q + 1) (omega arith)

pub period_start-lt_base : (a b p : ℕ) → a < b → period_start a p <ℤ period_start b p
period_start-lt_base a b p h = month_start-lt (a + p) (b + p) (omega arith)
