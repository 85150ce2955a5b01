-- Cuts that reach what is due for their periods, and rows that start before their periods end.
use Rattle.std.specs.Prelude.{ℕ, ◌+◌, ◌≤◌, ◌<◌, List, [], ◌∷◌, ℤ, ◌<ℤ◌}
use Rattle.metering_model.specs.Dates.{IsStampText}
use Rattle.metering_model.specs.Cut.{Cut, zero_cut, last_of}
use Rattle.metering_model.specs.Holding.{Holding}
use Rattle.metering_model.specs.Front.{IsDueAt, AreDueBetween}
use Rattle.metering_model.specs.Row.{Row}

-- each batch up to the cut is held, and was due for an earlier period
abbrev pub WereDueBefore : ℕ → ℕ → Holding → Cut → Type 0
WereDueBefore base period h cut =
    (agent seq : ℕ) → 1 ≤ seq → seq ≤ last_of cut agent → (q : ℕ) × (q < period) × IsDueAt base q h agent seq

abbrev pub AreDueFrom : ℕ → ℕ → Holding → Cut → List Cut → Type 0
AreDueFrom base period h before [] = Unit {0}
AreDueFrom base period h before (cut ∷ cuts) = AreDueBetween base period h before cut × AreDueFrom base (period + 1) h cut cuts

-- each cut, from period 0 on, reaches only batches that are held and due for its period
abbrev pub AreDueOver : ℕ → Holding → ℕ → List Cut → Type 0
AreDueOver base h agents cuts = AreDueFrom base 0 h (zero_cut agents) cuts

-- By its two texts, a row's charge starts before its billing period ends.
pub record StartsBeforeItsPeriodEnds (r : Row) : Type 0 where
  pub start : ℤ
  pub end : ℤ
  pub start_is : IsStampText r.charge_period_start start
  pub end_is : IsStampText r.billing_period_end end
  pub earlier : start <ℤ end
