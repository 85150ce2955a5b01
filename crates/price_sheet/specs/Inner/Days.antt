-- The starts of one SKU's prices, by day.
use Rattle.std.specs.Prelude.{ℕ, Bool, true, ◌&&◌, if◌then◌else◌, List, [], ◌∷◌, map, Option, Some, None, unwrap_or, ℤ, int_le, int_lt}
use Rattle.std.specs.List.{list_all}
use Rattle.price_sheet.specs.declared.price_in_force.Start.{Start}

-- the starts that days and their places are
abbrev pub starts_in : List (ℤ × ℕ) → List Start
starts_in entries = map (λ e. record { day = e.0; place = e.1 }) entries

-- each start is on a later day than those before it
abbrev pub rise : List Start → Bool
rise [] = true
rise (s ∷ ss) = list_all (λ t. int_lt s.day t.day) ss && rise ss

-- of starts that rise the last one that is not after the day
abbrev pub begun : ℤ → List Start → Option Start
begun day [] = None
begun day (s ∷ ss) = if int_le s.day day then Some (unwrap_or (begun day ss) s) else None

-- one more start at its day, where none stands on that day
abbrev pub with_start : List Start → Start → List Start
with_start [] start = start ∷ []
with_start (s ∷ ss) start = if int_lt s.day start.day then s ∷ with_start ss start else (if int_lt start.day s.day then start ∷ s ∷ ss else s ∷ ss)
