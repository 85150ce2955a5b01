-- Whether one of the learned cuts goes on from the one before it.
use Rattle.std.specs.Prelude.{ℕ, zero, suc, Bool, false, List, Option, Some, None, slice_get}
use Rattle.metering_model.specs.Cut.{Cut}
use Rattle.process_laws.specs.LocalSteps.{is_at_least}

abbrev pub are_in_turn : (before cut : Option Cut) → Bool
are_in_turn None cut = false
are_in_turn (Some before) None = false
are_in_turn (Some before) (Some cut) = is_at_least cut before

-- the cut of that period is at or above the one before it, and the first at or above that cut
abbrev pub goes_on : (first : Cut) → List Cut → (period : ℕ) → Bool
goes_on first cuts zero = are_in_turn (Some first) (slice_get cuts 0)
goes_on first cuts (suc p) = are_in_turn (slice_get cuts p) (slice_get cuts (suc p))
