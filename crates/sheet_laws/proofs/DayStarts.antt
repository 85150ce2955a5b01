-- What starts before a day's first moment starts on an earlier day.
use Rattle.std.proofs.Common.{ℤ, pos, negsuc, ◌<ℤ◌, ◌≤ℤ◌, ◌*ℤ◌, arith}
use Rattle.std.specs.Int.{int_div_euclid}
use Rattle.std.proofs.lemmas.Int.{ints}
use Rattle.metering_model.specs.Dates.{day_of}
use Rattle.sheet_laws.specs.Longer.{day_start}

by_quotient : (s d : ℤ) → s <ℤ (d *ℤ pos 86_400) → int_div_euclid s (pos 86_400) <ℤ d
by_quotient (pos a) (pos m) h = grind (arith, ints)
by_quotient (pos a) (negsuc m) h = grind (arith, ints)
by_quotient (negsuc a) (pos m) h = grind (arith, ints)
by_quotient (negsuc a) (negsuc m) h = grind (arith, ints)

through : (a b c : ℤ) → a <ℤ b → b ≤ℤ c → a <ℤ c
through a b c h k = grind (arith, ints)

pub starts_before_day : (start end day : ℤ) → start <ℤ end → end ≤ℤ day_start day → day_of start <ℤ day
starts_before_day start end day early ends = by_quotient start day (through start end (day_start day) early ends)
