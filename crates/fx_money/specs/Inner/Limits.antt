-- What reading answers of a number that a text spells: its form is judged before its range.
use Rattle.std.specs.Prelude.{ℕ, nat_lt, if◌then◌else◌, Option, Some, None, Result, Ok, Err}
use Rattle.metering_model.specs.declared.NumberFault.{NumberFault}
use Rattle.metering_model.specs.declared.NumberFault.TheVariants.{Shape, Range}

abbrev pub below_limit : ℕ → Option ℕ → Result ℕ NumberFault
below_limit limit None = Err Shape
below_limit limit (Some n) = if nat_lt n limit then Ok n else Err Range
