use Rattle.std.proofs.Common.{sym, subst}
use Rattle.metering_model.specs.Rating.{IsRounded}
use Rattle.metering_model.proofs.RoundingLaws.{rounded-pricing_quantity, pricing_quantity_is}
use Rattle.metering_model.proofs.laws.pricing_quantities_are_rounded_half_to_even.Goals as goal

pub returns : goal.returns
returns c = λ per v q some. (pricing_quantity_is per v q some, λ e. subst (IsRounded per v) (sym e) (rounded-pricing_quantity per v some))
