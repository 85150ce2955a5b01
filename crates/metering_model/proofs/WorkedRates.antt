-- Quantities, costs and prices in force.
use Rattle.std.specs.Prelude.{◌≡◌, ℕ, List, [], ◌∷◌, Option, Some, None, ℤ, pos, negsuc, codes, refl, option_map}
use Rattle.metering_model.specs.Sheet.{PriceRow, Sheet}
use Rattle.metering_model.specs.PriceInForce.{price_in_force}
use Rattle.metering_model.specs.Rating.{rated, pricing_quantity, Usage}
use Rattle.metering_model.specs.Dates.{day_of}
use Rattle.metering_model.proofs.Samples.{january_2025, cpu, ops}

-- 0.5 rounds to 0 and 1.5 to 2, so the two differences add up to the whole
half_to_even_first : (rated ops None Usage (pos 0) (pos 1)).priced ≡ Some (pos 0)
half_to_even_first = refl

half_to_even_then : (rated ops None Usage (pos 1) (pos 3)).priced ≡ Some (pos 2)
half_to_even_then = refl

half_to_even_cost : (rated ops None Usage (pos 1) (pos 3)).list ≡ pos 2_000_000
half_to_even_cost = refl

below_half : pricing_quantity 2 (negsuc 0) ≡ pos 0
below_half = refl

rounded_away_from_half : pricing_quantity 3 (pos 5) ≡ pos 2
rounded_away_from_half = refl

negative_half_to_even : pricing_quantity 2 (negsuc 2) ≡ negsuc 1
negative_half_to_even = refl

-- two rows of one SKU, from the first and from the fifteenth of January 2025
abbrev later_cpu : PriceRow
later_cpu = record cpu { price_id = codes "cpu-later"; from = pos 20_103 }

abbrev two_prices : Sheet
two_prices = record { base = january_2025; prices = later_cpu ∷ cpu ∷ ops ∷ []; commitments = []; regions = [] }

abbrev price_on : ℤ → Option (List ℕ)
price_on day = option_map (λ r. r.price_id) (price_in_force two_prices (codes "cpu") day)

day_before : price_on (pos 20_088) ≡ None
day_before = refl

last_day_of_the_first : price_on (pos 20_102) ≡ Some (codes "cpu-od")
last_day_of_the_first = refl

last_second_of_the_first : price_on (day_of (pos 1_736_899_199)) ≡ Some (codes "cpu-od")
last_second_of_the_first = refl

first_day_of_the_second : price_on (pos 20_103) ≡ Some (codes "cpu-later")
first_day_of_the_second = refl

-- which row stands first decides nothing: the same two, the earlier one first
abbrev earlier_first : Sheet
earlier_first = record two_prices { prices = cpu ∷ later_cpu ∷ ops ∷ [] }

abbrev price_on_earlier_first : ℤ → Option (List ℕ)
price_on_earlier_first day = option_map (λ r. r.price_id) (price_in_force earlier_first (codes "cpu") day)

day_before_earlier_first : price_on_earlier_first (pos 20_088) ≡ None
day_before_earlier_first = refl

last_day_of_the_first_earlier_first : price_on_earlier_first (pos 20_102) ≡ Some (codes "cpu-od")
last_day_of_the_first_earlier_first = refl

first_day_of_the_second_earlier_first : price_on_earlier_first (pos 20_103) ≡ Some (codes "cpu-later")
first_day_of_the_second_earlier_first = refl
