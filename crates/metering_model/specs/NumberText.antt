-- Decimals of a fixed number of places as text: which text spells which number of units of 10^-places.
-- Values, quantities and prices have six places, costs have twelve.
use Rattle.std.specs.Prelude.{◌≡◌, ℕ, zero, suc, ◌+◌, ◌-◌, ◌*◌, ◌/◌, ◌%◌, ◌^◌, ◌<◌, Bool, true, false, not, ◌&&◌, ◌==◌, nat_le, nat_lt, if◌then◌else◌, List, [], ◌∷◌, ◌++◌, length, drop, Option, Some, None, Result, Ok, Err, ℤ, pos, negsuc, neg_ℤ, unsigned_abs, decimal, fold, IsTrue, slice_index}
use Rattle.std.specs.Int.{is_negative}
use Rattle.std.specs.List.{list_all, before_first, after_first}
pub use Rattle.metering_model.specs.declared.NumberFault.{NumberFault}
pub use Rattle.metering_model.specs.declared.NumberFault.TheVariants.{Shape, Range}

abbrev pub is_digit : ℕ → Bool
is_digit c = nat_le 48 c && nat_le c 57

abbrev pub is_point : ℕ → Bool
is_point c = c == 46

-- one digit, or several of which the first is not 0
abbrev pub is_whole_part : List ℕ → Bool
is_whole_part [] = false
is_whole_part (c ∷ []) = is_digit c
is_whole_part (c ∷ d ∷ cs) = is_digit c && not (c == 48) && list_all is_digit (d ∷ cs)

abbrev pub ends_in : ℕ → List ℕ → Bool
ends_in c t = slice_index t (length t - 1) == c

-- at most so many digits, of which the last is not 0
abbrev pub is_decimal_part : ℕ → List ℕ → Bool
is_decimal_part places ds = list_all is_digit ds && nat_le (length ds) places && not (ends_in 48 ds)

-- the number that digits write
abbrev pub number_of : List ℕ → ℕ
number_of ds = fold (λ n c. 10 * n + (c - 48)) 0 ds

-- what the digits behind the point are worth, in units of 10^-places
unfoldable pub worth_of : ℕ → List ℕ → ℕ
worth_of zero ds = 0
worth_of (suc p) [] = 0
worth_of (suc p) (c ∷ cs) = (c - 48) * 10 ^ p + worth_of p cs

abbrev pub units_of : ℕ → List ℕ → List ℕ → ℕ
units_of places whole decimals = number_of whole * 10 ^ places + worth_of places decimals

abbrev pub sign_text : Bool → List ℕ
sign_text true = 45 ∷ []
sign_text false = []

abbrev pub point_text : List ℕ → List ℕ
point_text [] = []
point_text (c ∷ cs) = 46 ∷ c ∷ cs

abbrev pub signed : Bool → ℕ → ℤ
signed true n = neg_ℤ (pos n)
signed false n = pos n

-- The text joins a sign, a whole part and decimals, each in its form, and n is the number that they say.
pub record Spells (places : ℕ) (text : List ℕ) (n : ℤ) : Type 0 where
  pub minus : Bool
  pub whole : List ℕ
  pub decimals : List ℕ
  pub joined : text ≡ sign_text minus ++ whole ++ point_text decimals
  pub whole_part : IsTrue (is_whole_part whole)
  pub decimal_part : IsTrue (is_decimal_part places decimals)
  pub no_minus_zero : minus ≡ true → 0 < units_of places whole decimals
  pub number : n ≡ signed minus (units_of places whole decimals)

-- the same, computed: the number that the text spells, if it spells one
abbrev pub is_unsigned : ℕ → List ℕ → Bool
is_unsigned places body =
    is_whole_part (before_first is_point body) && is_decimal_part places (after_first is_point body) && not (ends_in 46 body)

abbrev pub magnitude_in : ℕ → List ℕ → Option ℕ
magnitude_in places body =
    if is_unsigned places body then Some (units_of places (before_first is_point body) (after_first is_point body)) else None

-- zero has no minus
abbrev pub negated : Option ℕ → Option ℤ
negated None = None
negated (Some zero) = None
negated (Some (suc n)) = Some (negsuc n)

abbrev pub not_negated : Option ℕ → Option ℤ
not_negated None = None
not_negated (Some n) = Some (pos n)

abbrev pub number_in : ℕ → List ℕ → Option ℤ
number_in places t = if slice_index t 0 == 45 then negated (magnitude_in places (drop 1 t)) else not_negated (magnitude_in places t)

-- the decimals of a rest below 10^places: as many as it takes
unfoldable pub decimals_of : ℕ → ℕ → List ℕ
decimals_of zero rest = []
decimals_of (suc p) rest = if rest == 0 then [] else (48 + rest / 10 ^ p) ∷ decimals_of p (rest % 10 ^ p)

-- the one spelling of a number below 10^64 units
abbrev pub spelling : ℕ → ℤ → List ℕ
spelling places n =
    sign_text (is_negative n) ++ decimal (unsigned_abs n / 10 ^ places)
    ++ point_text (decimals_of places (unsigned_abs n % 10 ^ places))

-- the magnitude of a value, of a difference and of a cost, and a price, lies below its limit
abbrev pub value_limit : ℕ
value_limit = 10 ^ 18

abbrev pub delta_limit : ℕ
delta_limit = 2 * 10 ^ 18

abbrev pub price_limit : ℕ
price_limit = 10 ^ 12

abbrev pub cost_limit : ℕ
cost_limit = 2 * 10 ^ 30

abbrev pub value_within : Option ℤ → Result ℤ NumberFault
value_within None = Err Shape
value_within (Some n) = if nat_lt (unsigned_abs n) value_limit then Ok n else Err Range

abbrev pub price_within : Option ℕ → Result ℕ NumberFault
price_within None = Err Shape
price_within (Some n) = if nat_lt n price_limit then Ok n else Err Range

abbrev pub value_in : List ℕ → Result ℤ NumberFault
value_in t = value_within (number_in 6 t)

-- a price, in millionths; it has no minus
abbrev pub price_in : List ℕ → Result ℕ NumberFault
price_in t = price_within (magnitude_in 6 t)
