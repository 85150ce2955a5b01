-- Reading a value or a price answers the number that the text spells, where it is within its limit.
use Rattle.std.proofs.Common.{◌≡◌, ◌<◌, ◌≤◌, ℕ, Bool, true, false, cond, List, Option, Some, None, Result, Ok, Err, ℤ, pos, unsigned_abs, refl, ap, subst, ◌∙◌, arith}
use Rattle.std.specs.Prelude.{nat_lt}
use Rattle.std.proofs.lemmas.Bool.{ltb-true, ltb-false, lt-ltb, cond-true, cond-false, le-ltb}
use Rattle.metering_model.specs.NumberText.{NumberFault, Range, Spells, number_in, magnitude_in, spelling, value_limit, price_limit, value_within, price_within, value_in, price_in}
use Rattle.metering_model.proofs.NumberReading.{spelled_number, number_spelled, magnitude_spelled, spelled_magnitude}
use Rattle.metering_model.proofs.NumberLaws.{spelling_spells}

-- ---- what a test of the range answers

in_range : {A : Type 0} (b : Bool) (x y : A) → ◌≡◌ {A = Result A NumberFault} (cond b (Ok x) (Err Range)) (Ok y) → (b ≡ true) × (x ≡ y)
in_range true x y e = (refl, cc)
in_range false x y e = absurd (cc)

out_of_range : {A : Type 0} (b : Bool) (x : A) → ◌≡◌ {A = Result A NumberFault} (cond b (Ok x) (Err Range)) (Err Range) → b ≡ false
out_of_range true x e = absurd (cc)
out_of_range false x e = refl

-- ---- values

value_found : (o : Option ℤ) (n : ℤ) → value_within o ≡ Ok n → (o ≡ Some n) × (unsigned_abs n < value_limit)
value_found None n e = absurd (cc)
value_found (Some m) n e =
    let parts = in_range (nat_lt (unsigned_abs m) value_limit) m n e in
    (ap Some parts.1, subst (λ (k : ℤ). unsigned_abs k < value_limit) parts.1 (ltb-true _ _ parts.0))

value_above : (o : Option ℤ) → value_within o ≡ Err Range → (n : ℤ) × (o ≡ Some n) × (value_limit ≤ unsigned_abs n)
value_above None e = absurd (cc)
value_above (Some m) e = (m, refl, ltb-false _ _ (out_of_range (nat_lt (unsigned_abs m) value_limit) m e))

pub value_spelled : (text : List ℕ) (n : ℤ) → value_in text ≡ Ok n → Spells 6 text n × (unsigned_abs n < value_limit)
value_spelled text n e = let found = value_found (number_in 6 text) n e in (number_spelled 6 text n found.0, found.1)

pub spelled_value : (text : List ℕ) (n : ℤ) → Spells 6 text n × (unsigned_abs n < value_limit) → value_in text ≡ Ok n
spelled_value text n s = ap value_within (spelled_number 6 text n s.0) ∙ cond-true (nat_lt (unsigned_abs n) value_limit) (Ok n) (Err Range) (lt-ltb _ _ s.1)

pub value_beyond : (text : List ℕ) → value_in text ≡ Err Range → (n : ℤ) × Spells 6 text n × (value_limit ≤ unsigned_abs n)
value_beyond text e = let above = value_above (number_in 6 text) e in (above.0, number_spelled 6 text above.0 above.1, above.2)

pub beyond_values : (text : List ℕ) → (n : ℤ) × Spells 6 text n × (value_limit ≤ unsigned_abs n) → value_in text ≡ Err Range
beyond_values text s = ap value_within (spelled_number 6 text s.0 s.1) ∙ cond-false (nat_lt (unsigned_abs s.0) value_limit) (Ok s.0) (Err Range) (le-ltb _ _ s.2)

pub value_back : (n : ℤ) → unsigned_abs n < value_limit → value_in (spelling 6 n) ≡ Ok n
value_back n small = spelled_value (spelling 6 n) n (spelling_spells 6 n (omega arith), small)

-- ---- prices

price_found : (o : Option ℕ) (n : ℕ) → price_within o ≡ Ok n → (o ≡ Some n) × (n < price_limit)
price_found None n e = absurd (cc)
price_found (Some m) n e =
    let parts = in_range (nat_lt m price_limit) m n e in
    (ap Some parts.1, subst (λ (k : ℕ). k < price_limit) parts.1 (ltb-true _ _ parts.0))

price_above : (o : Option ℕ) → price_within o ≡ Err Range → (n : ℕ) × (o ≡ Some n) × (price_limit ≤ n)
price_above None e = absurd (cc)
price_above (Some m) e = (m, refl, ltb-false _ _ (out_of_range (nat_lt m price_limit) m e))

pub price_spelled : (text : List ℕ) (n : ℕ) → price_in text ≡ Ok n → Spells 6 text (pos n) × (n < price_limit)
price_spelled text n e = let found = price_found (magnitude_in 6 text) n e in (magnitude_spelled 6 text n found.0, found.1)

pub spelled_price : (text : List ℕ) (n : ℕ) → Spells 6 text (pos n) × (n < price_limit) → price_in text ≡ Ok n
spelled_price text n s = ap price_within (spelled_magnitude 6 text n s.0) ∙ cond-true (nat_lt n price_limit) (Ok n) (Err Range) (lt-ltb _ _ s.1)

pub price_beyond : (text : List ℕ) → price_in text ≡ Err Range → (n : ℕ) × Spells 6 text (pos n) × (price_limit ≤ n)
price_beyond text e = let above = price_above (magnitude_in 6 text) e in (above.0, magnitude_spelled 6 text above.0 above.1, above.2)

pub beyond_prices : (text : List ℕ) → (n : ℕ) × Spells 6 text (pos n) × (price_limit ≤ n) → price_in text ≡ Err Range
beyond_prices text s = ap price_within (spelled_magnitude 6 text s.0 s.1) ∙ cond-false (nat_lt s.0 price_limit) (Ok s.0) (Err Range) (le-ltb _ _ s.2)

pub price_back : (n : ℕ) → n < price_limit → price_in (spelling 6 (pos n)) ≡ Ok n
price_back n small = spelled_price (spelling 6 (pos n)) n (spelling_spells 6 (pos n) (omega arith), small)
