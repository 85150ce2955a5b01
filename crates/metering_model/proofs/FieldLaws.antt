-- Each field but the tags is read where it is the field's text, and back.
use Rattle.std.proofs.Common.{◌≡◌, ℕ, ◌<◌, ◌≤◌, ◌^◌, Bool, true, false, ◌&&◌, cond, List, [], ◌∷◌, Option, Some, None, Ok, Err, ℤ, unsigned_abs, decimal, codes, refl, sym, ap, ap₂, ◌∙◌, subst, arith, eqb-true, leb-true, le-leb, ltb-true, lt-ltb}
use Rattle.std.specs.Prelude.{◌==◌, nat_le, nat_lt}
use Rattle.std.specs.Result.{result_ok}
use Rattle.std.proofs.lemmas.Bool.{and_parts, and_from, cond-true}
use Rattle.std.proofs.lemmas.Option.{cond_some, same_Some, none-some}
use Rattle.metering_model.specs.NumberText.{Range, spelling, number_in, number_of, is_whole_part, value_in, value_within, value_limit}
use Rattle.metering_model.specs.Batch.{Version, B1, B2, version_text, Kind, Usage, Purchase, Credit, Tax, Adjustment, kind_text}
use Rattle.metering_model.specs.BatchReading.{is_same, kind_in, version_in, whole_in}
use Rattle.metering_model.proofs.NumberLaws.{spelled_number, number_spelled, spelling_spells, spelling_unique, decimal_whole, whole_decimal}

-- ---- the same text

-- the test of sameness holds of equal texts alone
pub same_read : (s t : List ℕ) → is_same s t ≡ true → s ≡ t
same_read [] [] h = refl
same_read [] (y ∷ ys) h = absurd (cc)
same_read (x ∷ xs) [] h = absurd (cc)
same_read (x ∷ xs) (y ∷ ys) h =
    let both = and_parts (x == y) (is_same xs ys) h in
    ap₂ ◌∷◌ (eqb-true x y both.0) (same_read xs ys both.1)

-- ---- a reading's kind, and a batch's version

-- the choice of a kind by one letter, and by those behind it
choice_read : {K : Type 0} (text : K → List ℕ) (b : Bool) (t : List ℕ) (k l : K) (o : Option K) → (b ≡ true → t ≡ text k) → (o ≡ Some l → t ≡ text l) → cond b (Some k) o ≡ Some l → t ≡ text l
choice_read text true t k l o here later h = here refl ∙ ap text (same_Some k l h)
choice_read text false t k l o here later h = later h

-- a letter that is read as a kind is that kind's
pub kind_read : (t : List ℕ) (k : Kind) → kind_in t ≡ Some k → t ≡ kind_text k
kind_read t k =
    choice_read kind_text _ t Usage k _ (same_read t (codes "U"))
    (choice_read kind_text _ t Purchase k _ (same_read t (codes "P"))
    (choice_read kind_text _ t Credit k _ (same_read t (codes "C"))
    (choice_read kind_text _ t Tax k _ (same_read t (codes "T"))
    (choice_read kind_text _ t Adjustment k _ (same_read t (codes "A")) (λ e. absurd (none-some k e))))))

-- each kind's letter is read as it
pub kind_written : (k : Kind) → kind_in (kind_text k) ≡ Some k
kind_written Usage = refl
kind_written Purchase = refl
kind_written Credit = refl
kind_written Tax = refl
kind_written Adjustment = refl

-- so it is with the version
pub version_read : (t : List ℕ) (v : Version) → version_in t ≡ Some v → t ≡ version_text v
version_read t v =
    choice_read version_text _ t B1 v _ (same_read t (codes "B1"))
    (choice_read version_text _ t B2 v _ (same_read t (codes "B2")) (λ e. absurd (none-some v e)))

pub version_written : (v : Version) → version_in (version_text v) ≡ Some v
version_written B1 = refl
version_written B2 = refl

-- ---- whole numbers within limits

-- a text that is read as a number is its decimal, and the number is within the limits
pub whole_read : (low high : ℕ) (t : List ℕ) (n : ℕ) → high < 10 ^ 64 → whole_in low high t ≡ Some n → (t ≡ decimal n) × (low ≤ n) × (n ≤ high)
whole_read low high t n small h =
    let p = cond_some (is_whole_part t && nat_le low (number_of t) && nat_le (number_of t) high) (number_of t) n h in
    let upper = and_parts (is_whole_part t && nat_le low (number_of t)) (nat_le (number_of t) high) p.0 in
    let lower = and_parts (is_whole_part t) (nat_le low (number_of t)) upper.0 in
    let le_high : number_of t ≤ high = leb-true _ _ upper.1 in
    let ge_low : low ≤ number_of t = leb-true _ _ lower.1 in
    let fits : number_of t < 10 ^ 64 = omega arith in
    subst (λ (m : ℕ). (t ≡ decimal m) × (low ≤ m) × (m ≤ high)) p.1 (whole_decimal t lower.0 fits, ge_low, le_high)

-- the decimal of a number within the limits is read as it
pub whole_written : (low high n : ℕ) → high < 10 ^ 64 → low ≤ n → n ≤ high → whole_in low high (decimal n) ≡ Some n
whole_written low high n small ge_low le_high =
    let fits : n < 10 ^ 64 = omega arith in
    let w = decimal_whole n fits in
    let above = le-leb low (number_of (decimal n)) (subst (λ (m : ℕ). low ≤ m) (sym w.1) ge_low) in
    let below = le-leb (number_of (decimal n)) high (subst (λ (m : ℕ). m ≤ high) (sym w.1) le_high) in
    cond-true _ (Some (number_of (decimal n))) None (and_from _ _ (and_from _ _ w.0 above) below) ∙ ap Some w.1

-- ---- values

-- a number is taken as a value where it is below the limit
within_read : (o : Option ℤ) (v : ℤ) → result_ok (value_within o) ≡ Some v → (o ≡ Some v) × (unsigned_abs v < value_limit)
within_read None v h = absurd (none-some v h)
within_read (Some n) v h = cases (nat_lt (unsigned_abs n) value_limit) refl h
  where
    cases : (b : Bool) → nat_lt (unsigned_abs n) value_limit ≡ b → result_ok (cond b (Ok n) (Err Range)) ≡ Some v → (Some n ≡ Some v) × (unsigned_abs v < value_limit)
    cases true e k = (k, subst (λ (m : ℤ). unsigned_abs m < value_limit) (same_Some n v k) (ltb-true _ _ e))
    cases false e k = absurd (none-some v k)

within_written : (v : ℤ) → unsigned_abs v < value_limit → result_ok (value_within (Some v)) ≡ Some v
within_written v small = ap (λ (b : Bool). result_ok (cond b (Ok v) (Err Range))) (lt-ltb (unsigned_abs v) value_limit small)

-- a value's limit lies below that of what has one spelling
pub value_fits : (v : ℤ) → unsigned_abs v < value_limit → unsigned_abs v < 10 ^ 64
value_fits v small = omega arith

-- a text that is read as a value is its spelling, and the value is below the limit
pub value_read : (t : List ℕ) (v : ℤ) → result_ok (value_in t) ≡ Some v → (t ≡ spelling 6 v) × (unsigned_abs v < value_limit)
value_read t v h =
    let w = within_read (number_in 6 t) v h in
    (spelling_unique 6 t v (value_fits v w.1) (number_spelled 6 t v w.0), w.1)

-- the spelling of a value below the limit is read as it
pub value_written : (v : ℤ) → unsigned_abs v < value_limit → result_ok (value_in (spelling 6 v)) ≡ Some v
value_written v small =
    ap (λ o. result_ok (value_within o)) (spelled_number 6 (spelling 6 v) v (spelling_spells 6 v (value_fits v small))) ∙ within_written v small
