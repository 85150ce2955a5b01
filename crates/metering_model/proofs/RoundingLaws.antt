-- The pricing quantity is the one number that a value rounds to.
use Rattle.std.proofs.Common.{◌≡◌, ℕ, zero, suc, ◌+◌, ◌-◌, ◌*◌, ◌/◌, ◌%◌, ◌<◌, ◌≤◌, ◌↔◌, ℤ, pos, negsuc, neg_ℤ, ◌-ℤ◌, ◌*ℤ◌, unsigned_abs, cond, ltb, sym, ap, subst, ◌∙◌, arith, inl, inr}
use Rattle.std.proofs.Math.Nat.{mul-le-mul_left}
use Rattle.std.proofs.lemmas.Bool.{cases_order, cases_eq, cond_both, ltb-true, ltb-false}
use Rattle.std.proofs.lemmas.Int.{ints}
use Rattle.metering_model.specs.Rating.{IsRounded, twice_off, rounded_magnitude, pricing_quantity}

-- how far two numbers are apart
abbrev distance : ℕ → ℕ → ℕ
distance a b = (a - b) + (b - a)

-- m is v / per, rounded half to even
record IsRoundedMagnitude (per v m : ℕ) : Type 0 where
  near : 2 * distance v (per * m) ≤ per
  half_to_even : 2 * distance v (per * m) ≡ per → m % 2 ≡ 0

-- of two numbers that v rounds to, the one is not below the other: they would be neighbours, and both even
not_below : (per v m n : ℕ) → 0 < per → IsRoundedMagnitude per v m → IsRoundedMagnitude per v n → m < n → ⊥
not_below per v m n some a b less =
    let step : per * suc m ≤ per * n = mul-le-mul_left per less in
    let even : m % 2 ≡ 0 = a.half_to_even (omega arith) in
    let even' : n % 2 ≡ 0 = b.half_to_even (omega arith) in
    let far : per * suc (suc m) ≤ per * n = mul-le-mul_left per (omega arith) in
    omega arith

-- so they are one
same_magnitude : (per v m n : ℕ) → 0 < per → IsRoundedMagnitude per v m → IsRoundedMagnitude per v n → m ≡ n
same_magnitude per v m n some a b = elim (cases_order m n) [
  | inl same ↦ same
  | inr (inl less) ↦ absurd (not_below per v m n some a b less)
  | inr (inr more) ↦ absurd (not_below per v n m some b a more)
]

-- a rest of at most a half is dropped
rounds_down : (per v q r : ℕ) → v ≡ per * q + r → 2 * r ≤ per → (2 * r ≡ per → q % 2 ≡ 0) → IsRoundedMagnitude per v q
rounds_down per v q r e half even = record { near = omega arith; half_to_even = λ h. even (omega arith) }

-- a rest of at least a half counts as one
rounds_up : (per v q r : ℕ) → v ≡ per * q + r → r < per → per ≤ 2 * r → (2 * r ≡ per → (q + 1) % 2 ≡ 0) → IsRoundedMagnitude per v (q + 1)
rounds_up per v q r e below half even = record { near = omega arith; half_to_even = λ h. even (omega arith) }

-- a half goes to the even neighbour
rounds_to_even : (per v q r : ℕ) → v ≡ per * q + r → r < per → 2 * r ≡ per → IsRoundedMagnitude per v (q + q % 2)
rounds_to_even per v q r e below half = elim (cases_eq (q % 2) 0) [
  | inl even ↦ let same : q ≡ q + q % 2 = omega arith in subst (IsRoundedMagnitude per v) same (rounds_down per v q r e (omega arith) (λ _. even))
  | inr odd ↦ let same : q + 1 ≡ q + q % 2 = omega arith in subst (IsRoundedMagnitude per v) same (rounds_up per v q r e below (omega arith) (λ _. omega arith))
]

-- what is computed where the rest is at least a half
rounded_above : (per v q r : ℕ) → v ≡ per * q + r → r < per → per ≤ 2 * r → IsRoundedMagnitude per v (cond (ltb per (2 * r)) (q + 1) (q + q % 2))
rounded_above per v q r e below half =
    cond_both (ltb per (2 * r)) (q + 1) (q + q % 2) (IsRoundedMagnitude per v)
    (λ t. let more = ltb-true _ _ t in rounds_up per v q r e below half (λ h. absurd (omega arith)))
    (λ t. let less = ltb-false _ _ t in rounds_to_even per v q r e below (omega arith))

-- what is computed is a number that v rounds to
rounded : (per v : ℕ) → 0 < per → IsRoundedMagnitude per v (rounded_magnitude per v)
rounded per v some =
    let q = v / per in
    let r = v % per in
    let e : v ≡ per * q + r = omega arith in
    let below : r < per = omega arith in
    cond_both (ltb (2 * r) per) q _ (IsRoundedMagnitude per v)
    (λ t. let less = ltb-true _ _ t in rounds_down per v q r e (omega arith) (λ h. absurd (omega arith)))
    (λ t. let half = ltb-false _ _ t in rounded_above per v q r e below half)

-- and it is the only one
rounded_is : (per v m : ℕ) → 0 < per → IsRoundedMagnitude per v m → m ≡ rounded_magnitude per v
rounded_is per v m some r = same_magnitude per v m (rounded_magnitude per v) some r (rounded per v some)

-- ---- signs

-- the distance of signed numbers, by their magnitudes
twice_off-pos : (per v m : ℕ) → twice_off per (pos v) (pos m) ≡ 2 * distance v (per * m)
twice_off-pos per v m = omega (arith, ints)

twice_off-neg : (per v m : ℕ) → twice_off per (negsuc v) (neg_ℤ (pos m)) ≡ 2 * distance (suc v) (per * m)
twice_off-neg per v zero = omega (arith, ints)
twice_off-neg per v (suc m) = omega (arith, ints)

even-neg : (m : ℕ) → unsigned_abs (neg_ℤ (pos m)) ≡ m
even-neg m = omega (arith, ints)

-- to round a number is to round its magnitude
rounded-pos : (per v m : ℕ) → IsRoundedMagnitude per v m ↔ IsRounded per (pos v) (pos m)
rounded-pos per v m = (
  λ r. record { near = rw twice_off-pos r.near; half_to_even = λ h. r.half_to_even (sym (twice_off-pos per v m) ∙ h) },
  λ r. record { near = rw twice_off-pos at r.near; half_to_even = λ h. r.half_to_even (twice_off-pos per v m ∙ h) },
)

rounded-neg : (per v m : ℕ) → IsRoundedMagnitude per (suc v) m ↔ IsRounded per (negsuc v) (neg_ℤ (pos m))
rounded-neg per v m = (
  λ r. record { near = rw twice_off-neg r.near; half_to_even = λ h. rw even-neg (r.half_to_even (sym (twice_off-neg per v m) ∙ h)) },
  λ r. record { near = rw twice_off-neg at r.near; half_to_even = λ h. rw even-neg at (r.half_to_even (twice_off-neg per v m ∙ h)) },
)

-- a value of one sign rounds to no number of the other
not_across : (per v n : ℕ) → 0 < per → IsRounded per (pos v) (negsuc n) → ⊥
not_across per v n some r = let near : 2 * unsigned_abs (pos v -ℤ (pos per *ℤ negsuc n)) ≤ per = r.near in omega (arith, ints)

not_across_neg : (per v m : ℕ) → 0 < per → IsRounded per (negsuc v) (pos (suc m)) → ⊥
not_across_neg per v m some r = let near : 2 * unsigned_abs (negsuc v -ℤ (pos per *ℤ pos (suc m))) ≤ per = r.near in omega (arith, ints)

-- the pricing quantity is a number that v rounds to
pub rounded-pricing_quantity : (per : ℕ) (v : ℤ) → 0 < per → IsRounded per v (pricing_quantity per v)
rounded-pricing_quantity per (pos v) some = (rounded-pos per v (rounded_magnitude per v)).0 (rounded per v some)
rounded-pricing_quantity per (negsuc v) some = (rounded-neg per v (rounded_magnitude per (suc v))).0 (rounded per (suc v) some)

-- and the only one
pub pricing_quantity_is : (per : ℕ) (v q : ℤ) → 0 < per → IsRounded per v q → q ≡ pricing_quantity per v
pricing_quantity_is per (pos v) (pos m) some r = ap pos (rounded_is per v m some ((rounded-pos per v m).1 r))
pricing_quantity_is per (pos v) (negsuc n) some r = absurd (not_across per v n some r)
pricing_quantity_is per (negsuc v) (pos zero) some r = ap (λ m. neg_ℤ (pos m)) (rounded_is per (suc v) zero some ((rounded-neg per v zero).1 r))
pricing_quantity_is per (negsuc v) (pos (suc m)) some r = absurd (not_across_neg per v m some r)
pricing_quantity_is per (negsuc v) (negsuc n) some r = ap (λ m. neg_ℤ (pos m)) (rounded_is per (suc v) (suc n) some ((rounded-neg per v (suc n)).1 r))
