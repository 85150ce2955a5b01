-- A pricing quantity lies between 0 and its value.
use Rattle.std.proofs.Common.{◌≡◌, ℕ, suc, ◌+◌, ◌*◌, ◌/◌, ◌%◌, ◌<◌, ◌≤◌, ltb, ℤ, pos, negsuc, neg_ℤ, ◌≤ℤ◌, unsigned_abs, subst, arith, inl, inr}
use Rattle.std.proofs.Math.Nat.{mul-le-mul_right, div-zero, mod-zero}
use Rattle.std.proofs.lemmas.Bool.{cases_lt, ltb-true, ltb-false, cond_both}
use Rattle.std.proofs.lemmas.Int.{ints}
use Rattle.metering_model.specs.Rating.{rounded_magnitude, pricing_quantity}

rounded_at_most_some : (per v : ℕ) → 1 ≤ per → rounded_magnitude per v ≤ v
rounded_at_most_some per v some =
    let q = v / per in
    let r = v % per in
    let whole : v ≡ per * q + r = omega arith in
    let once : 1 * q ≤ per * q = mul-le-mul_right q some in
    let half : q % 2 ≤ 1 = omega arith in
    cond_both (ltb (2 * r) per) q _ (λ m. m ≤ v)
    (λ t. omega arith)
    (λ f. let rest : per ≤ 2 * r = ltb-false _ _ f in
    cond_both (ltb per (2 * r)) (q + 1) (q + q % 2) (λ m. m ≤ v) (λ t. omega arith) (λ f. omega arith))

-- also where nothing is divided
rounded_by_none : (v : ℕ) → rounded_magnitude 0 v ≤ v
rounded_by_none v =
    let q : v / 0 ≡ 0 = div-zero v in
    let r : v % 0 ≡ v = mod-zero v in
    cond_both (ltb (2 * (v % 0)) 0) (v / 0) _ (λ m. m ≤ v)
    (λ t. omega arith)
    (λ f. cond_both (ltb 0 (2 * (v % 0))) (v / 0 + 1) (v / 0 + v / 0 % 2) (λ m. m ≤ v)
    (λ t. let some : 0 < 2 * (v % 0) = ltb-true _ _ t in omega arith)
    (λ f. omega arith))

rounded_at_most : (per v : ℕ) → rounded_magnitude per v ≤ v
rounded_at_most per v = elim (cases_lt 0 per) [
  | inl some ↦ rounded_at_most_some per v (omega arith)
  | inr none ↦ let same : 0 ≡ per = omega arith in subst (λ n. rounded_magnitude n v ≤ v) same (rounded_by_none v)
]

-- the magnitude of a pricing quantity is at most that of its value
pub pricing_quantity_at_most : (per : ℕ) (v : ℤ) → unsigned_abs (pricing_quantity per v) ≤ unsigned_abs v
pricing_quantity_at_most per (pos v) = rounded_at_most per v
pricing_quantity_at_most per (negsuc v) =
    let most = rounded_at_most per (suc v) in
    magnitude (rounded_magnitude per (suc v)) most
  where
    magnitude : (m : ℕ) → m ≤ suc v → unsigned_abs (neg_ℤ (pos m)) ≤ suc v
    magnitude m h = omega (arith, ints)

-- of a value that is not negative it is not negative, and not above the value
pub pricing_quantity_between : (per : ℕ) (v : ℤ) → pos 0 ≤ℤ v → (pos 0 ≤ℤ pricing_quantity per v) × (pricing_quantity per v ≤ℤ v)
pricing_quantity_between per (pos v) not_negative =
    let most = rounded_at_most per v in
    between (rounded_magnitude per v) most
  where
    between : (m : ℕ) → m ≤ v → (pos 0 ≤ℤ pos m) × (pos m ≤ℤ pos v)
    between m h = (omega (arith, ints), omega (arith, ints))
pricing_quantity_between per (negsuc v) not_negative = absurd (omega (arith, ints))
