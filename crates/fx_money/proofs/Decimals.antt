-- The decimals of a number, read from their end.
use Rattle.std.proofs.Common.{◌≡◌, ℕ, zero, suc, ◌+◌, ◌-◌, ◌*◌, ◌^◌, ◌/◌, ◌%◌, ◌<◌, ◌≤◌, cond, List, [], ◌∷◌, ◌++◌, length, refl, sym, ap, ap₂, ◌∙◌, arith, length-append, decimal, subst, inl, inr}
use Rattle.std.proofs.lemmas.Bool.{ne_eqb, cases_lt}
use Rattle.std.proofs.Math.Nat.{pow-suc, pow-le-pow_right, div-div-eq-div-mul, div-add-mod}
use Rattle.std.proofs.lemmas.Fmt.{decimal_step, decimal_digit}
use Rattle.metering_model.specs.NumberText.{decimals_of, point_text}
use Rattle.fx_money.specs.Inner.Cuts.{IsCutTo}

-- ---- the quotient and the remainder by the next power of ten

power_more : (p : ℕ) → 10 ^ suc p ≡ 10 * 10 ^ p
power_more p = omega (arith, pow-suc 10 p)

pub power_positive : (p : ℕ) → 0 < 10 ^ p
power_positive zero = omega arith
power_positive (suc p) = omega (arith, power_more p, power_positive p)

quotient_more : (n p : ℕ) → n / 10 ^ suc p ≡ n / 10 / 10 ^ p
quotient_more n p = ap (λ d. n / d) (power_more p) ∙ sym (div-div-eq-div-mul n 10 (10 ^ p))

remainder_by_tens : (n unit : ℕ) → n % (10 * unit) ≡ 10 * (n / 10 % unit) + n % 10
remainder_by_tens n unit =
    let whole : 10 * unit * (n / 10 / unit) + n % (10 * unit) ≡ n =
    ap (λ q. 10 * unit * q + n % (10 * unit)) (div-div-eq-div-mul n 10 unit) ∙ div-add-mod n (10 * unit) in
    omega (arith, whole, div-add-mod (n / 10) unit)

remainder_more : (n p : ℕ) → n % 10 ^ suc p ≡ 10 * (n / 10 % 10 ^ p) + n % 10
remainder_more n p = ap (λ d. n % d) (power_more p) ∙ remainder_by_tens n (10 ^ p)

-- ---- the decimals

decimals_none : (p : ℕ) → decimals_of p 0 ≡ []
unfolding decimals_of
decimals_none zero = refl
decimals_none (suc p) = refl

decimals_nowhere : (n : ℕ) → decimals_of 0 n ≡ []
unfolding decimals_of
decimals_nowhere n = refl

decimals_first : (p n : ℕ) → 0 < n → decimals_of (suc p) n ≡ (48 + n / 10 ^ p) ∷ decimals_of p (n % 10 ^ p)
unfolding decimals_of
decimals_first p n h = ap (λ b. cond b [] ((48 + n / 10 ^ p) ∷ decimals_of p (n % 10 ^ p))) (ne_eqb n 0 (λ e. omega arith))

pub length-decimals_le : (p n : ℕ) → length (decimals_of p n) ≤ p
length-decimals_le zero n = omega (arith, ap length (decimals_nowhere n))
length-decimals_le (suc p) n = elim (cases_lt 0 n) [
  | inl positive ↦ omega (arith, ap length (decimals_first p n positive), length-decimals_le p (n % 10 ^ p))
  | inr none ↦ let is : n ≡ 0 = omega (arith, none) in omega (arith, ap length (ap (decimals_of (suc p)) is ∙ decimals_none (suc p)))
]

-- a 0 at the end is not written
decimals_shorter : (p n : ℕ) → n < 10 ^ suc p → n % 10 ≡ 0 → decimals_of (suc p) n ≡ decimals_of p (n / 10)
decimals_shorter zero n below last =
    let none : n ≡ 0 = omega arith in
    ap (decimals_of 1) none ∙ decimals_none 1 ∙ sym (decimals_nowhere (n / 10))
decimals_shorter (suc p) n below last = elim (cases_lt 0 n) [
  | inl positive ↦
      let tens : n % 10 ^ suc p ≡ 10 * (n / 10 % 10 ^ p) + n % 10 = remainder_more n p in
      let front : n % 10 ^ suc p / 10 ≡ n / 10 % 10 ^ p = omega arith in
      let unit : 0 < 10 ^ suc p = power_positive (suc p) in
      decimals_first (suc p) n positive
      ∙ ap (λ q. (48 + q) ∷ decimals_of (suc p) (n % 10 ^ suc p)) (quotient_more n p)
      ∙ ap (λ ds. (48 + n / 10 / 10 ^ p) ∷ ds) (decimals_shorter p (n % 10 ^ suc p) (omega arith) (omega arith))
      ∙ ap (λ r. (48 + n / 10 / 10 ^ p) ∷ decimals_of p r) front
      ∙ sym (decimals_first p (n / 10) (omega arith))
  | inr none ↦
      let is : n ≡ 0 = omega (arith, none) in
      let tenth : n / 10 ≡ 0 = omega (arith, is) in
      ap (decimals_of (suc (suc p))) is ∙ decimals_none (suc (suc p)) ∙ sym (ap (decimals_of (suc p)) tenth ∙ decimals_none (suc p))
]

pub cut_step : (places number kept left : ℕ) → left % 10 ≡ 0 → IsCutTo places number kept left → IsCutTo places number (kept - 1) (left / 10)
cut_step places number zero left last s = absurd (omega (arith, s.positive, s.below))
cut_step places number (suc p) left last s =
    let one_fewer : suc p - 1 ≡ p = omega arith in
    let cut : IsCutTo places number p (left / 10) = record {
      positive = omega (arith, s.positive);
      below = omega (arith, s.below, power_more p);
      fewer = omega (arith, s.fewer);
      same = sym (decimals_shorter p left s.below last) ∙ s.same;
    } in
    subst (λ kept. IsCutTo places number kept (left / 10)) (sym one_fewer) cut

-- ---- all places, from the last to the first

abbrev pub places_of : ℕ → ℕ → List ℕ
places_of zero n = []
places_of (suc p) n = places_of p (n / 10) ++ (48 + n % 10) ∷ []

places_first : (p n : ℕ) → n < 10 ^ suc p → places_of (suc p) n ≡ (48 + n / 10 ^ p) ∷ places_of p (n % 10 ^ p)
places_first zero n below = ap (λ d. (48 + d) ∷ []) (omega arith)
places_first (suc p) n below =
    let first : n / 10 ^ suc p ≡ n / 10 / 10 ^ p = quotient_more n p in
    let tens : n % 10 ^ suc p ≡ 10 * (n / 10 % 10 ^ p) + n % 10 = remainder_more n p in
    let front : n % 10 ^ suc p / 10 ≡ n / 10 % 10 ^ p = omega arith in
    let last : n % 10 ^ suc p % 10 ≡ n % 10 = omega arith in
    ap (λ ds. ds ++ (48 + n % 10) ∷ []) (places_first p (n / 10) (omega (arith, power_more (suc p))))
    ∙ rw (first, front, last) refl

-- the decimals of a number whose last is not 0 are all of its places
pub decimals_all : (p n : ℕ) → n < 10 ^ p → 0 < n % 10 → decimals_of p n ≡ places_of p n
decimals_all zero n below last = decimals_nowhere n
decimals_all (suc zero) n below last = decimals_first 0 n (omega arith) ∙ ap (λ ds. (48 + n / 1) ∷ ds) (decimals_nowhere (n % 1)) ∙ sym (places_first 0 n below)
decimals_all (suc (suc p)) n below last =
    let tens : n % 10 ^ suc p ≡ 10 * (n / 10 % 10 ^ p) + n % 10 = remainder_more n p in
    let unit : 0 < 10 ^ suc p = power_positive (suc p) in
    decimals_first (suc p) n (omega arith)
    ∙ ap (λ ds. (48 + n / 10 ^ suc p) ∷ ds) (decimals_all (suc p) (n % 10 ^ suc p) (omega arith) (omega arith))
    ∙ sym (places_first (suc p) n below)

-- ---- the point before them

pub point_before : (p n : ℕ) → 0 < n → n < 10 ^ p → point_text (decimals_of p n) ≡ 46 ∷ decimals_of p n
point_before zero n positive below = absurd (omega arith)
point_before (suc p) n positive below = ap point_text (decimals_first p n positive) ∙ ap (λ ds. 46 ∷ ds) (sym (decimals_first p n positive))

pub no_point : (p n : ℕ) → n ≡ 0 → point_text (decimals_of p n) ≡ []
no_point p n none = ap (λ k. point_text (decimals_of p k)) none ∙ ap point_text (decimals_none p)

pub length-fraction_le : (p n : ℕ) → length (point_text (decimals_of p n)) ≤ p + 1
length-fraction_le p n = by_cases (decimals_of p n) (length-decimals_le p n)
  where
    by_cases : (ds : List ℕ) → length ds ≤ p → length (point_text ds) ≤ p + 1
    by_cases [] h = omega arith
    by_cases (c ∷ cs) h = omega (arith, h)

-- ---- six places at once

pub cut_none : (places number : ℕ) → 0 < number → number < 10 ^ places → IsCutTo places number places number
cut_none places number positive below = record { positive = positive; below = below; fewer = omega arith; same = refl }

-- a cut and another behind it
cut_further : (places number kept left : ℕ) (a b : ℕ) → kept - 1 ≡ a → left / 10 ≡ b → left % 10 ≡ 0 → IsCutTo places number kept left → IsCutTo places number a b
cut_further places number kept left a b fewer tenth last s =
    subst (λ k. IsCutTo places number k b) fewer (subst (λ n. IsCutTo places number (kept - 1) n) tenth (cut_step places number kept left last s))

pub cut_six : (places number : ℕ) → 0 < number → number < 10 ^ places → number % 1_000_000 ≡ 0 → IsCutTo places number (places - 6) (number / 1_000_000)
cut_six places number positive below zeros =
    let one = cut_step places number places number (omega arith) (cut_none places number positive below) in
    let two = cut_further places number (places - 1) (number / 10) (places - 2) (number / 100) (omega arith) (omega arith) (omega arith) one in
    let three = cut_further places number (places - 2) (number / 100) (places - 3) (number / 1000) (omega arith) (omega arith) (omega arith) two in
    let four = cut_further places number (places - 3) (number / 1000) (places - 4) (number / 10_000) (omega arith) (omega arith) (omega arith) three in
    let five = cut_further places number (places - 4) (number / 10_000) (places - 5) (number / 100_000) (omega arith) (omega arith) (omega arith) four in
    cut_further places number (places - 5) (number / 100_000) (places - 6) (number / 1_000_000) (omega arith) (omega arith) (omega arith) five

-- ---- the digits of a number with a 1 in front

pub decimal_behind_one : (p n : ℕ) → n < 10 ^ p → 10 ^ p + n < 2 ^ 64 → decimal (10 ^ p + n) ≡ 49 ∷ places_of p n
decimal_behind_one zero n below fits = ap decimal (omega arith) ∙ decimal_digit 1 (omega arith)
decimal_behind_one (suc p) n below fits =
    let more : 10 ^ suc p ≡ 10 * 10 ^ p = power_more p in
    let some : 0 < 10 ^ p = power_positive p in
    let front : (10 ^ suc p + n) / 10 ≡ 10 ^ p + n / 10 = omega arith in
    let last : (10 ^ suc p + n) % 10 ≡ n % 10 = omega arith in
    decimal_step (10 ^ suc p + n) (omega arith) fits
    ∙ ap₂ (λ f l. decimal f ++ (48 + l) ∷ []) front last
    ∙ ap (λ ds. ds ++ (48 + n % 10) ∷ []) (decimal_behind_one p (n / 10) (omega arith) (omega arith))

pub below_most : (places number : ℕ) → places ≤ 12 → number < 10 ^ places → 10 ^ places + number < 2 ^ 64
below_most places number few below =
    let most : 10 ^ places ≤ 10 ^ 12 = pow-le-pow_right (omega arith) few in
    omega (arith, most)

pub length-places : (p n : ℕ) → length (places_of p n) ≡ p
length-places zero n = refl
length-places (suc p) n = omega (arith, length-append (places_of p (n / 10)) ((48 + n % 10) ∷ []), length-places p (n / 10))
