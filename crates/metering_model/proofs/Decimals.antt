-- What `decimal` writes of a number, however large: digits alone. It writes 64 of them at most, so large numbers share
-- texts; but a number below 10^63 shares its text with no other.
use Rattle.std.proofs.Common.{◌≡◌, ℕ, zero, suc, ◌+◌, ◌/◌, ◌%◌, ◌^◌, ◌<◌, ◌≤◌, true, false, List, [], ◌∷◌, length, decimal, refl, sym, ap, ◌∙◌, arith, inl, inr, pow-suc, not}
use Rattle.std.specs.Prelude.{◌==◌, nat_lt}
use Rattle.std.specs.Fmt.{digit_glyph, digits_onto, digits}
use Rattle.std.specs.List.{list_all}
use Rattle.std.proofs.lemmas.Bool.{and_from, cond_both, cases_lt, eqb-true, lt-ltb, cond-true}
use Rattle.std.proofs.lemmas.Bool.Decides.{nat_tests}
use Rattle.std.proofs.lemmas.Fmt.{length-decimal-le_wide}
use Rattle.metering_model.specs.NumberText.{is_digit, number_of}
use Rattle.metering_model.specs.Batch.{lacks}
use Rattle.metering_model.proofs.NumberDigits.{decimal_whole}
use Rattle.metering_model.proofs.Splitting.{list_all_weaker}

-- ---- digits alone

digit_from : (n : ℕ) → n < 10 → is_digit (48 + n) ≡ true
digit_from n h = grind (arith, nat_tests)

glyph_is_digit : (n : ℕ) → is_digit (digit_glyph false (n % 10)) ≡ true
glyph_is_digit n =
    let low : n % 10 < 10 = omega arith in
    ap is_digit (cond-true (nat_lt (n % 10) 10) (48 + n % 10) (87 + n % 10) (lt-ltb (n % 10) 10 low)) ∙ digit_from (n % 10) low

onto_digits : (k n : ℕ) (acc : List ℕ) → list_all is_digit acc ≡ true → list_all is_digit (digits_onto k 10 false n acc) ≡ true
onto_digits zero n acc h = h
onto_digits (suc k) n acc h =
    let more = and_from _ _ (glyph_is_digit n) h in
    cond_both (n / 10 == 0) (digit_glyph false (n % 10) ∷ acc) (digits_onto k 10 false (n / 10) (digit_glyph false (n % 10) ∷ acc)) (λ ds. list_all is_digit ds ≡ true)
    (λ _. more) (λ _. onto_digits k (n / 10) (digit_glyph false (n % 10) ∷ acc) more)

pub decimal_is_digits : (n : ℕ) → list_all is_digit (decimal n) ≡ true
unfolding digits
decimal_is_digits n = onto_digits 64 n [] refl

digit_no_feed : (c : ℕ) → is_digit c ≡ true → not (c == 10) ≡ true
digit_no_feed c h = grind (arith, nat_tests)

digit_no_bar : (c : ℕ) → is_digit c ≡ true → not (c == 124) ≡ true
digit_no_bar c h = grind (arith, nat_tests)

digit_no_blank : (c : ℕ) → is_digit c ≡ true → not (c == 32) ≡ true
digit_no_blank c h = grind (arith, nat_tests)

pub decimal_lacks_feed : (n : ℕ) → lacks 10 (decimal n) ≡ true
decimal_lacks_feed n = list_all_weaker is_digit (λ c. not (c == 10)) digit_no_feed (decimal n) (decimal_is_digits n)

pub decimal_lacks_bar : (n : ℕ) → lacks 124 (decimal n) ≡ true
decimal_lacks_bar n = list_all_weaker is_digit (λ c. not (c == 124)) digit_no_bar (decimal n) (decimal_is_digits n)

pub decimal_lacks_blank : (n : ℕ) → lacks 32 (decimal n) ≡ true
decimal_lacks_blank n = list_all_weaker is_digit (λ c. not (c == 32)) digit_no_blank (decimal n) (decimal_is_digits n)

-- ---- one number

power_positive : (k : ℕ) → 0 < 10 ^ k
power_positive zero = omega arith
power_positive (suc k) = let rest = power_positive k in let power = pow-suc 10 k in omega (arith, rest, power)

-- a number of more than k digits fills k places
onto_fills : (k n : ℕ) (acc : List ℕ) → 10 ^ k ≤ n → length (digits_onto k 10 false n acc) ≡ k + length acc
onto_fills zero n acc h = omega arith
onto_fills (suc k) n acc h =
    let some = power_positive k in
    let power = pow-suc 10 k in
    cond_both (n / 10 == 0) (digit_glyph false (n % 10) ∷ acc) (digits_onto k 10 false (n / 10) (digit_glyph false (n % 10) ∷ acc)) (λ ds. length ds ≡ suc k + length acc)
    (λ none. let zero_is = eqb-true (n / 10) 0 none in absurd (omega (arith, h, some, power, zero_is)))
    (λ _. let rest = onto_fills k (n / 10) (digit_glyph false (n % 10) ∷ acc) (omega (arith, h, power)) in omega (arith, rest))

large_fills : (n : ℕ) → 10 ^ 64 ≤ n → length (decimal n) ≡ 64
unfolding digits
large_fills n h = onto_fills 64 n [] h ∙ omega arith

pub decimal_is_one : (m n : ℕ) → n < 10 ^ 63 → decimal m ≡ decimal n → m ≡ n
decimal_is_one m n small e = elim (cases_lt m (10 ^ 64)) [
  | inl low ↦ sym (decimal_whole m low).1 ∙ ap number_of e ∙ (decimal_whole n (omega arith)).1
  | inr high ↦
      let long = large_fills m high in
      let short = length-decimal-le_wide 63 n (omega arith) (omega arith) (omega arith) in
      let same = ap length e in
      absurd (omega (arith, long, short, same))
]
