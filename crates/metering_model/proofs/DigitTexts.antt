-- Two digits write each number below 100, and four each number below 10,000: read and written they are the same.
use Rattle.std.proofs.Common.{◌≡◌, ℕ, zero, suc, ◌+◌, ◌*◌, ◌/◌, ◌%◌, ◌<◌, ◌≤◌, true, List, [], ◌∷◌, ◌++◌, length, refl, ap, ap₂, ◌∙◌, arith}
use Rattle.std.specs.List.{list_all}
use Rattle.std.proofs.lemmas.Bool.{and_parts, and_from}
use Rattle.std.proofs.lemmas.Bool.Decides.{nat_tests}
use Rattle.metering_model.specs.NumberText.{is_digit, number_of}
use Rattle.metering_model.specs.Dates.{two_digits, four_digits}

-- P of each list of n elements, written out: so a text of a known length computes
abbrev pub OfLength : ℕ → (List ℕ → Type 0) → Type 0
OfLength zero P = P []
OfLength (suc n) P = (x : ℕ) → OfLength n (λ xs. P (x ∷ xs))

pub by_length : (n : ℕ) (P : List ℕ → Type 0) → OfLength n P → (t : List ℕ) → length t ≡ n → P t
by_length zero P f [] e = f
by_length zero P f (x ∷ xs) e = absurd (omega arith)
by_length (suc n) P f [] e = absurd (omega arith)
by_length (suc n) P f (x ∷ xs) e = by_length n (λ ys. P (x ∷ ys)) (f x) xs (omega arith)

-- ---- one digit

-- a byte that is a digit
pub record IsDigit (c : ℕ) : Type 0 where
  pub low : 48 ≤ c
  pub high : c ≤ 57

pub digit_is : (c : ℕ) → is_digit c ≡ true → IsDigit c
digit_is c h = record { low = grind (arith, nat_tests); high = grind (arith, nat_tests) }

digit_of : (n : ℕ) → n < 10 → is_digit (48 + n) ≡ true
digit_of n h = grind (arith, nat_tests)

digit_rest : (n : ℕ) → is_digit (48 + n % 10) ≡ true
digit_rest n = digit_of (n % 10) (omega arith)

-- ---- numbers to digits

pub two_are_digits : (n : ℕ) → list_all is_digit (two_digits n) ≡ true
two_are_digits n = and_from _ _ (digit_rest (n / 10)) (and_from _ _ (digit_rest n) refl)

pub two_digits_read : (n : ℕ) → n < 100 → number_of (two_digits n) ≡ n
two_digits_read n h = omega arith

pub four_are_digits : (n : ℕ) → list_all is_digit (four_digits n) ≡ true
four_are_digits n = and_from _ _ (digit_rest (n / 100 / 10)) (and_from _ _ (digit_rest (n / 100)) (two_are_digits (n % 100)))

pub four_digits_read : (n : ℕ) → n < 10_000 → number_of (four_digits n) ≡ n
four_digits_read n h = omega arith

-- ---- digits to numbers

-- the text is what the digits of its number are, and the number is below the limit
pub record IsNumberText (limit : ℕ) (digits : ℕ → List ℕ) (ds : List ℕ) : Type 0 where
  pub below : number_of ds < limit
  pub joined : ds ≡ digits (number_of ds)

two_written : (a b : ℕ) → list_all is_digit (a ∷ b ∷ []) ≡ true → IsNumberText 100 two_digits (a ∷ b ∷ [])
two_written a b h =
    let tests = and_parts _ _ h in
    let high = digit_is a tests.0 in
    let low = digit_is b (and_parts _ _ tests.1).0 in
    from_two high low
  where
    from_two : IsDigit a → IsDigit b → IsNumberText 100 two_digits (a ∷ b ∷ [])
    from_two p q =
        let first : a ≡ 48 + number_of (a ∷ b ∷ []) / 10 % 10 = omega arith in
        let second : b ≡ 48 + number_of (a ∷ b ∷ []) % 10 = omega arith in
        record { below = omega arith; joined = ap₂ (λ x y. x ∷ y ∷ []) first second }

pub two_digits_written : (ds : List ℕ) → length ds ≡ 2 → list_all is_digit ds ≡ true → IsNumberText 100 two_digits ds
two_digits_written ds e h = by_length 2 (λ t. list_all is_digit t ≡ true → IsNumberText 100 two_digits t) two_written ds e h

four_written : (a b c d : ℕ) → list_all is_digit (a ∷ b ∷ c ∷ d ∷ []) ≡ true → IsNumberText 10_000 four_digits (a ∷ b ∷ c ∷ d ∷ [])
four_written a b c d h =
    let tests = and_parts _ _ h in
    let others = and_parts _ _ tests.1 in
    let front = two_written a b (and_from _ _ tests.0 (and_from _ _ others.0 refl)) in
    let back = two_written c d others.1 in
    from_pairs front back
  where
    from_pairs : IsNumberText 100 two_digits (a ∷ b ∷ []) → IsNumberText 100 two_digits (c ∷ d ∷ []) → IsNumberText 10_000 four_digits (a ∷ b ∷ c ∷ d ∷ [])
    from_pairs p q =
        let n = number_of (a ∷ b ∷ c ∷ d ∷ []) in
        let whole : n ≡ 100 * number_of (a ∷ b ∷ []) + number_of (c ∷ d ∷ []) = omega arith in
        let low : number_of (a ∷ b ∷ []) < 100 = p.below in
        let high : number_of (c ∷ d ∷ []) < 100 = q.below in
        let first : number_of (a ∷ b ∷ []) ≡ n / 100 = omega arith in
        let second : number_of (c ∷ d ∷ []) ≡ n % 100 = omega arith in
        record {
          below = omega arith;
          joined = ap₂ (λ x y. x ++ y) (p.joined ∙ ap two_digits first) (q.joined ∙ ap two_digits second);
        }

pub four_digits_written : (ds : List ℕ) → length ds ≡ 4 → list_all is_digit ds ≡ true → IsNumberText 10_000 four_digits ds
four_digits_written ds e h = by_length 4 (λ t. list_all is_digit t ≡ true → IsNumberText 10_000 four_digits t) four_written ds e h
