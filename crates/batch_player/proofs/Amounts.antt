-- An amount in millionths and the same amount in units of 10^-12 have one spelling.
use Rattle.std.proofs.Common.{◌≡◌, ℕ, zero, suc, ◌+◌, ◌-◌, ◌*◌, ◌^◌, ◌<◌, ◌≤◌, Bool, true, false, not, ◌&&◌, nat_le, List, [], ◌∷◌, length, ℤ, pos, neg_ℤ, ◌-ℤ◌, ◌*ℤ◌, unsigned_abs, refl, sym, ap, ap₂, ◌∙◌, arith, mul_comm, mul_assoc}
use Rattle.std.specs.List.{list_all}
use Rattle.std.proofs.Math.IntN.{pos-*ℤ-pos, pos-*ℤ-negsuc}
use Rattle.std.proofs.lemmas.Bool.{and_parts, and_from, leb-true, le-leb}
use Rattle.std.proofs.lemmas.Int.{ints, unsigned_abs-mul}
use Rattle.std.proofs.lemmas.Nat.{pow-add}
use Rattle.metering_model.specs.NumberText.{is_digit, is_decimal_part, ends_in, worth_of, units_of, signed, Spells, spelling, value_limit}
use Rattle.metering_model.specs.Rating.{cost_at}
use Rattle.metering_model.proofs.FieldLaws.{value_fits}
use Rattle.metering_model.proofs.NumberLaws.{spelling_spells, spelling_unique}

-- ---- six more places

-- a million times each of two parts is a million times both
millions : (c power rest : ℕ) → c * (power * 1_000_000) + rest * 1_000_000 ≡ (c * power + rest) * 1_000_000
millions c power rest = omega (arith, mul_assoc c power 1_000_000)

-- decimals that fit in so many places are worth a million times as many of the units of six places more
worth_in_more : (p more : ℕ) (ds : List ℕ) → more ≡ p + 6 → length ds ≤ p → worth_of more ds ≡ worth_of p ds * 1_000_000
unfolding worth_of
worth_in_more p zero ds six short = absurd (omega arith)
worth_in_more zero (suc more) [] six short = refl
worth_in_more zero (suc more) (c ∷ cs) six short = absurd (omega arith)
worth_in_more (suc p) (suc more) [] six short = refl
worth_in_more (suc p) (suc more) (c ∷ cs) six short =
    let places : more ≡ p + 6 = omega arith in
    ap₂ (λ power rest. (c - 48) * power + rest) (ap (λ k. 10 ^ k) places ∙ pow-add 10 p 6) (worth_in_more p more cs places (omega arith))
    ∙ millions (c - 48) (10 ^ p) (worth_of p cs)

units_in_more : (whole decimals : List ℕ) → length decimals ≤ 6 → units_of 12 whole decimals ≡ units_of 6 whole decimals * 1_000_000
units_in_more whole decimals short = omega (arith, worth_in_more 6 12 decimals refl short)

decimals_short : (ds : List ℕ) → is_decimal_part 6 ds ≡ true → length ds ≤ 6
decimals_short ds h = leb-true _ _ (and_parts (list_all is_digit ds) (nat_le (length ds) 6) (and_parts (list_all is_digit ds && nat_le (length ds) 6) (not (ends_in 48 ds)) h).0).1

decimals_in_more : (ds : List ℕ) → is_decimal_part 6 ds ≡ true → is_decimal_part 12 ds ≡ true
decimals_in_more ds h =
    let parts = and_parts (list_all is_digit ds && nat_le (length ds) 6) (not (ends_in 48 ds)) h in
    let front = and_parts (list_all is_digit ds) (nat_le (length ds) 6) parts.0 in
    let short = decimals_short ds h in
    and_from _ _ (and_from _ _ front.0 (le-leb _ _ (omega arith))) parts.1

signed_in_more : (minus : Bool) (n : ℕ) → pos 1_000_000 *ℤ signed minus n ≡ signed minus (n * 1_000_000)
signed_in_more true zero = refl
signed_in_more true (suc n) = pos-*ℤ-negsuc 1_000_000 n ∙ ap (λ k. neg_ℤ (pos k)) (mul_comm 1_000_000 (suc n))
signed_in_more false n = pos-*ℤ-pos 1_000_000 n ∙ ap pos (mul_comm 1_000_000 n)

-- what spells a number of millionths spells the same in units of 10^-12
spells_in_more : (text : List ℕ) (n : ℤ) → Spells 6 text n → Spells 12 text (pos 1_000_000 *ℤ n)
spells_in_more text n s =
    let units = units_in_more s.whole s.decimals (decimals_short s.decimals s.decimal_part) in
    record {
      minus = s.minus;
      whole = s.whole;
      decimals = s.decimals;
      joined = s.joined;
      whole_part = s.whole_part;
      decimal_part = decimals_in_more s.decimals s.decimal_part;
      no_minus_zero = λ is. omega (arith, units, s.no_minus_zero is);
      number = ap (λ m. pos 1_000_000 *ℤ m) s.number ∙ signed_in_more s.minus (units_of 6 s.whole s.decimals) ∙ ap (signed s.minus) (sym units);
    }

-- ---- the cost of a flat charge

product_fits : (n : ℤ) → unsigned_abs n < value_limit → unsigned_abs (pos 1_000_000 *ℤ n) < 10 ^ 64
product_fits n small = omega (arith, unsigned_abs-mul (pos 1_000_000) n)

minus_nothing : (n : ℤ) → n -ℤ pos 0 ≡ n
minus_nothing n = omega (arith, ints)

-- the cost of a value that is charged whole is spelled as the value
pub cost_spelling : (n : ℤ) → unsigned_abs n < value_limit → spelling 12 (cost_at 1_000_000 (n -ℤ pos 0)) ≡ spelling 6 n
cost_spelling n small =
    ap (λ m. spelling 12 (cost_at 1_000_000 m)) (minus_nothing n)
    ∙ sym (spelling_unique 12 (spelling 6 n) (pos 1_000_000 *ℤ n) (product_fits n small) (spells_in_more (spelling 6 n) n (spelling_spells 6 n (value_fits n small))))
