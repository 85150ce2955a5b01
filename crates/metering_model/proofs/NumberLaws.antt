-- The laws of numbers as text: what reads them is in NumberReading, and here is that each number has one spelling.
use Rattle.std.proofs.Common.{◌≡◌, ℕ, zero, suc, ◌+◌, ◌*◌, ◌/◌, ◌%◌, ◌^◌, ◌<◌, Bool, true, false, not, ◌&&◌, ◌==◌, nat_le, List, [], ◌∷◌, ◌++◌, ℤ, pos, negsuc, unsigned_abs, decimal, refl, sym, ap, ap₂, subst, ◌∙◌, arith, div-le_self}
use Rattle.std.specs.Int.{is_negative}
use Rattle.std.specs.List.{list_all}
use Rattle.std.proofs.lemmas.Bool.{false≢true, and_parts, and_from, le-ltb}
use Rattle.std.proofs.lemmas.Bool.Decides.{nat_tests}
use Rattle.std.proofs.lemmas.List.Folds.{list_all-append}
use Rattle.std.proofs.lemmas.Nat.{div-mul-add, mod-mul-add, mod_below, div-add-mod'}
use Rattle.metering_model.proofs.NumberDigits.{whole_digits, decimal_digits, worth_below, ten_power, decimals_again, decimals_fit}
use Rattle.metering_model.specs.NumberText.{is_digit, is_whole_part, is_decimal_part, number_of, worth_of, units_of, sign_text, point_text, signed, Spells, decimals_of, spelling}
pub use Rattle.metering_model.proofs.NumberDigits.{decimal_whole, whole_decimal, decimal_bytes}
pub use Rattle.metering_model.proofs.NumberReading.{spelled_number, number_spelled}

-- ---- signs and magnitudes

not_negative : (n : ℕ) → is_negative (pos n) ≡ false
not_negative n = le-ltb n 0 (omega arith)

signed_again : (n : ℤ) → signed (is_negative n) (unsigned_abs n) ≡ n
signed_again (pos n) = ap (λ b. signed b n) (not_negative n)
signed_again (negsuc n) = refl

negative_some : (n : ℤ) → is_negative n ≡ true → 0 < unsigned_abs n
negative_some (pos n) is = absurd (false≢true (sym (not_negative n) ∙ is))
negative_some (negsuc n) is = omega arith

sign_of : (minus : Bool) (n : ℕ) → (minus ≡ true → 0 < n) → is_negative (signed minus n) ≡ minus
sign_of true zero some = absurd (omega (arith, some refl))
sign_of true (suc n) some = refl
sign_of false n some = not_negative n

magnitude_of : (minus : Bool) (n : ℕ) → unsigned_abs (signed minus n) ≡ n
magnitude_of true zero = refl
magnitude_of true (suc n) = refl
magnitude_of false n = refl

-- ---- the one spelling of a number

-- units are cut where they were joined
units_whole : (places : ℕ) (w ds : List ℕ) → list_all is_digit ds ≡ true → units_of places w ds / 10 ^ places ≡ number_of w
units_whole places w ds digits = div-mul-add (number_of w) (10 ^ places) (worth_of places ds) (worth_below places ds digits)

units_rest : (places : ℕ) (w ds : List ℕ) → list_all is_digit ds ≡ true → units_of places w ds % 10 ^ places ≡ worth_of places ds
units_rest places w ds digits = mod-mul-add (number_of w) (10 ^ places) (worth_of places ds) (worth_below places ds digits)

whole_fits : (places n : ℕ) → n < 10 ^ 64 → n / 10 ^ places < 10 ^ 64
whole_fits places n small = omega (arith, div-le_self n (10 ^ places))

-- the parts of a spelling have the form that is wanted, and say the number
parts_written : (places n : ℕ) → n < 10 ^ 64 → (is_whole_part (decimal (n / 10 ^ places)) ≡ true) × (is_decimal_part places (decimals_of places (n % 10 ^ places)) ≡ true) × (units_of places (decimal (n / 10 ^ places)) (decimals_of places (n % 10 ^ places)) ≡ n)
parts_written places n small =
    let whole = decimal_whole (n / 10 ^ places) (whole_fits places n small) in
    let rest = decimals_fit places (n % 10 ^ places) (mod_below n (10 ^ places) (ten_power places)) in
    (whole.0, rest.0, ap₂ (λ a b. a * 10 ^ places + b) whole.1 rest.1 ∙ div-add-mod' n (10 ^ places))

pub spelling_spells : (places : ℕ) (n : ℤ) → unsigned_abs n < 10 ^ 64 → Spells places (spelling places n) n
spelling_spells places n small =
    let parts = parts_written places (unsigned_abs n) small in
    record {
      minus = is_negative n;
      whole = decimal (unsigned_abs n / 10 ^ places);
      decimals = decimals_of places (unsigned_abs n % 10 ^ places);
      joined = refl;
      whole_part = parts.0;
      decimal_part = parts.1;
      no_minus_zero = λ is. subst (λ k. 0 < k) (sym parts.2) (negative_some n is);
      number = sym (signed_again n) ∙ ap (signed (is_negative n)) (sym parts.2);
    }

pub spelling_unique : (places : ℕ) (text : List ℕ) (n : ℤ) → unsigned_abs n < 10 ^ 64 → Spells places text n → text ≡ spelling places n
spelling_unique places text n small s =
    let units = units_of places s.whole s.decimals in
    let sign = sym (ap is_negative s.number ∙ sign_of s.minus units s.no_minus_zero) in
    let magnitude = sym (ap unsigned_abs s.number ∙ magnitude_of s.minus units) in
    let digits = decimal_digits places s.decimals s.decimal_part in
    let front = sym (units_whole places s.whole s.decimals digits) ∙ ap (λ u. u / 10 ^ places) magnitude in
    let behind = sym (units_rest places s.whole s.decimals digits) ∙ ap (λ u. u % 10 ^ places) magnitude in
    let fits = subst (λ k. k < 10 ^ 64) (sym front) (whole_fits places (unsigned_abs n) small) in
    let whole = whole_decimal s.whole s.whole_part fits ∙ ap decimal front in
    let decimals = decimals_again places s.decimals s.decimal_part ∙ ap (decimals_of places) behind in
    s.joined
    ∙ ap (λ m. sign_text m ++ s.whole ++ point_text s.decimals) sign
    ∙ ap₂ (λ w ds. sign_text (is_negative n) ++ w ++ point_text ds) whole decimals

-- ---- the bytes of a spelling

abbrev is_number_byte : ℕ → Bool
is_number_byte c = nat_le 45 c && nat_le c 57 && not (c == 47)

digit_byte : (c : ℕ) → is_digit c ≡ true → is_number_byte c ≡ true
digit_byte c h = grind (arith, nat_tests)

digits_bytes : (ds : List ℕ) → list_all is_digit ds ≡ true → list_all is_number_byte ds ≡ true
digits_bytes [] h = refl
digits_bytes (c ∷ cs) h =
    let parts = and_parts (is_digit c) (list_all is_digit cs) h in
    and_from _ _ (digit_byte c parts.0) (digits_bytes cs parts.1)

sign_bytes : (minus : Bool) → list_all is_number_byte (sign_text minus) ≡ true
sign_bytes true = refl
sign_bytes false = refl

point_bytes : (ds : List ℕ) → list_all is_digit ds ≡ true → list_all is_number_byte (point_text ds) ≡ true
point_bytes [] h = refl
point_bytes (c ∷ cs) h = digits_bytes (c ∷ cs) h

-- each byte is a digit, a minus or a point
pub spelling_bytes : (places : ℕ) (n : ℤ) → unsigned_abs n < 10 ^ 64 → list_all (λ c. nat_le 45 c && nat_le c 57 && not (c == 47)) (spelling places n) ≡ true
spelling_bytes places n small =
    let parts = parts_written places (unsigned_abs n) small in
    let sign = sign_text (is_negative n) in
    let whole = decimal (unsigned_abs n / 10 ^ places) in
    let decimals = decimals_of places (unsigned_abs n % 10 ^ places) in
    let whole_bytes = digits_bytes whole (whole_digits whole parts.0) in
    let front = list_all-append is_number_byte sign whole ∙ and_from _ _ (sign_bytes (is_negative n)) whole_bytes in
    let behind = point_bytes decimals (decimal_digits places decimals parts.1) in
    list_all-append is_number_byte (sign ++ whole) (point_text decimals) ∙ and_from _ _ front behind
