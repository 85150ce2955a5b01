-- The digits of a number: those of its whole part, which `decimal` writes, and those behind its point.
use Rattle.std.proofs.Common.{◌≡◌, ◌≢◌, ℕ, zero, suc, ◌+◌, ◌-◌, ◌*◌, ◌/◌, ◌%◌, ◌^◌, ◌<◌, ◌≤◌, true, false, not, ◌&&◌, ◌==◌, nat_le, List, [], ◌∷◌}
use Rattle.std.proofs.Common.{◌++◌, length, get_or, fold, decimal, refl, sym, ap, ap₂, subst, ◌∙◌, inl, inr, arith, append_assoc, append-nil}
use Rattle.std.proofs.Common.{pow-suc, mul_comm, mul-pos, pos_of_ne-zero}
use Rattle.std.specs.List.{list_all}
use Rattle.std.proofs.Math.Nat.{one-le-pow}
use Rattle.std.proofs.lemmas.Bool.{false≢true, and_parts, and_from, cond-true, cond-false, cases_Bool, not-true, eqb-true, eqb-false, ne_eqb, leb-true, le-leb}
use Rattle.std.proofs.lemmas.Bool.Decides.{nat_tests}
use Rattle.std.proofs.lemmas.Fmt.{decimal_digit, decimal_step_wide, decimal_by_steps_wide}
use Rattle.std.proofs.lemmas.List.Folds.{list_all-append}
use Rattle.std.proofs.lemmas.List.Sums.{fold-append}
use Rattle.std.proofs.lemmas.Nat.{mul-add-lt, div-mul-add, mod-mul-add, div_below, mod_below, div-add-mod'}
use Rattle.metering_model.specs.NumberText.{is_digit, is_whole_part, is_decimal_part, ends_in, number_of, worth_of, decimals_of}

-- ---- digits

pub digit_bounds : (c : ℕ) → is_digit c ≡ true → (48 ≤ c) × (c ≤ 57)
digit_bounds c h = (grind (arith, nat_tests), grind (arith, nat_tests))

digit_from : (n : ℕ) → n < 10 → is_digit (48 + n) ≡ true
digit_from n h = grind (arith, nat_tests)

-- what makes a whole part of two or more digits
long_whole : (c d : ℕ) (cs : List ℕ) → is_whole_part (c ∷ d ∷ cs) ≡ true → (is_digit c ≡ true) × (c ≢ 48) × (list_all is_digit (d ∷ cs) ≡ true)
long_whole c d cs h =
    let parts = and_parts (is_digit c && not (c == 48)) (list_all is_digit (d ∷ cs)) h in
    let first = and_parts (is_digit c) (not (c == 48)) parts.0 in
    (first.0, eqb-false c 48 (not-true _ first.1), parts.1)

pub whole_digits : (w : List ℕ) → is_whole_part w ≡ true → list_all is_digit w ≡ true
whole_digits [] h = refl
whole_digits (c ∷ []) h = and_from _ _ h refl
whole_digits (c ∷ d ∷ cs) h =
    let parts = long_whole c d cs h in
    and_from _ _ parts.0 parts.2

pub decimal_digits : (places : ℕ) (ds : List ℕ) → is_decimal_part places ds ≡ true → list_all is_digit ds ≡ true
decimal_digits places ds h = (and_parts _ _ (and_parts _ _ h).0).0

-- ---- whole parts

number_push : (ds : List ℕ) (c : ℕ) → number_of (ds ++ c ∷ []) ≡ 10 * number_of ds + (c - 48)
number_push ds c = fold-append (λ n c. 10 * n + (c - 48)) 0 ds (c ∷ [])

-- a whole part above 0 goes on with any digit
whole_push : (ds : List ℕ) (c : ℕ) → is_whole_part ds ≡ true → 0 < number_of ds → is_digit c ≡ true → is_whole_part (ds ++ c ∷ []) ≡ true
whole_push [] c h some digit = absurd (false≢true h)
whole_push (a ∷ []) c h some digit = grind (arith, nat_tests)
whole_push (a ∷ b ∷ cs) c h some digit =
    let parts = and_parts (is_digit a && not (a == 48)) (list_all is_digit (b ∷ cs)) h in
    and_from _ _ parts.0 (list_all-append is_digit (b ∷ cs) (c ∷ []) ∙ and_from _ _ parts.1 (and_from _ _ digit refl))

abbrev IsWhole : ℕ → List ℕ → Type 0
IsWhole n ds = (is_whole_part ds ≡ true) × (number_of ds ≡ n)

-- what `decimal` writes is a whole part, of that number
pub decimal_whole : (n : ℕ) → n < 10 ^ 64 → (is_whole_part (decimal n) ≡ true) × (number_of (decimal n) ≡ n)
decimal_whole n small = decimal_by_steps_wide IsWhole one more n small
  where
    one : (n : ℕ) → n < 10 → IsWhole n ((48 + n) ∷ [])
    one n h = (digit_from n h, omega arith)

    more : (n : ℕ) (ds : List ℕ) → 10 ≤ n → IsWhole (n / 10) ds → IsWhole n (ds ++ ((48 + n % 10) ∷ []))
    more n ds large written =
        let digit = digit_from (n % 10) (omega arith) in
        (whole_push ds (48 + n % 10) written.0 (omega (arith, written.1)) digit, number_push ds (48 + n % 10) ∙ omega (arith, written.1))

pub decimal_bytes : (n : ℕ) → n < 10 ^ 64 → list_all is_digit (decimal n) ≡ true
decimal_bytes n small = whole_digits (decimal n) (decimal_whole n small).0

-- the number that digits write behind those of n
abbrev onward : ℕ → List ℕ → ℕ
onward n ds = fold (λ n c. 10 * n + (c - 48)) n ds

onward_grows : (n : ℕ) (ds : List ℕ) → n ≤ onward n ds
onward_grows n [] = omega arith
onward_grows n (c ∷ cs) = omega (arith, onward_grows (10 * n + (c - 48)) cs)

decimal_push : (n c : ℕ) → 0 < n → is_digit c ≡ true → 10 * n + (c - 48) < 10 ^ 64 → decimal (10 * n + (c - 48)) ≡ decimal n ++ c ∷ []
decimal_push n c some digit small =
    let bounds = digit_bounds c digit in
    let front : (10 * n + (c - 48)) / 10 ≡ n = omega (arith, bounds) in
    let last : 48 + (10 * n + (c - 48)) % 10 ≡ c = omega (arith, bounds) in
    decimal_step_wide (10 * n + (c - 48)) (omega arith) small ∙ ap₂ (λ m d. decimal m ++ d ∷ []) front last

-- what `decimal` writes of a number above 0 goes on with more digits
decimal_onward : (n : ℕ) (ds : List ℕ) → 0 < n → list_all is_digit ds ≡ true → onward n ds < 10 ^ 64 → decimal (onward n ds) ≡ decimal n ++ ds
decimal_onward n [] some digits small = sym (append-nil (decimal n))
decimal_onward n (c ∷ cs) some digits small =
    let parts = and_parts (is_digit c) (list_all is_digit cs) digits in
    let next = 10 * n + (c - 48) in
    decimal_onward next cs (omega arith) parts.1 small
    ∙ ap (λ front. front ++ cs) (decimal_push n c some parts.0 (omega (arith, onward_grows next cs)))
    ∙ append_assoc (decimal n) (c ∷ []) cs

one_digit : (c : ℕ) → is_digit c ≡ true → decimal (10 * 0 + (c - 48)) ≡ c ∷ []
one_digit c digit =
    let bounds = digit_bounds c digit in
    decimal_digit (10 * 0 + (c - 48)) (omega (arith, bounds)) ∙ ap (λ d. d ∷ []) (omega (arith, bounds))

-- a whole part is what `decimal` writes of its number
pub whole_decimal : (t : List ℕ) → is_whole_part t ≡ true → number_of t < 10 ^ 64 → t ≡ decimal (number_of t)
whole_decimal [] h small = absurd (false≢true h)
whole_decimal (c ∷ []) h small = sym (one_digit c h)
whole_decimal (c ∷ d ∷ cs) h small =
    let parts = long_whole c d cs h in
    let some : 0 < 10 * 0 + (c - 48) = omega (arith, digit_bounds c parts.0) in
    sym (decimal_onward (10 * 0 + (c - 48)) (d ∷ cs) some parts.2 small ∙ ap (λ front. front ++ (d ∷ cs)) (one_digit c parts.0))

-- ---- decimal parts

-- what a text ends in, its rest ends in, if there is one
pub ends_past : (e c : ℕ) (cs : List ℕ) → 0 < length cs → ends_in e (c ∷ cs) ≡ ends_in e cs
ends_past e c cs some =
    let last : length (c ∷ cs) - 1 ≡ suc (length cs - 1) = omega arith in
    ap (λ i. get_or (c ∷ cs) i 0 == e) last

-- no more digits than places, and a last one above 0, seen from the first one
decimal_part_parts : (p c : ℕ) (cs : List ℕ) → is_decimal_part p (c ∷ cs) ≡ true → (is_digit c ≡ true) × (list_all is_digit cs ≡ true) × (length cs < p) × (ends_in 48 (c ∷ cs) ≡ false)
decimal_part_parts p c cs h =
    let parts = and_parts (list_all is_digit (c ∷ cs) && nat_le (length (c ∷ cs)) p) (not (ends_in 48 (c ∷ cs))) h in
    let front = and_parts (list_all is_digit (c ∷ cs)) (nat_le (length (c ∷ cs)) p) parts.0 in
    let digits = and_parts (is_digit c) (list_all is_digit cs) front.0 in
    (digits.0, digits.1, omega (arith, leb-true _ _ front.1), not-true _ parts.1)

decimal_part_from : (p : ℕ) (ds : List ℕ) → list_all is_digit ds ≡ true → length ds ≤ p → ends_in 48 ds ≡ false → is_decimal_part p ds ≡ true
decimal_part_from p ds digits short last = and_from _ _ (and_from _ _ digits (le-leb _ _ short)) (ap not last)

-- the digits behind the first one are a decimal part too
decimal_part_rest : (p c : ℕ) (cs : List ℕ) → is_decimal_part (suc p) (c ∷ cs) ≡ true → is_decimal_part p cs ≡ true
decimal_part_rest p c [] h = decimal_part_from p [] refl (omega arith) refl
decimal_part_rest p c (d ∷ ds) h =
    let parts = decimal_part_parts (suc p) c (d ∷ ds) h in
    decimal_part_from p (d ∷ ds) parts.1 (omega arith) (sym (ends_past 48 c (d ∷ ds) (omega arith)) ∙ parts.3)

decimal_part_cons : (p c : ℕ) (cs : List ℕ) → is_digit c ≡ true → is_decimal_part p cs ≡ true → (cs ≡ [] → c ≢ 48) → is_decimal_part (suc p) (c ∷ cs) ≡ true
decimal_part_cons p c [] digit h last = decimal_part_from (suc p) (c ∷ []) (and_from _ _ digit refl) (omega arith) (ne_eqb c 48 (last refl))
decimal_part_cons p c (d ∷ ds) digit h last =
    let parts = decimal_part_parts p d ds h in
    decimal_part_from (suc p) (c ∷ d ∷ ds) (and_from _ _ digit (decimal_digits p (d ∷ ds) h)) (omega arith) (ends_past 48 c (d ∷ ds) (omega arith) ∙ parts.3)

-- ---- what decimals are worth

pub ten_power : (p : ℕ) → 0 < 10 ^ p
ten_power p = omega (arith, one-le-pow p 10 (omega arith))

-- digits behind the point are worth less than one whole
pub worth_below : (p : ℕ) (ds : List ℕ) → list_all is_digit ds ≡ true → worth_of p ds < 10 ^ p
unfolding worth_of
worth_below zero ds h = omega arith
worth_below (suc p) [] h = ten_power (suc p)
worth_below (suc p) (c ∷ cs) h =
    let parts = and_parts (is_digit c) (list_all is_digit cs) h in
    let bounds = digit_bounds c parts.0 in
    subst (λ n. (c - 48) * 10 ^ p + worth_of p cs < n) (sym (pow-suc 10 p))
    (mul-add-lt (c - 48) (10 ^ p) (worth_of p cs) 10 (omega (arith, bounds)) (worth_below p cs parts.1))

-- and more than nothing, where they are decimals
worth_above : (p c : ℕ) (cs : List ℕ) → is_decimal_part p (c ∷ cs) ≡ true → 0 < worth_of p (c ∷ cs)
unfolding worth_of
worth_above zero c cs h = absurd (omega (arith, (decimal_part_parts zero c cs h).2))
worth_above (suc p) c [] h =
    let parts = decimal_part_parts (suc p) c [] h in
    let bounds = digit_bounds c parts.0 in
    let above : 0 < c - 48 = omega (arith, bounds, eqb-false c 48 parts.3) in
    omega (arith, mul-pos above (ten_power p))
worth_above (suc p) c (d ∷ ds) h = omega (arith, worth_above p d ds (decimal_part_rest p c (d ∷ ds) h))

-- decimals are those of what they are worth
pub decimals_again : (p : ℕ) (ds : List ℕ) → is_decimal_part p ds ≡ true → ds ≡ decimals_of p (worth_of p ds)
unfolding worth_of decimals_of
decimals_again zero [] h = refl
decimals_again zero (c ∷ cs) h = absurd (omega (arith, (decimal_part_parts zero c cs h).2))
decimals_again (suc p) [] h = refl
decimals_again (suc p) (c ∷ cs) h =
    let parts = decimal_part_parts (suc p) c cs h in
    let bounds = digit_bounds c parts.0 in
    let below = worth_below p cs parts.1 in
    let worth = (c - 48) * 10 ^ p + worth_of p cs in
    let some : 0 < worth = worth_above (suc p) c cs h in
    let first : 48 + worth / 10 ^ p ≡ c = omega (arith, bounds, div-mul-add (c - 48) (10 ^ p) (worth_of p cs) below) in
    let left = mod-mul-add (c - 48) (10 ^ p) (worth_of p cs) below in
    let again = decimals_again p cs (decimal_part_rest p c cs h) in
    sym (cond-false (worth == 0) [] _ (ne_eqb worth 0 (omega arith)) ∙ ap₂ (λ d ds. d ∷ ds) first (ap (decimals_of p) left ∙ sym again))

worth_of_none : (p : ℕ) → worth_of p [] ≡ 0
unfolding worth_of
worth_of_none zero = refl
worth_of_none (suc p) = refl

abbrev AreWorth : ℕ → ℕ → List ℕ → Type 0
AreWorth p rest ds = (is_decimal_part p ds ≡ true) × (worth_of p ds ≡ rest)

-- a rest above 0 that leaves nothing behind its first decimal
first_some : (p rest : ℕ) → (rest == 0) ≡ false → rest % 10 ^ p ≡ 0 → 0 < rest / 10 ^ p
first_some p rest some nothing = pos_of_ne-zero (λ none.
    eqb-false rest 0 some (sym (div-add-mod' rest (10 ^ p)) ∙ ap₂ (λ q r. q * 10 ^ p + r) none nothing ∙ omega arith))

-- the first decimal of a rest above 0, before those of what it leaves
decimals_more : (p rest : ℕ) (ds : List ℕ) → rest < 10 ^ suc p → (rest == 0) ≡ false → AreWorth p (rest % 10 ^ p) ds → AreWorth (suc p) rest ((48 + rest / 10 ^ p) ∷ ds)
unfolding worth_of
decimals_more p rest ds below some fits =
    let bound = subst (λ n. rest < n) (pow-suc 10 p ∙ mul_comm (10 ^ p) 10) below in
    let digit = digit_from (rest / 10 ^ p) (div_below rest (10 ^ p) 10 (ten_power p) bound) in
    let nothing : ds ≡ [] → rest % 10 ^ p ≡ 0 = λ empty. sym fits.1 ∙ ap (worth_of p) empty ∙ worth_of_none p in
    let last : ds ≡ [] → 48 + rest / 10 ^ p ≢ 48 = λ empty is. omega (arith, first_some p rest some (nothing empty)) in
    let value : 48 + rest / 10 ^ p - 48 ≡ rest / 10 ^ p = omega arith in
    let worth = ap₂ (λ q r. q * 10 ^ p + r) value fits.1 ∙ div-add-mod' rest (10 ^ p) in
    (decimal_part_cons p (48 + rest / 10 ^ p) ds digit fits.0 last, worth)

-- the decimals of a rest below one whole are worth it
pub decimals_fit : (p rest : ℕ) → rest < 10 ^ p → (is_decimal_part p (decimals_of p rest) ≡ true) × (worth_of p (decimals_of p rest) ≡ rest)
unfolding worth_of decimals_of
decimals_fit zero rest below = (refl, omega arith)
decimals_fit (suc p) rest below = elim (cases_Bool (rest == 0)) [
  | inl none ↦
      let empty : AreWorth (suc p) rest [] = (decimal_part_from (suc p) [] refl (omega arith) refl, sym (eqb-true rest 0 none)) in
      subst (AreWorth (suc p) rest) (sym (cond-true (rest == 0) [] _ none)) empty
  | inr some ↦
      let left = decimals_fit p (rest % 10 ^ p) (mod_below rest (10 ^ p) (ten_power p)) in
      subst (AreWorth (suc p) rest) (sym (cond-false (rest == 0) [] _ some)) (decimals_more p rest _ below some left)
]
