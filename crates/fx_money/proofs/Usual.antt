-- Numbers of the usual form: a few digits, and perhaps a point and a few digits more.
use Rattle.std.proofs.Common.{◌≡◌, ℕ, zero, suc, ◌+◌, ◌-◌, ◌*◌, ◌^◌, ◌<◌, ◌≤◌, true, false, List, [], ◌∷◌, length, get_or, take, drop, refl, sym, ap, ◌∙◌, arith, Some, None, inl, inr, cond, not, ◌&&◌, ap₂, length-drop, subst}
use Rattle.std.specs.Prelude.{nat_le, ◌==◌}
use Rattle.std.specs.List.{list_all, position_or_len, before_first, after_first}
use Rattle.std.proofs.lemmas.List.{get_or-take, get_or-drop, length-take-le, take_all, drop_all}
use Rattle.std.proofs.lemmas.List.Sums.{position_or_len_is, passes_at_first, prefix_len-le-length}
use Rattle.std.proofs.lemmas.List.Folds.{list_all_at}
use Rattle.std.proofs.lemmas.Bool.{and_parts, and_from, ne_eqb, eq-eqb, eqb-true, false≢true, cases_Bool, cases_lt, cond-false}
use Rattle.std.proofs.lemmas.Nat.{pow-add}
use Rattle.std.proofs.Math.Nat.{mul-lt-mul_of_pos_right, pow-suc, pow-le-pow_right}
use Rattle.metering_model.specs.NumberText.{is_digit, is_point, is_whole_part, is_decimal_part, ends_in, number_of, worth_of, units_of, is_unsigned, magnitude_in}
use Rattle.fx_money.specs.Inner.Leading.{AreLeading}
use Rattle.fx_money.proofs.Decimals.{power_positive}
use Rattle.fx_money.proofs.Digits.{IsDigit-from_test, number_after, worth_none}

-- ---- bounds

pub below_power : (n k most : ℕ) → n < 10 ^ k → k ≤ most → n < 10 ^ most
below_power n k most below few =
    let more : 10 ^ k ≤ 10 ^ most = pow-le-pow_right (omega arith) few in
    omega (arith, more)

-- ---- what decimals are worth, by the number that they write

spread : (n d unit : ℕ) → (10 * n + d) * unit ≡ n * (10 * unit) + d * unit
spread n d unit = grind arith

worth_none_more : (n left p : ℕ) → left + 0 ≡ p → n * 10 ^ left ≡ n * 10 ^ p + 0
worth_none_more n left p e =
    let is : left ≡ p = omega arith in
    ap (λ k. n * 10 ^ k) is ∙ omega arith

worth_by_number : (p n left : ℕ) (ds : List ℕ) → left + length ds ≡ p → number_after n ds * 10 ^ left ≡ n * 10 ^ p + worth_of p ds
unfolding worth_of
worth_by_number zero n left [] e = worth_none_more n left 0 e
worth_by_number (suc p) n left [] e = worth_none_more n left (suc p) e
worth_by_number zero n left (c ∷ cs) e = absurd (omega arith)
worth_by_number (suc p) n left (c ∷ cs) e =
    let here = worth_by_number p (10 * n + (c - 48)) left cs (omega arith) in
    let split = spread n (c - 48) (10 ^ p) in
    let more : n * 10 ^ suc p ≡ n * (10 * 10 ^ p) = ap (λ u. n * u) (omega (arith, pow-suc 10 p)) in
    here ∙ omega (arith, split, more)

pub worth_is : (p : ℕ) (ds : List ℕ) → length ds ≤ p → number_of ds * 10 ^ (p - length ds) ≡ worth_of p ds
worth_is p ds few =
    let from_none : number_of ds * 10 ^ (p - length ds) ≡ 0 * 10 ^ p + worth_of p ds = worth_by_number p 0 (p - length ds) ds (omega arith) in
    omega (arith, from_none)

pub worth_small : (n few p : ℕ) → few ≤ p → n < 10 ^ few → n * 10 ^ (p - few) < 10 ^ p
worth_small n few p within small =
    let whole : few + (p - few) ≡ p = omega arith in
    let unit : 0 < 10 ^ (p - few) = power_positive (p - few) in
    let less : n * 10 ^ (p - few) < 10 ^ few * 10 ^ (p - few) = mul-lt-mul_of_pos_right small unit in
    subst (λ k. n * 10 ^ (p - few) < k) (sym (pow-add 10 few (p - few)) ∙ ap (λ k. 10 ^ k) whole) less

-- ---- the parts of a number, by the count of the digits in front

-- a byte among the digits in front
digit_in_front : (t : List ℕ) (many k : ℕ) → k < many → many ≤ length t → list_all is_digit (take many t) ≡ true → is_digit (get_or t k 0) ≡ true
digit_in_front t many k before within all = elim (cases_Bool (is_digit (get_or t k 0))) [
  | inl digit ↦ digit
  | inr other ↦
      let is : get_or (take many t) k 0 ≡ get_or t k 0 = get_or-take many t k 0 before in
      let short : k < length (take many t) = omega (arith, length-take-le many t within) in
      absurd (false≢true (sym (list_all_at is_digit (take many t) k 0 short (ap is_digit is ∙ other)) ∙ all))
]

no_point_in_digit : (c : ℕ) → is_digit c ≡ true → is_point c ≡ false
no_point_in_digit c h = ne_eqb c 46 (λ e. omega (arith, (IsDigit-from_test c h).low))

point_is : (t : List ℕ) (many : ℕ) → many ≤ length t → list_all is_digit (take many t) ≡ true → (many < length t → get_or t many 0 ≡ 46) → position_or_len is_point t ≡ many
point_is t many within all point =
    position_or_len_is is_point t many 0 within
    (λ k before. no_point_in_digit (get_or t k 0) (digit_in_front t many k before within all))
    (λ more. eq-eqb _ _ (point more))

-- digits of which the first is no 0, unless it is alone
whole_part_is : (t : List ℕ) → 0 < length t → list_all is_digit t ≡ true → (1 < length t → get_or t 0 0 ≡ 48 → ⊥) → is_whole_part t ≡ true
whole_part_is [] some all first = absurd (omega arith)
whole_part_is (c ∷ []) some all first = (and_parts (is_digit c) true all).0
whole_part_is (c ∷ d ∷ cs) some all first =
    let parts = and_parts (is_digit c) (list_all is_digit (d ∷ cs)) all in
    rw (parts.0, ne_eqb c 48 (first (omega arith)), parts.1) refl

-- a digit at the end is no point
ends_in_digit : (t : List ℕ) → is_digit (get_or t (length t - 1) 0) ≡ true → ends_in 46 t ≡ false
ends_in_digit t h = no_point_in_digit (get_or t (length t - 1) 0) h

last_digit : (t : List ℕ) → 0 < length t → list_all is_digit t ≡ true → is_digit (get_or t (length t - 1) 0) ≡ true
last_digit t some all = digit_in_front t (length t) (length t - 1) (omega arith) (omega arith) (ap (list_all is_digit) (take_all (length t) t (omega arith)) ∙ all)

magnitude_is : (t : List ℕ) (many : ℕ) → position_or_len is_point t ≡ many → is_whole_part (take many t) ≡ true → is_decimal_part 6 (drop (many + 1) t) ≡ true → ends_in 46 t ≡ false → magnitude_in 6 t ≡ Some (number_of (take many t) * 10 ^ 6 + worth_of 6 (drop (many + 1) t))
magnitude_is t many place whole decimals last =
    let before : before_first is_point t ≡ take many t = ap (λ k. take k t) place in
    let behind : after_first is_point t ≡ drop (many + 1) t = ap (λ k. drop (k + 1) t) place in
    let unsigned : is_unsigned 6 t ≡ true =
    and_from (is_whole_part (before_first is_point t) && is_decimal_part 6 (after_first is_point t)) (not (ends_in 46 t))
    (and_from (is_whole_part (before_first is_point t)) (is_decimal_part 6 (after_first is_point t)) (ap is_whole_part before ∙ whole) (ap (is_decimal_part 6) behind ∙ decimals)) (ap not last) in
    ap (λ b. cond b (Some (units_of 6 (before_first is_point t) (after_first is_point t))) None) unsigned
    ∙ ap₂ (λ w d. Some (units_of 6 w d)) before behind

-- the first digits are a whole part
pub record HasWhole (t : List ℕ) (many : ℕ) : Type 0 where
  pub some : 0 < many
  pub within : many ≤ length t
  pub digits : list_all is_digit (take many t) ≡ true
  pub first : 1 < many → get_or t 0 0 ≡ 48 → ⊥

whole_in_front : (t : List ℕ) (many : ℕ) → HasWhole t many → is_whole_part (take many t) ≡ true
whole_in_front t many h =
    let long : length (take many t) ≡ many = length-take-le many t h.within in
    whole_part_is (take many t) (omega (arith, h.some)) h.digits
    (λ more e. h.first (omega arith) (sym (get_or-take many t 0 0 h.some) ∙ e))

pub magnitude_whole : (t : List ℕ) (many : ℕ) → many ≡ length t → HasWhole t many → magnitude_in 6 t ≡ Some (number_of (take many t) * 1_000_000)
magnitude_whole t many e h =
    let all : list_all is_digit t ≡ true = sym (ap (list_all is_digit) (take_all many t (omega arith))) ∙ h.digits in
    let none : drop (many + 1) t ≡ [] = drop_all (many + 1) t (omega arith) in
    magnitude_is t many (point_is t many h.within h.digits (λ more. absurd (omega arith))) (whole_in_front t many h)
    (ap (is_decimal_part 6) none) (ends_in_digit t (last_digit t (omega (arith, h.some)) all))
    ∙ ap (λ w. Some (number_of (take many t) * 1_000_000 + w)) (ap (worth_of 6) none ∙ worth_none 6)
    ∙ ap (λ n. Some n) (omega arith)

pub magnitude_parts : (t ds : List ℕ) (many : ℕ) → get_or t many 0 ≡ 46 → ds ≡ drop (many + 1) t → 0 < length ds → is_decimal_part 6 ds ≡ true → HasWhole t many → magnitude_in 6 t ≡ Some (number_of (take many t) * 1_000_000 + worth_of 6 ds)
magnitude_parts t ds many point e some decimals h =
    let all : list_all is_digit ds ≡ true = (and_parts (list_all is_digit ds) (nat_le (length ds) 6) (and_parts (list_all is_digit ds && nat_le (length ds) 6) (not (ends_in 48 ds)) decimals).0).0 in
    let long : length t - (many + 1) ≡ length ds = omega (arith, length-drop (many + 1) t, ap length e) in
    let last : get_or t (length t - 1) 0 ≡ get_or ds (length ds - 1) 0 =
    ap (λ k. get_or t k 0) (omega arith) ∙ sym (get_or-drop (many + 1) t (length ds - 1) 0) ∙ ap (λ xs. get_or xs (length ds - 1) 0) (sym e) in
    magnitude_is t many (point_is t many h.within h.digits (λ more. point)) (whole_in_front t many h)
    (ap (is_decimal_part 6) (sym e) ∙ decimals) (ends_in_digit t (ap is_digit last ∙ last_digit ds some all))
    ∙ ap (λ d. Some (number_of (take many t) * 1_000_000 + worth_of 6 d)) (sym e)

-- ---- what reading in the usual form does not give is no number, where so few digits are in front

-- a text of which that can't be is no number
pub no_magnitude : (t : List ℕ) → (is_unsigned 6 t ≡ true → ⊥) → magnitude_in 6 t ≡ None
no_magnitude t never = elim (cases_Bool (is_unsigned 6 t)) [
  | inl fits ↦ absurd (never fits)
  | inr other ↦ cond-false (is_unsigned 6 t) (Some (units_of 6 (before_first is_point t) (after_first is_point t))) None other
]

whole_digits : (w : List ℕ) → is_whole_part w ≡ true → list_all is_digit w ≡ true
whole_digits [] h = refl
whole_digits (c ∷ []) h = and_from (is_digit c) true h refl
whole_digits (c ∷ d ∷ cs) h =
    let parts = and_parts (is_digit c && not (c == 48)) (list_all is_digit (d ∷ cs)) h in
    and_from (is_digit c) (list_all is_digit (d ∷ cs)) (and_parts (is_digit c) (not (c == 48)) parts.0).0 parts.1

whole_some : (w : List ℕ) → is_whole_part w ≡ true → 0 < length w
whole_some [] h = absurd (cc)
whole_some (c ∷ cs) h = omega arith

whole_first : (w : List ℕ) → is_whole_part w ≡ true → 1 < length w → get_or w 0 0 ≡ 48 → ⊥
whole_first [] h more none = omega arith
whole_first (c ∷ []) h more none = omega arith
whole_first (c ∷ d ∷ cs) h more none =
    let parts = and_parts (is_digit c && not (c == 48)) (list_all is_digit (d ∷ cs)) h in
    let other = (and_parts (is_digit c) (not (c == 48)) parts.0).1 in
    false≢true (ap not (sym (eq-eqb c 48 none)) ∙ other)

-- what is in front of the point, and behind it, of a number with so many digits in front
pub record HasUsual (t : List ℕ) (many : ℕ) : Type 0 where
  pub some : 0 < many
  pub first : 1 < many → get_or t 0 0 ≡ 48 → ⊥
  pub point : many < length t → get_or t many 0 ≡ 46
  pub behind : many < length t → many + 1 < length t
  pub decimals : is_decimal_part 6 (drop (many + 1) t) ≡ true

module _ (t : List ℕ) (many : ℕ) (leads : AreLeading t 12 many) (short : length (before_first is_point t) ≤ 12) (number : is_unsigned 6 t ≡ true) where
  abbrev place : ℕ
  place = position_or_len is_point t

  inside : place ≤ length t
  inside = prefix_len-le-length (λ c. not (is_point c)) t

  long : length (take place t) ≡ place
  long = length-take-le place t inside

  parts : (is_whole_part (take place t) ≡ true) × (is_decimal_part 6 (drop (place + 1) t) ≡ true) × (not (ends_in 46 t) ≡ true)
  parts =
      let outer = and_parts (is_whole_part (take place t) && is_decimal_part 6 (drop (place + 1) t)) (not (ends_in 46 t)) number in
      let inner = and_parts (is_whole_part (take place t)) (is_decimal_part 6 (drop (place + 1) t)) outer.0 in
      (inner.0, inner.1, outer.1)

  all : list_all is_digit (take place t) ≡ true
  all = whole_digits (take place t) parts.0

  not_before : place < many → ⊥
  not_before less =
      let digit = digit_in_front t many place less leads.within leads.digits in
      let within : place < length t = omega (arith, leads.within) in
      false≢true (sym (no_point_in_digit (get_or t place 0) digit) ∙ passes_at_first is_point t 0 within)

  not_behind : many < place → ⊥
  not_behind less =
      let digit = digit_in_front t place many less inside all in
      false≢true (sym (leads.stops (omega (arith, long)) (omega (arith, inside))) ∙ digit)

  same : place ≡ many
  same = elim (cases_lt place many) [
    | inl less ↦ absurd (not_before less)
    | inr up ↦ elim (cases_lt many place) [
      | inl less ↦ absurd (not_behind less)
      | inr down ↦ omega arith
    ]
  ]

  pub has_usual : HasUsual t many
  has_usual =
      let some = whole_some (take place t) parts.0 in
      let point : many < length t → get_or t many 0 ≡ 46 = λ more. ap (λ k. get_or t k 0) (sym same) ∙ eqb-true _ 46 (passes_at_first is_point t 0 (omega (arith, same))) in
      record {
        some = omega (arith, long, same);
        first = λ more none. whole_first (take place t) parts.0 (omega (arith, long, same)) (get_or-take place t 0 0 (omega (arith, long)) ∙ none);
        point = point;
        behind = λ more. elim (cases_lt (many + 1) (length t)) [
          | inl further ↦ further
          | inr end ↦
              let last : get_or t (length t - 1) 0 ≡ 46 = ap (λ k. get_or t k 0) (omega arith) ∙ point more in
              absurd (false≢true (ap not (sym (eq-eqb _ 46 last)) ∙ parts.2))
        ];
        decimals = ap (λ k. is_decimal_part 6 (drop (k + 1) t)) (sym same) ∙ parts.1;
      }
