-- What is read as a number is what the text spells: a text is cut where its parts were joined.
use Rattle.std.proofs.Common.{◌≡◌, ℕ, zero, suc, ◌+◌, ◌<◌, Bool, true, false, not, ◌&&◌, ◌==◌, List, [], ◌∷◌, ◌++◌, length, get_or, take, drop, slice_index, Option, Some, None, ℤ, pos, neg_ℤ, refl, sym, ap, ap₂, subst, ◌∙◌, inl, inr, arith, append_assoc, append-nil, length-append, take_all}
use Rattle.std.specs.List.{list_all, position_or_len, before_first, after_first}
use Rattle.std.proofs.Math.Seq.{take-append_seam, drop-append-add}
use Rattle.std.proofs.lemmas.Bool.{false≢true, and_parts, and_from, cond-true, cond-false, cases_lt, cases_Bool, both_ways, not-true, eqb-true, ne_eqb}
use Rattle.std.proofs.lemmas.Int.{ints}
use Rattle.std.proofs.lemmas.List.{drop_all}
use Rattle.std.proofs.lemmas.List.Sums.{split_at_first, passes_at_first}
use Rattle.std.proofs.lemmas.Option.{cond_some, same_Some}
use Rattle.metering_model.proofs.NumberDigits.{digit_bounds, whole_digits, decimal_digits, ends_past}
use Rattle.metering_model.specs.NumberText.{is_digit, is_point, is_whole_part, is_decimal_part, is_unsigned, ends_in, units_of, sign_text, point_text, signed, magnitude_in, negated, not_negated, number_in, Spells}

-- ---- the parts of joined texts

digit_is_not : (b c : ℕ) → b < 48 → is_digit c ≡ true → (c == b) ≡ false
digit_is_not b c low digit = let bounds = digit_bounds c digit in ne_eqb c b (λ is. omega arith)

point_place : (w ds : List ℕ) → list_all is_digit w ≡ true → position_or_len is_point (w ++ point_text ds) ≡ length w
point_place [] [] h = refl
point_place [] (c ∷ cs) h = refl
point_place (c ∷ cs) ds h =
    let parts = and_parts (is_digit c) (list_all is_digit cs) h in
    let later = point_place cs ds parts.1 in
    cond-true (not (is_point c)) _ 0 (ap not (digit_is_not 46 c (omega arith) parts.0)) ∙ omega (arith, later)

before_point : (w ds : List ℕ) → list_all is_digit w ≡ true → before_first is_point (w ++ point_text ds) ≡ w
before_point w ds h = ap (λ n. take n (w ++ point_text ds)) (point_place w ds h) ∙ take-append_seam w (point_text ds)

after_point : (w ds : List ℕ) → list_all is_digit w ≡ true → after_first is_point (w ++ point_text ds) ≡ ds
after_point w ds h = ap (λ n. drop (n + 1) (w ++ point_text ds)) (point_place w ds h) ∙ drop-append-add w (point_text ds) 1 ∙ behind ds
  where
    behind : (ds : List ℕ) → drop 1 (point_text ds) ≡ ds
    behind [] = refl
    behind (c ∷ cs) = refl

ends_behind : (e : ℕ) (xs ys : List ℕ) → 0 < length ys → ends_in e (xs ++ ys) ≡ ends_in e ys
ends_behind e [] ys some = refl
ends_behind e (x ∷ xs) ys some = ends_past e x (xs ++ ys) (omega (arith, length-append xs ys)) ∙ ends_behind e xs ys some

digits_end : (ds : List ℕ) → list_all is_digit ds ≡ true → ends_in 46 ds ≡ false
digits_end [] h = refl
digits_end (c ∷ []) h = digit_is_not 46 c (omega arith) (and_parts (is_digit c) true h).0
digits_end (c ∷ d ∷ ds) h = ends_past 46 c (d ∷ ds) (omega arith) ∙ digits_end (d ∷ ds) (and_parts (is_digit c) (list_all is_digit (d ∷ ds)) h).1

joined_end : (w ds : List ℕ) → list_all is_digit w ≡ true → list_all is_digit ds ≡ true → ends_in 46 (w ++ point_text ds) ≡ false
joined_end w [] h k = ap (ends_in 46) (append-nil w) ∙ digits_end w h
joined_end w (d ∷ ds) h k = ends_behind 46 w (46 ∷ d ∷ ds) (omega arith) ∙ ends_past 46 46 (d ∷ ds) (omega arith) ∙ digits_end (d ∷ ds) k

-- ---- what is spelled is read

-- a whole part and decimals, joined, are read as their units
pub magnitude_of_joined : (places : ℕ) (w ds : List ℕ) → is_whole_part w ≡ true → is_decimal_part places ds ≡ true → magnitude_in places (w ++ point_text ds) ≡ Some (units_of places w ds)
magnitude_of_joined places w ds h k =
    let digits = whole_digits w h in
    let before = before_point w ds digits in
    let after = after_point w ds digits in
    let parts = and_from _ _ (ap is_whole_part before ∙ h) (ap (is_decimal_part places) after ∙ k) in
    let end = ap not (joined_end w ds digits (decimal_digits places ds k)) in
    cond-true (is_unsigned places (w ++ point_text ds)) _ None (and_from _ _ parts end) ∙ ap₂ (λ x y. Some (units_of places x y)) before after

no_minus_first : (w rest : List ℕ) → is_whole_part w ≡ true → (slice_index (w ++ rest) 0 == 45) ≡ false
no_minus_first [] rest h = absurd (false≢true h)
no_minus_first (c ∷ cs) rest h = digit_is_not 45 c (omega arith) (and_parts (is_digit c) (list_all is_digit cs) (whole_digits (c ∷ cs) h)).0

negated_some : (n : ℕ) → 0 < n → negated (Some n) ≡ Some (neg_ℤ (pos n))
negated_some zero h = absurd (omega arith)
negated_some (suc n) h = refl

joined_is_read : (places : ℕ) (minus : Bool) (w ds : List ℕ) → is_whole_part w ≡ true → is_decimal_part places ds ≡ true → (minus ≡ true → 0 < units_of places w ds) → number_in places (sign_text minus ++ w ++ point_text ds) ≡ Some (signed minus (units_of places w ds))
joined_is_read places true w ds h k some = ap negated (magnitude_of_joined places w ds h k) ∙ negated_some _ (some refl)
joined_is_read places false w ds h k some = cond-false (slice_index (w ++ point_text ds) 0 == 45) _ _ (no_minus_first w (point_text ds) h) ∙ ap not_negated (magnitude_of_joined places w ds h k)

pub spelled_number : (places : ℕ) (text : List ℕ) (n : ℤ) → Spells places text n → number_in places text ≡ Some n
spelled_number places text n s =
    ap (number_in places) s.joined
    ∙ joined_is_read places s.minus s.whole s.decimals s.whole_part s.decimal_part s.no_minus_zero
    ∙ ap Some (sym s.number)

-- ---- what is read is spelled

-- a text that does not end in a point is what stands before its first point, joined to what stands behind it
cut_joins : (body : List ℕ) → ends_in 46 body ≡ false → body ≡ before_first is_point body ++ point_text (after_first is_point body)
cut_joins body h = elim (cases_lt (position_or_len is_point body) (length body)) [
  | inl within ↦
      let point : get_or body (position_or_len is_point body) 0 ≡ 46 = eqb-true _ _ (passes_at_first is_point body 0 within) in
      at_point body (before_first is_point body) (after_first is_point body) h
      (split_at_first is_point body 0 within ∙ ap (λ c. before_first is_point body ++ c ∷ after_first is_point body) point)
  | inr none ↦
      let front : before_first is_point body ≡ body = take_all _ body none in
      let behind : after_first is_point body ≡ [] = drop_all _ body (omega arith) in
      sym (append-nil body) ∙ ap₂ (λ a b. a ++ point_text b) (sym front) (sym behind)
]
  where
    at_point : (t a b : List ℕ) → ends_in 46 t ≡ false → t ≡ a ++ 46 ∷ b → t ≡ a ++ point_text b
    at_point t a [] h e = absurd (both_ways _ h (ap (ends_in 46) e ∙ ends_behind 46 a (46 ∷ []) (omega arith)))
    at_point t a (c ∷ cs) h e = e

-- a body that is read, behind its sign
spelled_with : (places : ℕ) (minus : Bool) (body : List ℕ) (n : ℕ) → magnitude_in places body ≡ Some n → (minus ≡ true → 0 < n) → Spells places (sign_text minus ++ body) (signed minus n)
spelled_with places minus body n read some =
    let w = before_first is_point body in
    let ds = after_first is_point body in
    let parts = cond_some (is_unsigned places body) (units_of places w ds) n read in
    let tests = and_parts (is_whole_part w && is_decimal_part places ds) (not (ends_in 46 body)) parts.0 in
    let shapes = and_parts (is_whole_part w) (is_decimal_part places ds) tests.0 in
    record {
      minus = minus;
      whole = w;
      decimals = ds;
      joined = ap (λ t. sign_text minus ++ t) (cut_joins body (not-true _ tests.1)) ∙ sym (append_assoc (sign_text minus) w (point_text ds));
      whole_part = shapes.0;
      decimal_part = shapes.1;
      no_minus_zero = λ is. subst (λ k. 0 < k) (sym parts.1) (some is);
      number = ap (signed minus) (sym parts.1);
    }

spelled_negated : (places : ℕ) (body : List ℕ) (o : Option ℕ) (n : ℤ) → magnitude_in places body ≡ o → negated o ≡ Some n → Spells places (45 ∷ body) n
spelled_negated places body None n read e = cc
spelled_negated places body (Some zero) n read e = cc
spelled_negated places body (Some (suc k)) n read e = subst (Spells places (45 ∷ body)) (same_Some _ _ e) (spelled_with places true body (suc k) read (λ _. omega arith))

spelled_positive : (places : ℕ) (body : List ℕ) (o : Option ℕ) (n : ℤ) → magnitude_in places body ≡ o → not_negated o ≡ Some n → Spells places body n
spelled_positive places body None n read e = cc
spelled_positive places body (Some k) n read e = subst (Spells places body) (same_Some _ _ e) (spelled_with places false body k read (λ no. absurd (false≢true no)))

first_then_rest : (t : List ℕ) → slice_index t 0 ≡ 45 → 45 ∷ drop 1 t ≡ t
first_then_rest [] is = absurd (omega arith)
first_then_rest (c ∷ cs) is = ap (λ x. x ∷ cs) (sym is)

pub number_spelled : (places : ℕ) (text : List ℕ) (n : ℤ) → number_in places text ≡ Some n → Spells places text n
number_spelled places text n e = elim (cases_Bool (slice_index text 0 == 45)) [
  | inl minus ↦
      let read = sym (cond-true (slice_index text 0 == 45) (negated (magnitude_in places (drop 1 text))) (not_negated (magnitude_in places text)) minus) ∙ e in
      subst (λ t. Spells places t n) (first_then_rest text (eqb-true _ 45 minus)) (spelled_negated places (drop 1 text) _ n refl read)
  | inr plain ↦
      let read = sym (cond-false (slice_index text 0 == 45) (negated (magnitude_in places (drop 1 text))) (not_negated (magnitude_in places text)) plain) ∙ e in
      spelled_positive places text _ n refl read
]

-- ---- prices, which have no minus

pub magnitude_spelled : (places : ℕ) (text : List ℕ) (n : ℕ) → magnitude_in places text ≡ Some n → Spells places text (pos n)
magnitude_spelled places text n read = spelled_with places false text n read (λ no. absurd (false≢true no))

joined_magnitude : (places : ℕ) (text : List ℕ) (n : ℕ) (minus : Bool) (w ds : List ℕ) → text ≡ sign_text minus ++ w ++ point_text ds → is_whole_part w ≡ true → is_decimal_part places ds ≡ true →
    (minus ≡ true → 0 < units_of places w ds) → pos n ≡ signed minus (units_of places w ds) → magnitude_in places text ≡ Some n
joined_magnitude places text n true w ds joined h k some e = absurd (below_zero (units_of places w ds) (some refl) e)
  where
    below_zero : (m : ℕ) → 0 < m → pos n ≡ neg_ℤ (pos m) → ⊥
    below_zero m positive same = omega (arith, ints)
joined_magnitude places text n false w ds joined h k some e = ap (magnitude_in places) joined ∙ magnitude_of_joined places w ds h k ∙ ap Some (alike (units_of places w ds) e)
  where
    alike : (m : ℕ) → pos n ≡ pos m → m ≡ n
    alike m same = omega (arith, ints)

pub spelled_magnitude : (places : ℕ) (text : List ℕ) (n : ℕ) → Spells places text (pos n) → magnitude_in places text ≡ Some n
spelled_magnitude places text n s = joined_magnitude places text n s.minus s.whole s.decimals s.joined s.whole_part s.decimal_part s.no_minus_zero s.number
