-- Reading a month and joining its text from its parts are the same thing.
use Rattle.std.proofs.Common.{◌≡◌, ℕ, ◌+◌, ◌-◌, ◌*◌, ◌<◌, ◌≤◌, Bool, true, cond, ◌&&◌, List, ◌∷◌, ◌++◌, length, refl, sym, ap, ap₂, ◌∙◌, arith, Option, Some, None}
use Rattle.std.specs.Prelude.{nat_le, slice_index, slice_range}
use Rattle.std.proofs.lemmas.Bool.{and_parts, and_from, cond-true, eqb-true, leb-true, le-leb}
use Rattle.std.proofs.lemmas.Option.{cond_some}
use Rattle.metering_model.specs.Dates.{two_digits, four_digits, month_text, IsMonthText, number_at, has_month_form, month_in}
use Rattle.metering_model.proofs.DigitTexts.{by_length, IsNumberText, two_are_digits, two_digits_read, two_digits_written, four_are_digits, four_digits_read, four_digits_written}

-- a text of that form in its parts
record HasMonthParts (t : List ℕ) : Type 0 where
  year : IsNumberText 10_000 four_digits (slice_range t 0 4)
  month : IsNumberText 100 two_digits (slice_range t 5 7)
  joined : t ≡ month_text (number_at t 0 4) (number_at t 5 2)

-- what computes of any seven bytes
seven_bytes : (t : List ℕ) → length t ≡ 7 → (length (slice_range t 0 4) ≡ 4) × (length (slice_range t 5 7) ≡ 2) × (t ≡ slice_range t 0 4 ++ slice_index t 4 ∷ slice_range t 5 7)
seven_bytes t e = by_length 7 (λ t. (length (slice_range t 0 4) ≡ 4) × (length (slice_range t 5 7) ≡ 2) × (t ≡ slice_range t 0 4 ++ slice_index t 4 ∷ slice_range t 5 7)) (λ a b c d e f g. (refl, refl, refl)) t e

month_parts : (t : List ℕ) → has_month_form t ≡ true → HasMonthParts t
month_parts t h =
    let all = and_parts _ _ h in
    let front = and_parts _ _ all.0 in
    let first = and_parts _ _ front.0 in
    let bytes = seven_bytes t (eqb-true _ _ first.0) in
    let year : IsNumberText 10_000 four_digits (slice_range t 0 4) = four_digits_written _ bytes.0 first.1 in
    let month : IsNumberText 100 two_digits (slice_range t 5 7) = two_digits_written _ bytes.1 all.1 in
    let dash : slice_index t 4 ≡ 45 = eqb-true _ _ front.1 in
    record {
      year = year;
      month = month;
      joined = bytes.2 ∙ ap₂ (λ x c. x ++ c ∷ slice_range t 5 7) year.joined dash ∙ ap (λ x. four_digits (number_at t 0 4) ++ 45 ∷ x) month.joined;
    }

pub month_read : (t : List ℕ) (m : ℕ) → month_in t ≡ Some m → IsMonthText t m
month_read t m h =
    let found = cond_some _ _ _ h in
    let all = and_parts _ _ found.0 in
    let front = and_parts _ _ all.0 in
    let first = and_parts _ _ front.0 in
    let parts = month_parts t first.0 in
    let year_below : number_at t 0 4 < 10_000 = parts.year.below in
    record {
      year = number_at t 0 4;
      month = number_at t 5 2;
      year_in = (leb-true _ _ first.1, omega arith);
      month_in = (leb-true _ _ front.1, leb-true _ _ all.1);
      joined = parts.joined;
      number = sym found.1;
    }

pub month_text_form : (year month : ℕ) → has_month_form (month_text year month) ≡ true
month_text_form year month = and_from _ _ (and_from _ _ (four_are_digits year) refl) (two_are_digits month)

-- the numbers are those of a month in the years that have four digits
pub record IsMonthOf (year month : ℕ) : Type 0 where
  pub year_low : 1 ≤ year
  pub year_high : year ≤ 9999
  pub month_low : 1 ≤ month
  pub month_high : month ≤ 12

-- what reading answers of a form and two numbers
abbrev month_from : Bool → ℕ → ℕ → Option ℕ
month_from form year month = cond (form && nat_le 1 year && nat_le 1 month && nat_le month 12) (Some (12 * year + month - 1)) None

month_taken : (form : Bool) (year month : ℕ) → form ≡ true → IsMonthOf year month → month_from form year month ≡ Some (12 * year + month - 1)
month_taken form year month h k =
    cond-true _ _ _ (and_from _ _ (and_from _ _ (and_from _ _ h (le-leb _ _ k.year_low)) (le-leb _ _ k.month_low)) (le-leb _ _ k.month_high))

pub month_joined : (year month : ℕ) → IsMonthOf year month → month_in (month_text year month) ≡ Some (12 * year + month - 1)
month_joined year month k =
    let few : year < 10_000 = omega arith in
    let small : month < 100 = omega arith in
    ap₂ (month_from (has_month_form (month_text year month))) (four_digits_read year few) (two_digits_read month small)
    ∙ month_taken _ year month (month_text_form year month) k

pub month_of_text : (t : List ℕ) (m : ℕ) (s : IsMonthText t m) → IsMonthOf s.year s.month
month_of_text t m s = record { year_low = s.year_in.0; year_high = s.year_in.1; month_low = s.month_in.0; month_high = s.month_in.1 }

pub month_written : (t : List ℕ) (m : ℕ) → IsMonthText t m → month_in t ≡ Some m
month_written t m s = ap month_in s.joined ∙ month_joined s.year s.month (month_of_text t m s) ∙ ap Some (sym s.number)
