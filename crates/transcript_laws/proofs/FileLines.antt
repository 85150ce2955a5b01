-- No line of a file begins with the letter e, as the line above it does: its header line is of words, and a row's line begins
-- with the number that the row bills.
use Rattle.std.proofs.Common.{◌≡◌, ℕ, ◌/◌, ◌%◌, ◌^◌, Bool, true, false, not, ◌||◌, List, [], ◌∷◌, ◌++◌, map, refl, unsigned_abs, ℤ, decimal, arith}
use Rattle.std.specs.Prelude.{◌==◌}
use Rattle.std.specs.Int.{is_negative}
use Rattle.std.specs.List.{list_all, list_any}
use Rattle.std.proofs.lemmas.Bool.{and_parts, and_from, cond_both, not_from_false}
use Rattle.std.proofs.lemmas.Bool.Decides.{nat_tests}
use Rattle.metering_model.specs.NumberText.{is_digit, sign_text, point_text, decimals_of, spelling}
use Rattle.metering_model.specs.Row.{Row}
use Rattle.metering_model.specs.File.{header_line, marked, quoted}
use Rattle.metering_model.specs.Schedule.{TextLines}
use Rattle.row_laws.specs.Columns.{line_of_row}
use Rattle.transcript_laws.proofs.TextLaws.{begins_with, begins_not}
use Rattle.metering_model.proofs.Decimals.{decimal_is_digits}

-- the letter e, with which only the line above a file begins
abbrev pub begins_with_e : List ℕ → Bool
begins_with_e t = begins_with 101 t

-- none of these lines begins with it
abbrev pub are_plain : TextLines → Bool
are_plain ls = list_all (λ l. not (begins_with_e l)) ls

digit_is_no_e : (c : ℕ) → is_digit c ≡ true → (c == 101) ≡ false
digit_is_no_e c h = grind (arith, nat_tests)

pub digits_begin : (t : List ℕ) → list_all is_digit t ≡ true → begins_with_e t ≡ false
digits_begin [] h = refl
digits_begin (c ∷ cs) h = digit_is_no_e c (and_parts (is_digit c) (list_all is_digit cs) h).0

sign_begins : (minus : Bool) → begins_with_e (sign_text minus) ≡ false
sign_begins true = refl
sign_begins false = refl

point_begins : (ds : List ℕ) → begins_with_e (point_text ds) ≡ false
point_begins [] = refl
point_begins (d ∷ ds) = refl

spelling_begins : (places : ℕ) (n : ℤ) → begins_with_e (spelling places n) ≡ false
spelling_begins places n =
    let whole = decimal (unsigned_abs n / 10 ^ places) in
    begins_not 101 (sign_text (is_negative n) ++ whole) (point_text (decimals_of places (unsigned_abs n % 10 ^ places)))
    (begins_not 101 (sign_text (is_negative n)) whole (sign_begins (is_negative n)) (digits_begin whole (decimal_is_digits (unsigned_abs n / 10 ^ places))))
    (point_begins (decimals_of places (unsigned_abs n % 10 ^ places)))

quoted_begins : (t : List ℕ) → begins_with_e t ≡ false → begins_with_e (quoted t) ≡ false
quoted_begins t h =
    cond_both (list_any (λ c. (c == 44) || (c == 34) || (c == 13) || (c == 10)) t) (34 ∷ marked (λ c. c == 34) 34 t ++ 34 ∷ []) t (λ s. begins_with_e s ≡ false)
    (λ _. refl) (λ _. h)

-- a row's line
row_begins : (r : Row) → begins_with_e (line_of_row r) ≡ false
row_begins r =
    let first = quoted (spelling 12 r.billed_cost) in
    begins_not 101 first _ (quoted_begins (spelling 12 r.billed_cost) (spelling_begins 12 r.billed_cost)) refl

rows_plain : (xs : List Row) → are_plain (map line_of_row xs) ≡ true
rows_plain [] = refl
rows_plain (x ∷ xs) = and_from _ _ (not_from_false _ (row_begins x)) (rows_plain xs)

-- the lines of a file
pub file_plain : (xs : List Row) → are_plain (header_line ∷ map line_of_row xs) ≡ true
file_plain xs = and_from _ _ refl (rows_plain xs)
