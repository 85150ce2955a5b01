-- What the text of a day says, by its month and its last two digits.
use Rattle.std.proofs.Common.{◌≡◌, ℕ, true, false, List, length, take, ap, ◌∙◌, Some, None}
use Rattle.std.specs.Prelude.{slice_index}
use Rattle.std.specs.Option.{option_and_then}
use Rattle.std.proofs.lemmas.Bool.{and_parts, and_from, and_right, cond-true, cond-false, eq-eqb}
use Rattle.std.proofs.lemmas.Option.{cond_some}
use Rattle.metering_model.specs.Dates.{number_at, are_digits, has_month_form, month_in, day_of_month, day_in}

-- a text that names a month has its form
month_form : (t : List ℕ) (m : ℕ) → month_in t ≡ Some m → has_month_form t ≡ true
month_form t m e =
    let all = and_parts _ _ (cond_some _ _ _ e).0 in
    (and_parts _ _ (and_parts _ _ all.0).0).0

pub day_in-month : (t : List ℕ) (m : ℕ) → length t ≡ 10 → slice_index t 7 ≡ 45 → month_in (take 7 t) ≡ Some m → are_digits t 8 2 ≡ true → day_in t ≡ day_of_month (number_at t 8 2) m
day_in-month t m ten dash month digits =
    cond-true _ _ None (and_from _ _ (and_from _ _ (and_from _ _ (eq-eqb _ _ ten) (month_form (take 7 t) m month)) (eq-eqb _ _ dash)) digits)
    ∙ ap (option_and_then (day_of_month (number_at t 8 2))) month

pub day_in-no_digits : (t : List ℕ) → are_digits t 8 2 ≡ false → day_in t ≡ None
day_in-no_digits t digits = cond-false _ _ _ (and_right _ _ digits)
