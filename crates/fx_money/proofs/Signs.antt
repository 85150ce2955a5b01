-- The sign of a value, and that a value that is read is within its limit.
use Rattle.std.proofs.Common.{◌≡◌, ℕ, ◌-◌, ◌<◌, List, length, get_or, take, drop, cond, ap, sym, ◌∙◌, arith, Option, Some, None, Ok, ℤ, unsigned_abs}
use Rattle.std.proofs.lemmas.List.{take_rest}
use Rattle.std.proofs.lemmas.Bool.{eq-eqb}
use Rattle.std.proofs.lemmas.Bool.Decides.{nat_tests}
use Rattle.metering_model.specs.NumberText.{magnitude_in, number_in, negated, not_negated, value_limit, value_within, value_in}

-- a text that begins with a minus is what stands behind it, negated
pub value_behind_minus : (t : List ℕ) → get_or t 0 0 ≡ 45 → value_within (negated (magnitude_in 6 (take (length t - 1) (drop 1 t)))) ≡ value_in t
value_behind_minus t minus =
    ap (λ body. value_within (negated (magnitude_in 6 body))) (take_rest t 1)
    ∙ sym (ap (λ b. value_within (cond b (negated (magnitude_in 6 (drop 1 t))) (not_negated (magnitude_in 6 t)))) (eq-eqb _ _ minus))

within_limit : (o : Option ℤ) (n : ℤ) → Ok n ≡ value_within o → unsigned_abs n < value_limit
within_limit None n e = cc
within_limit (Some m) n e = grind (arith, nat_tests)

pub value_in-within : (t : List ℕ) (n : ℤ) → Ok n ≡ value_in t → unsigned_abs n < value_limit
value_in-within t n e = within_limit (number_in 6 t) n e
