-- What a search for the first point says of the parts round it.
use Rattle.std.proofs.Common.{◌≡◌, ℕ, ◌+◌, ◌-◌, ◌≤◌, Bool, List, [], length, take, drop, sym, ap, ◌∙◌, arith, Some, None}
use Rattle.std.specs.List.{position, position_or_len, before_first, after_first}
use Rattle.std.proofs.lemmas.List.{drop_all, take_rest}
use Rattle.std.proofs.lemmas.Option.{cond_some}
use Rattle.std.proofs.lemmas.Bool.Decides.{nat_tests}
use Rattle.std.proofs.lemmas.Grind.{common_steps}

module _ (p : ℕ → Bool) where
  found_at : (xs : List ℕ) (i : ℕ) → position p xs ≡ Some i → position_or_len p xs ≡ i
  found_at xs i e = (cond_some _ _ _ e).1

  found_nowhere : (xs : List ℕ) → position p xs ≡ None → length xs ≤ position_or_len p xs
  found_nowhere xs e = grind (arith, nat_tests)

  pub before_place : (xs : List ℕ) (i : ℕ) → position p xs ≡ Some i → take i xs ≡ before_first p xs
  before_place xs i e = ap (λ k. take k xs) (sym (found_at xs i e))

  pub behind_place : (xs : List ℕ) (i : ℕ) → position p xs ≡ Some i → take (length xs - (i + 1)) (drop (i + 1) xs) ≡ after_first p xs
  behind_place xs i e = take_rest xs (i + 1) ∙ ap (λ k. drop (k + 1) xs) (sym (found_at xs i e))

  pub before_none : (xs : List ℕ) → position p xs ≡ None → xs ≡ before_first p xs
  before_none xs e = let far = found_nowhere xs e in grind (arith, common_steps, far)

  pub behind_none : (xs : List ℕ) → position p xs ≡ None → [] ≡ after_first p xs
  behind_none xs e = sym (drop_all _ xs (omega (arith, found_nowhere xs e)))
