-- A text is split at the first element that passes a test, if there is one.
use Rattle.std.proofs.Common.{◌≡◌, ℕ, ◌+◌, ◌<◌, Bool, false, List, [], ◌∷◌, length, take, drop, Some, None, sym, subst, ◌∙◌, inl, inr, arith}
use Rattle.std.specs.Prelude.{nat_lt}
use Rattle.std.specs.List.{slice_split, position, position_or_len}
use Rattle.std.proofs.lemmas.Bool.{ltb-true, lt-ltb, cases_lt, cond-true}
use Rattle.std.proofs.lemmas.List.Elements.{All-from_get_or}
use Rattle.std.proofs.lemmas.List.Splits.{slice_split_first, slice_split_none}
use Rattle.std.proofs.lemmas.List.Sums.{fails_before_first}
use Rattle.std.proofs.lemmas.Option.{cond_some, none-some}

-- what stands before the first such element, and what stands behind it
pub split_at : {X : Type 0} (p : X → Bool) (xs : List X) (i : ℕ) (d : X) → position p xs ≡ Some i → (i < length xs) × (slice_split p xs ≡ take i xs ∷ slice_split p (drop (i + 1) xs))
split_at p xs i d found =
    let place = cond_some (nat_lt (position_or_len p xs) (length xs)) (position_or_len p xs) i found in
    let within : position_or_len p xs < length xs = ltb-true (position_or_len p xs) (length xs) place.0 in
    (omega (arith, place.1), subst (λ (n : ℕ). slice_split p xs ≡ take n xs ∷ slice_split p (drop (n + 1) xs)) place.1 (slice_split_first p xs d within))

pub split_nowhere : {X : Type 0} (p : X → Bool) (xs : List X) (d : X) → position p xs ≡ None → slice_split p xs ≡ xs ∷ []
split_nowhere p xs d none =
    slice_split_none p xs (All-from_get_or (λ x. p x ≡ false) xs d (λ i within. elim (cases_lt (position_or_len p xs) (length xs)) [
      | inl first ↦ absurd (none-some (position_or_len p xs) (sym none ∙ cond-true (nat_lt (position_or_len p xs) (length xs)) (Some (position_or_len p xs)) None (lt-ltb (position_or_len p xs) (length xs) first)))
      | inr past ↦ fails_before_first p xs i d (omega arith)
    ]))
