-- The last of a list that is looked at through a function.
use Rattle.std.proofs.Common.{◌≡◌, suc, ◌-◌, List, [], ◌∷◌, length, map, refl, ap, ◌∙◌, arith, Option, Some, None}
use Rattle.std.specs.Prelude.{slice_get, option_map}
use Rattle.std.specs.List.{last_or}

last_behind : {A B : Type 0} (f : A → B) (o : Option B) (y : A) (xs : List A) → option_map f (slice_get (y ∷ xs) (length (y ∷ xs) - 1)) ≡ last_or o (map f (y ∷ xs))
last_behind f o y [] = refl
last_behind f o y (z ∷ ys) =
    let back : length (y ∷ z ∷ ys) - 1 ≡ suc (length (z ∷ ys) - 1) = omega arith in
    ap (λ k. option_map f (slice_get (y ∷ z ∷ ys) k)) back ∙ last_behind f (Some (f y)) z ys

pub last_seen : {A B : Type 0} (f : A → B) (xs : List A) → option_map f (slice_get xs (length xs - 1)) ≡ last_or None (map f xs)
last_seen f [] = refl
last_seen f (y ∷ xs) = last_behind f None y xs
