-- The latest of some days, in whatever order they come.
use Rattle.std.proofs.Common.{◌≡◌, List, [], ◌∷◌, ◌++◌, Option, Some, None, ℤ, refl, ap, ◌∙◌, arith}
use Rattle.std.specs.Int.{int_max}
use Rattle.std.proofs.lemmas.Int.{clamps, ints}
use Rattle.fault_lines.specs.Ahead.{later, latest}

-- the later of two is the greater
pub either_first : (d e : ℤ) (o : Option ℤ) → later d (Some (later e o)) ≡ later e (Some (later d o))
either_first d e None = let same : int_max e d ≡ int_max d e = omega (arith, ints, clamps) in same
either_first d e (Some m) = let same : int_max (int_max m e) d ≡ int_max (int_max m d) e = omega (arith, ints, clamps) in same

-- a day that comes behind others
pub moved : (d : ℤ) (xs ys : List ℤ) → latest (d ∷ (xs ++ ys)) ≡ latest (xs ++ d ∷ ys)
moved d [] ys = refl
moved d (x ∷ xs) ys = ap Some (either_first d x (latest (xs ++ ys))) ∙ ap (λ o. Some (later x o)) (moved d xs ys)
