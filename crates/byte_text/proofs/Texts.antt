-- Equal texts, as the definitions and as the library compare them.
use Rattle.std.proofs.Common.{◌≡◌, ℕ, ◌==◌, ◌&&◌, List, [], ◌∷◌, nat_eq, refl, ap}
use Rattle.std.specs.Cmp.Lexicographic.{pointwise}
use Rattle.metering_model.specs.BatchReading.{is_same}

pub same_is : (xs ys : List ℕ) → is_same xs ys ≡ pointwise nat_eq xs ys
same_is [] [] = refl
same_is [] (y ∷ ys) = refl
same_is (x ∷ xs) [] = refl
same_is (x ∷ xs) (y ∷ ys) = ap (λ rest. (x == y) && rest) (same_is xs ys)
