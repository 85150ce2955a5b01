-- Two lists of one length, compared place by place.
use Rattle.std.proofs.Common.{◌≡◌, ℕ, ◌≤◌, Decides, List, [], ◌∷◌, length, refl, ap₂, leb, arith}
use Rattle.std.specs.List.{AllZip, list_all, zip}
use Rattle.std.proofs.lemmas.Bool.Decides.{Decides-and, nat_tests}

Decides-leb : (a b : ℕ) → Decides (leb a b) (a ≤ b)
Decides-leb a b = grind (arith, nat_tests)

-- that no place has less than the other list there, as a test of the pairs
pub Decides-pairs : (news olds : List ℕ) → length news ≡ length olds → Decides (list_all (λ p. leb p.1 p.0) (zip news olds)) (AllZip (λ a b. a ≤ b) olds news)
Decides-pairs [] [] same = (λ _. tt, λ _. refl)
Decides-pairs [] (old ∷ olds) same = absurd (omega arith)
Decides-pairs (new ∷ news) [] same = absurd (omega arith)
Decides-pairs (new ∷ news) (old ∷ olds) same =
    Decides-and _ _ (Decides-leb old new) (Decides-pairs news olds (omega arith))

-- ---- the order of cuts

pub at_least_itself : (a : List ℕ) → AllZip (λ x y. x ≤ y) a a
at_least_itself [] = tt
at_least_itself (x ∷ xs) = (omega arith, at_least_itself xs)

pub at_least_onward : (a b c : List ℕ) → AllZip (λ x y. x ≤ y) b a → AllZip (λ x y. x ≤ y) c b → AllZip (λ x y. x ≤ y) c a
at_least_onward [] [] [] h k = tt
at_least_onward [] [] (z ∷ zs) h k = absurd k
at_least_onward [] (y ∷ ys) c h k = absurd h
at_least_onward (x ∷ xs) [] c h k = absurd h
at_least_onward (x ∷ xs) (y ∷ ys) [] h k = absurd k
at_least_onward (x ∷ xs) (y ∷ ys) (z ∷ zs) h k = (omega (arith, h.0, k.0), at_least_onward xs ys zs h.1 k.1)

pub at_least_both : (a b : List ℕ) → AllZip (λ x y. x ≤ y) b a → AllZip (λ x y. x ≤ y) a b → a ≡ b
at_least_both [] [] h k = refl
at_least_both [] (y ∷ ys) h k = absurd h
at_least_both (x ∷ xs) [] h k = absurd h
at_least_both (x ∷ xs) (y ∷ ys) h k = ap₂ (λ z zs. z ∷ zs) (omega (arith, h.0, k.0)) (at_least_both xs ys h.1 k.1)
