-- What is said of each number of a range, one number after the other.
use Rattle.std.proofs.Common.{◌≡◌, ℕ, zero, suc, ◌+◌, List, [], ◌∷◌, ◌++◌, map, arith, sym, ap, ap₂, ◌∙◌}
use Rattle.std.specs.List.{flat_map, range_with_len}
use Rattle.std.proofs.lemmas.List.{append-nil, map-append}
use Rattle.std.proofs.lemmas.List.FromFn.{map-range_with_len_more}
use Rattle.std.proofs.lemmas.Grind.{flat_map-append}

last : (a n j : ℕ) → a + n ≡ j → range_with_len a (suc n) ≡ range_with_len a n ++ j ∷ []
last a zero j e = let same : a ≡ j = omega arith in ap (λ k. k ∷ []) same
last a (suc n) j e = ap (λ l. a ∷ l) (last (a + 1) n j (omega arith))

range_more : (n : ℕ) → range_with_len 0 (n + 1) ≡ range_with_len 0 n ++ n ∷ []
range_more n = let on : n + 1 ≡ suc n = omega arith in ap (range_with_len 0) on ∙ last 0 n n (omega arith)

pub texts_more : (f : ℕ → List ℕ) (n : ℕ) → flat_map f (range_with_len 0 n) ++ f n ≡ flat_map f (range_with_len 0 (n + 1))
texts_more f n =
    ap (λ t. flat_map f (range_with_len 0 n) ++ t) (sym (append-nil (f n)))
    ∙ sym (flat_map-append f (range_with_len 0 n) (n ∷ []))
    ∙ ap (flat_map f) (sym (range_more n))

pub pushed_more : {A B : Type 0} (meaning : A → B) (f : ℕ → B) (xs new : List A) (x : A) (n : ℕ) → new ≡ xs ++ x ∷ [] → meaning x ≡ f (n + 1)
    → map meaning xs ≡ map f (range_with_len 1 n) → map meaning new ≡ map f (range_with_len 1 (n + 1))
pushed_more meaning f xs new x n is here so =
    ap (map meaning) is ∙ map-append meaning xs (x ∷ [])
    ∙ ap₂ (λ ys y. ys ++ y ∷ []) so here
    ∙ sym (map-range_with_len_more f 1 n (n + 1) (omega arith))
