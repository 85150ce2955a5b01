-- Elements of lists by their place.
use Rattle.std.proofs.Common.{◌≡◌, ℕ, zero, suc, ◌+◌, ◌<◌, List, [], ◌∷◌, length, map, drop, get_or, arith, refl, sym, ap, subst, ◌∙◌, inl, inr, Some, drop-cons, add-one, IsTrue, false}
use Rattle.std.specs.Prelude.{slice_get}
use Rattle.std.specs.Option.{option_map}
use Rattle.std.proofs.lemmas.Bool.{cases_lt}
use Rattle.std.proofs.lemmas.Option.{same_Some, slice_get_within, slice_get_read, slice_get-map, get_or_from_slice_get}

-- a test that failed did not hold
pub no_false : {A : Type 0} → IsTrue false → A
no_false t = absurd (cc)

pub drop_at : {X : Type 0} (xs : List X) (k : ℕ) (x : X) → slice_get xs k ≡ Some x → drop k xs ≡ x ∷ drop (k + 1) xs
drop_at xs k x e =
    drop-cons xs k x (slice_get_within xs k x e)
    ∙ (ap (λ y. y ∷ drop (suc k) xs) (get_or_from_slice_get xs k x x e) ∙ ap (λ j. x ∷ drop j xs) (sym (add-one k)))

pub first_of_drop : {X : Type 0} (xs ys : List X) (k : ℕ) (x : X) → drop k xs ≡ x ∷ ys → slice_get xs k ≡ Some x
first_of_drop [] ys zero x e = absurd (cc)
first_of_drop [] ys (suc k) x e = absurd (cc)
first_of_drop (z ∷ xs) ys zero x e = cc
first_of_drop (z ∷ xs) ys (suc k) x e = first_of_drop xs ys k x e

-- the element at an index, by its meaning
pub item_at : {A B : Type 0} (meaning : A → B) (xs : List A) (i : ℕ) (x : A) → i < length xs → x ≡ get_or xs i x → slice_get (map meaning xs) i ≡ Some (meaning x)
item_at meaning xs i x lt is = slice_get-map meaning xs i ∙ ap (option_map meaning) (slice_get_read xs (length xs) i x refl lt is)

-- what holds of each element below an index, and of the one there
pub each_more : {A : Type 0} (P : ℕ → A → Type 0) (xs : List A) (i : ℕ) (x : A) → slice_get xs i ≡ Some x → P i x
    → ((k : ℕ) (y : A) → k < i → slice_get xs k ≡ Some y → P k y) → (k : ℕ) (y : A) → k < i + 1 → slice_get xs k ≡ Some y → P k y
each_more P xs i x at here below k y lt is = elim (cases_lt k i) [
  | inl less ↦ below k y less is
  | inr over ↦
      let same : i ≡ k = omega (arith, lt, over) in
      let z : x ≡ y = same_Some x y (sym at ∙ (ap (slice_get xs) same ∙ is)) in
      subst (λ j. P j y) same (subst (P i) z here)
]

pub each_all : {A : Type 0} (P : ℕ → A → Type 0) (xs : List A) (i : ℕ) → i ≡ length xs
    → ((k : ℕ) (y : A) → k < i → slice_get xs k ≡ Some y → P k y) → (k : ℕ) (y : A) → slice_get xs k ≡ Some y → P k y
each_all P xs i end below k y is = let lt = slice_get_within xs k y is in below k y (omega (arith, lt, end)) is
