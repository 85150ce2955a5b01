-- Sums of whole numbers over lists.
use Rattle.std.proofs.Common.{◌≡◌, ℕ, zero, suc, Bool, cond, List, [], ◌∷◌, ◌++◌, map, filter, fold, Option, Some, None, ℤ, pos, ◌+ℤ◌, ◌-ℤ◌, ◌*ℤ◌, refl, sym, ap, ap₂, ◌∙◌, arith, inl, inr}
use Rattle.std.specs.List.{filter_map, cons_option}
use Rattle.std.proofs.lemmas.Bool.{cases_Bool, cond-true, cond-false}
use Rattle.std.proofs.lemmas.Int.{ints}
use Rattle.std.proofs.Math.IntN.{zero-*ℤ, suc_ℤ-*ℤ}
use Rattle.metering_model.specs.Totals.{sum_of}

-- the same sum, from the front
abbrev pub sum_over : {A : Type 0} → (A → ℤ) → List A → ℤ
sum_over f [] = pos 0
sum_over f (x ∷ xs) = f x +ℤ sum_over f xs

pub fold_sum : {A : Type 0} (f : A → ℤ) (a : ℤ) (xs : List A) → fold (λ sum x. sum +ℤ f x) a xs ≡ a +ℤ sum_over f xs
fold_sum f a [] = omega (arith, ints)
fold_sum f a (x ∷ xs) = fold_sum f (a +ℤ f x) xs ∙ omega (arith, ints)

pub sum_of_is : {A : Type 0} (f : A → ℤ) (xs : List A) → sum_of f xs ≡ sum_over f xs
sum_of_is f xs = fold_sum f (pos 0) xs ∙ omega (arith, ints)

pub sum-append : {A : Type 0} (f : A → ℤ) (xs ys : List A) → sum_over f (xs ++ ys) ≡ sum_over f xs +ℤ sum_over f ys
sum-append f [] ys = omega (arith, ints)
sum-append f (x ∷ xs) ys = let rest = sum-append f xs ys in omega (arith, ints)

-- the same amounts have the same sum
pub sum_same : {A : Type 0} (f g : A → ℤ) → ((x : A) → f x ≡ g x) → (xs : List A) → sum_over f xs ≡ sum_over g xs
sum_same f g e [] = refl
sum_same f g e (x ∷ xs) = let rest = sum_same f g e xs in let here = e x in omega (arith, ints)

-- sums add up
pub sum_plus : {A : Type 0} (f g : A → ℤ) (xs : List A) → sum_over f xs +ℤ sum_over g xs ≡ sum_over (λ x. f x +ℤ g x) xs
sum_plus f g [] = refl
sum_plus f g (x ∷ xs) = let rest = sum_plus f g xs in omega (arith, ints)

pub sum_nothing : {A : Type 0} (xs : List A) → sum_over (λ (x : A). pos 0) xs ≡ pos 0
sum_nothing [] = refl
sum_nothing (x ∷ xs) = let rest = sum_nothing xs in omega (arith, ints)

pub sum-map : {A B : Type 0} (f : B → ℤ) (g : A → B) (xs : List A) → sum_over f (map g xs) ≡ sum_over (λ x. f (g x)) xs
sum-map f g [] = refl
sum-map f g (x ∷ xs) = let rest = sum-map f g xs in omega (arith, ints)

-- what a filter leaves out counts as 0
pub sum-filter : {A : Type 0} (f : A → ℤ) (p : A → Bool) (xs : List A) → sum_over f (filter p xs) ≡ sum_over (λ x. cond (p x) (f x) (pos 0)) xs
sum-filter f p [] = refl
sum-filter f p (x ∷ xs) =
    let rest = sum-filter f p xs in
    let behind = sum_over (λ y. cond (p y) (f y) (pos 0)) xs in
    elim (cases_Bool (p x)) [
      | inl t ↦ ap (sum_over f) (cond-true (p x) (x ∷ filter p xs) (filter p xs) t) ∙ (ap (λ s. f x +ℤ s) rest ∙ sym (ap (λ v. v +ℤ behind) (cond-true (p x) (f x) (pos 0) t)))
      | inr t ↦ ap (sum_over f) (cond-false (p x) (x ∷ filter p xs) (filter p xs) t) ∙ (rest ∙ (omega (arith, ints) ∙ sym (ap (λ v. v +ℤ behind) (cond-false (p x) (f x) (pos 0) t))))
    ]

abbrev pub of_option : {A : Type 0} → (A → ℤ) → Option A → ℤ
of_option f None = pos 0
of_option f (Some x) = f x

sum-cons_option : {A : Type 0} (f : A → ℤ) (o : Option A) (xs : List A) → sum_over f (cons_option o xs) ≡ of_option f o +ℤ sum_over f xs
sum-cons_option f None xs = omega (arith, ints)
sum-cons_option f (Some x) xs = refl

pub sum-filter_map : {A B : Type 0} (f : B → ℤ) (g : A → Option B) (xs : List A) → sum_over f (filter_map g xs) ≡ sum_over (λ x. of_option f (g x)) xs
sum-filter_map f g [] = refl
sum-filter_map f g (x ∷ xs) =
    let rest = sum-filter_map f g xs in
    sum-cons_option f (g x) (filter_map g xs) ∙ ap (λ s. of_option f (g x) +ℤ s) rest

-- what a product with a fixed factor adds
pub times_minus : (p : ℕ) (a b : ℤ) → pos p *ℤ (a -ℤ b) ≡ (pos p *ℤ a) -ℤ (pos p *ℤ b)
times_minus zero a b = zero-*ℤ (a -ℤ b) ∙ (omega (arith, ints) ∙ sym (ap₂ ◌-ℤ◌ (zero-*ℤ a) (zero-*ℤ b)))
times_minus (suc p) a b =
    let rest = times_minus p a b in
    let both : pos (suc p) *ℤ (a -ℤ b) ≡ (pos p *ℤ (a -ℤ b)) +ℤ (a -ℤ b) = suc_ℤ-*ℤ (pos p) (a -ℤ b) in
    let left : pos (suc p) *ℤ a ≡ (pos p *ℤ a) +ℤ a = suc_ℤ-*ℤ (pos p) a in
    let right : pos (suc p) *ℤ b ≡ (pos p *ℤ b) +ℤ b = suc_ℤ-*ℤ (pos p) b in
    omega (arith, ints)
