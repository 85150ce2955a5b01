-- What stands before and after the first place of a byte.
use Rattle.std.proofs.Common.{◌≡◌, ℕ, suc, ◌+◌, Bool, true, false, not, ◌||◌, cond, List, [], ◌∷◌, ◌++◌, take, drop, refl, sym, ap, ap₂, ◌∙◌, arith, eq-eqb, eqb-true, one-add}
use Rattle.std.specs.Prelude.{◌==◌}
use Rattle.std.specs.List.{list_any, position_or_len, before_first, after_first}
use Rattle.std.proofs.lemmas.Bool.{and_parts, and_from, not-true, not_from_false, false≢true}
use Rattle.metering_model.specs.Batch.{lacks}

-- what stands before the first place of the byte, what stands after it, and whether there is one
abbrev pub before : ℕ → List ℕ → List ℕ
before c t = before_first (λ x. x == c) t

abbrev pub after : ℕ → List ℕ → List ℕ
after c t = after_first (λ x. x == c) t

abbrev pub has : ℕ → List ℕ → Bool
has c t = list_any (λ x. x == c) t

-- the first place of the byte, or the length
abbrev place : ℕ → List ℕ → ℕ
place c t = position_or_len (λ x. x == c) t

-- ---- before and after, at a head that is the byte and at one that is not

before_hit : (c x : ℕ) (xs : List ℕ) → (x == c) ≡ true → before c (x ∷ xs) ≡ []
before_hit c x xs e = ap (λ b. take (cond (not b) (1 + place c xs) 0) (x ∷ xs)) e

before_miss : (c x : ℕ) (xs : List ℕ) → (x == c) ≡ false → before c (x ∷ xs) ≡ x ∷ before c xs
before_miss c x xs e =
    ap (λ b. take (cond (not b) (1 + place c xs) 0) (x ∷ xs)) e ∙ ap (λ n. take n (x ∷ xs)) (one-add (place c xs))

after_hit : (c x : ℕ) (xs : List ℕ) → (x == c) ≡ true → after c (x ∷ xs) ≡ xs
after_hit c x xs e = ap (λ b. drop (cond (not b) (1 + place c xs) 0 + 1) (x ∷ xs)) e

after_miss : (c x : ℕ) (xs : List ℕ) → (x == c) ≡ false → after c (x ∷ xs) ≡ after c xs
after_miss c x xs e =
    let next : 1 + place c xs + 1 ≡ suc (place c xs + 1) = omega arith in
    ap (λ b. drop (cond (not b) (1 + place c xs) 0 + 1) (x ∷ xs)) e ∙ ap (λ n. drop n (x ∷ xs)) next

-- ---- a text that has the byte

-- is what stands before it, the byte, and what stands after it
pub split_back : (c : ℕ) (t : List ℕ) → has c t ≡ true → t ≡ before c t ++ c ∷ after c t
split_back c [] h = absurd (false≢true h)
split_back c (x ∷ xs) h = cases (x == c) refl (split_back c xs)
  where
    cases : (b : Bool) → (x == c) ≡ b → (has c xs ≡ true → xs ≡ before c xs ++ c ∷ after c xs) → x ∷ xs ≡ before c (x ∷ xs) ++ c ∷ after c (x ∷ xs)
    cases true e rest =
        ap (λ y. y ∷ xs) (eqb-true x c e) ∙ ap₂ (λ b a. b ++ c ∷ a) (sym (before_hit c x xs e)) (sym (after_hit c x xs e))
    cases false e rest =
        ap (λ t. x ∷ t) (rest (sym (ap (λ b. b || has c xs) e) ∙ h))
        ∙ ap₂ (λ b a. b ++ c ∷ a) (sym (before_miss c x xs e)) (sym (after_miss c x xs e))

-- the byte does not stand before its first place
pub before_lacks : (c : ℕ) (t : List ℕ) → lacks c (before c t) ≡ true
before_lacks c [] = refl
before_lacks c (x ∷ xs) = cases (x == c) refl (before_lacks c xs)
  where
    cases : (b : Bool) → (x == c) ≡ b → lacks c (before c xs) ≡ true → lacks c (before c (x ∷ xs)) ≡ true
    cases true e rest = ap (lacks c) (before_hit c x xs e)
    cases false e rest = ap (lacks c) (before_miss c x xs e) ∙ and_from _ _ (not_from_false _ e) rest

-- ---- a text that is put together at the byte, which its first half lacks

pub before_join : (c : ℕ) (s t : List ℕ) → lacks c s ≡ true → before c (s ++ c ∷ t) ≡ s
before_join c [] t h = before_hit c c t (eq-eqb c c refl)
before_join c (x ∷ xs) t h =
    let both = and_parts (not (x == c)) (lacks c xs) h in
    before_miss c x (xs ++ c ∷ t) (not-true _ both.0) ∙ ap (λ b. x ∷ b) (before_join c xs t both.1)

pub after_join : (c : ℕ) (s t : List ℕ) → lacks c s ≡ true → after c (s ++ c ∷ t) ≡ t
after_join c [] t h = after_hit c c t (eq-eqb c c refl)
after_join c (x ∷ xs) t h =
    let both = and_parts (not (x == c)) (lacks c xs) h in
    after_miss c x (xs ++ c ∷ t) (not-true _ both.0) ∙ after_join c xs t both.1

pub has_join : (c : ℕ) (s t : List ℕ) → lacks c s ≡ true → has c (s ++ c ∷ t) ≡ true
has_join c [] t h = ap (λ b. b || has c t) (eq-eqb c c refl)
has_join c (x ∷ xs) t h =
    let both = and_parts (not (x == c)) (lacks c xs) h in
    ap (λ b. b || has c (xs ++ c ∷ t)) (not-true _ both.0) ∙ has_join c xs t both.1
