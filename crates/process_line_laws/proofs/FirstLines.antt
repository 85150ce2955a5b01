-- The first line of a text that begins with a word begins with that word.
use Rattle.std.proofs.Common.{◌≡◌, ℕ, Bool, true, false, not, List, [], ◌∷◌, ◌++◌, refl, sym, ap, ◌∙◌}
use Rattle.std.specs.Prelude.{◌==◌, if◌then◌else◌}
use Rattle.std.specs.List.{onto_first, slice_split}
use Rattle.std.proofs.lemmas.Bool.{and_parts}
use Rattle.metering_model.specs.Batch.{lacks}
use Rattle.metering_model.specs.BatchReading.{lines_in, lines_of_parts}

-- a byte that is no line feed stands before the first line
before_first : (c : ℕ) (t : List ℕ) → not (c == 10) ≡ true → lines_in (c ∷ t) ≡ lines_of_parts (onto_first c (slice_split (λ x. x == 10) t))
before_first c t other = by_test (c == 10) other
  where
    by_test : (b : Bool) → not b ≡ true
        → lines_of_parts (if b then [] ∷ slice_split (λ x. x == 10) t else onto_first c (slice_split (λ x. x == 10) t))
        ≡ lines_of_parts (onto_first c (slice_split (λ x. x == 10) t))
    by_test false other = refl
    by_test true other = absurd (cc)

pub first_begins : (word t l : List ℕ) (ls : List (List ℕ)) → lacks 10 word ≡ true → (lines_in (word ++ t)).lines ≡ l ∷ ls
    → (more : List ℕ) × (l ≡ word ++ more)
first_begins [] t l ls whole is = (l, refl)
first_begins (c ∷ word) t l ls whole is =
    by_parts (slice_split (λ x. x == 10) (word ++ t))
    (λ p ps e. first_begins word t p ps (and_parts (not (c == 10)) (lacks 10 word) whole).1 e)
    (ap (λ x. x.lines) (sym (before_first c (word ++ t) (and_parts (not (c == 10)) (lacks 10 word) whole).0)) ∙ is)
  where
    by_parts : (ps : List (List ℕ))
        → ((p : List ℕ) (qs : List (List ℕ)) → (lines_of_parts ps).lines ≡ p ∷ qs → (more : List ℕ) × (p ≡ word ++ more))
        → (lines_of_parts (onto_first c ps)).lines ≡ l ∷ ls → (more : List ℕ) × (l ≡ (c ∷ word) ++ more)
    by_parts [] later e = absurd (cc)
    by_parts (p ∷ []) later e = absurd (cc)
    by_parts (p ∷ q ∷ qs) later e =
        let rest = later p (lines_of_parts (q ∷ qs)).lines refl in
        let first : c ∷ p ≡ l = cc in
        (rest.0, sym first ∙ ap (λ t. c ∷ t) rest.1)
