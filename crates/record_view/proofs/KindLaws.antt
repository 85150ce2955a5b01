-- The letter of a kind is one byte.
use Rattle.std.proofs.Common.{◌≡◌, ℕ, ◌≤◌, ◌&&◌, Bool, true, false, None, List, [], ◌∷◌, length, refl, arith, codes, ◌==◌}
use Rattle.metering_model.specs.BatchReading.{kind_in, is_same}

not_both : (b : Bool) → (b && false) ≡ false
not_both true = refl
not_both false = refl

pub long_letter : (t : List ℕ) → 2 ≤ length t → kind_in t ≡ None
long_letter [] h = absurd (omega arith)
long_letter (c ∷ []) h = absurd (omega arith)
long_letter (c ∷ d ∷ ds) h = simp not_both

pub long_amendment : (t : List ℕ) → 2 ≤ length t → is_same t (codes "X") ≡ false
long_amendment [] h = absurd (omega arith)
long_amendment (c ∷ []) h = absurd (omega arith)
long_amendment (c ∷ d ∷ ds) h = not_both (c == 88)
