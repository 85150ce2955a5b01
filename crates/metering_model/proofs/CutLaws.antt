-- The order of cuts, and a cut with one entry put.
use Rattle.std.proofs.Common.{◌≡◌, ℕ, zero, suc, ◌+◌, ◌<◌, ◌≤◌, [], ◌∷◌, length, slice_index, refl, ap, subst, arith}
use Rattle.std.specs.Prelude.{slice_set}
use Rattle.metering_model.specs.Cut.{Cut, IsAtLeast, zero_cut, last_of}

pub at_least_itself : (c : Cut) → IsAtLeast c c
at_least_itself [] = tt
at_least_itself (x ∷ c) = (omega arith, at_least_itself c)

pub at_least-trans : (c d e : Cut) → IsAtLeast d c → IsAtLeast e d → IsAtLeast e c
at_least-trans [] [] [] h k = tt
at_least-trans [] [] (z ∷ e) h k = absurd k
at_least-trans [] (y ∷ d) e h k = absurd h
at_least-trans (x ∷ c) [] e h k = absurd h
at_least-trans (x ∷ c) (y ∷ d) [] h k = absurd k
at_least-trans (x ∷ c) (y ∷ d) (z ∷ e) h k = (omega (arith, h.0, k.0), at_least-trans c d e h.1 k.1)

pub at_least_zero : (c : Cut) → IsAtLeast c (zero_cut (length c))
at_least_zero [] = tt
at_least_zero (x ∷ c) = (omega arith, at_least_zero c)

-- entry by entry is the same as agent by agent
pub at_least_each : (a b : Cut) → length a ≡ length b → ((agent : ℕ) → last_of a agent ≤ last_of b agent) → IsAtLeast b a
at_least_each [] [] e each = tt
at_least_each [] (y ∷ b) e each = absurd (omega (arith, e))
at_least_each (x ∷ a) [] e each = absurd (omega (arith, e))
at_least_each (x ∷ a) (y ∷ b) e each = (each 1, at_least_each a b (omega (arith, e)) rest)
  where
    rest : (agent : ℕ) → last_of a agent ≤ last_of b agent
    rest zero = omega arith
    rest (suc n) = each (suc (suc n))

index-set : (c : Cut) (i s : ℕ) → i < length c → slice_index (slice_set c i s) i ≡ s
index-set [] i s within = absurd (omega arith)
index-set (x ∷ c) zero s within = refl
index-set (x ∷ c) (suc i) s within = index-set c i s (omega arith)

index-set_other : (c : Cut) (i j s : ℕ) → (j ≡ i → ⊥) → slice_index (slice_set c i s) j ≡ slice_index c j
index-set_other [] i j s other = refl
index-set_other (x ∷ c) zero zero s other = absurd (other refl)
index-set_other (x ∷ c) zero (suc j) s other = refl
index-set_other (x ∷ c) (suc i) zero s other = refl
index-set_other (x ∷ c) (suc i) (suc j) s other = index-set_other c i j s (λ same. other (ap (λ n. suc n) same))

pub last_of-set : (c : Cut) (i s : ℕ) → i < length c → last_of (slice_set c i s) (i + 1) ≡ s
last_of-set c i s within = let next : suc i ≡ i + 1 = omega arith in subst (λ a. last_of (slice_set c i s) a ≡ s) next (index-set c i s within)

pub last_of-set_other : (c : Cut) (i s agent : ℕ) → (agent ≡ i + 1 → ⊥) → last_of (slice_set c i s) agent ≡ last_of c agent
last_of-set_other c i s zero other = refl
last_of-set_other c i s (suc a) other = index-set_other c i a s (λ same. other (omega (arith, same)))
