-- Line feeds counted in one part of a text and in the other.
use Rattle.std.proofs.Common.{◌≡◌, ℕ, zero, suc, ◌+◌, ◌≤◌, ◌==◌, cond, List, [], ◌∷◌, length, take, drop, arith}
use Rattle.std.proofs.lemmas.List.Sums.{count_by-le-length, sum_by-cons}
use Rattle.metering_model.specs.Transcript.{line_count}

count_cons : (c : ℕ) (cs : List ℕ) → line_count (c ∷ cs) ≡ cond (c == 10) 1 0 + line_count cs
count_cons c cs = sum_by-cons (λ x. cond (x == 10) 1 0) c cs

pub in_parts : (k : ℕ) (t : List ℕ) → line_count t ≡ line_count (take k t) + line_count (drop k t)
in_parts zero t = omega arith
in_parts (suc k) [] = omega arith
in_parts (suc k) (c ∷ cs) = omega (arith, count_cons c cs, count_cons c (take k cs), in_parts k cs)

pub few : (t : List ℕ) → line_count t ≤ length t
few t = count_by-le-length (λ c. c == 10) t
