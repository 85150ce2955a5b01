-- The bits of a number as marks of nodes.
use Rattle.std.proofs.Common.{◌≡◌, ℕ, zero, suc, ◌/◌, ◌%◌, ◌^◌, ◌<◌, true, false, cond, ◌==◌, ◌∷◌, length, set, refl, bit_or, count_ones, count_by, arith}
use Rattle.std.proofs.lemmas.Nat.{or_shr, or_mod}
use mathlib.Core.Path.{ap, ap₂, ◌∙◌}
use lib.Bits.{or_step, or_zero_r}
use lib.Count.{ones_step, ones-le}
use native.Mathlib.Nat.{pow-suc}
use Rattle.std.proofs.lemmas.List.Sums.{sum_by-cons}
use Rattle.metering_model.specs.Ballot.{nobody}
use Rattle.paxos_ballot.specs.Inner.NodeMarks.{marks_of}

pub length-marks_of : (nodes bits : ℕ) → length (marks_of nodes bits) ≡ nodes
length-marks_of zero bits = refl
length-marks_of (suc nodes) bits = ap suc (length-marks_of nodes (bits / 2))

pub marks_of-zero : (nodes : ℕ) → marks_of nodes 0 ≡ nobody nodes
marks_of-zero zero = refl
marks_of-zero (suc nodes) = ap (λ marks. false ∷ marks) (marks_of-zero nodes)

-- the lowest bit is set, and the others stay
or_one : (bits : ℕ) → (bit_or bits 1 % 2 ≡ 1) × (bit_or bits 1 / 2 ≡ bits / 2)
or_one bits = let step = or_step bits 1 in let high = or_zero_r (bits / 2) in (omega arith, omega arith)

-- a higher bit leaves the lowest one
or_higher : (bits i : ℕ) → (bit_or bits (2 ^ suc i) % 2 ≡ bits % 2) × (bit_or bits (2 ^ suc i) / 2 ≡ bit_or (bits / 2) (2 ^ i))
or_higher bits i =
    let half : 2 ^ suc i / 2 ≡ 2 ^ i = omega (arith, pow-suc 2 i) in
    let even : 2 ^ suc i % 2 ≡ 0 = omega (arith, pow-suc 2 i) in
    let low = or_mod bits (2 ^ suc i) 1 in
    let high = or_shr bits (2 ^ suc i) 1 in
    (low ∙ ap (λ b. bit_or (bits % 2) b) even ∙ or_zero_r (bits % 2), high ∙ ap (λ b. bit_or (bits / 2) b) half)

pub marks_of-or : (nodes bits i : ℕ) → i < nodes → marks_of nodes (bit_or bits (2 ^ i)) ≡ set (marks_of nodes bits) i true
marks_of-or zero bits i within = absurd (omega arith)
marks_of-or (suc nodes) bits zero within =
    let one = or_one bits in ap₂ (λ low high. (low == 1) ∷ marks_of nodes high) one.0 one.1
marks_of-or (suc nodes) bits (suc i) within =
    let higher = or_higher bits i in
    ap₂ (λ low high. (low == 1) ∷ marks_of nodes high) higher.0 higher.1 ∙ ap (λ marks. (bits % 2 == 1) ∷ marks) (marks_of-or nodes (bits / 2) i (omega arith))

lowest : (bits : ℕ) → cond (bits % 2 == 1) 1 0 ≡ bits % 2
lowest bits = grind arith

pub ones-marks_of : (nodes bits : ℕ) → bits < 2 ^ nodes → count_ones bits ≡ count_by (λ marked. marked) (marks_of nodes bits)
ones-marks_of zero bits within = omega (arith, ones-le 0 bits within)
ones-marks_of (suc nodes) bits within =
    let rest = ones-marks_of nodes (bits / 2) (omega (arith, pow-suc 2 nodes)) in
    let counted = sum_by-cons (λ marked. cond marked 1 0) (bits % 2 == 1) (marks_of nodes (bits / 2)) in
    omega (arith, ones_step bits, lowest bits)
