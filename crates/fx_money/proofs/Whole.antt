-- The digits of a whole number.
use Rattle.std.proofs.Common.{ℕ, ◌^◌, ◌<◌, ◌≤◌, length, arith, decimal}
use Rattle.std.proofs.lemmas.Fmt.{length-decimal-le}

pub length-whole_le : (n : ℕ) → n < 2 ^ 64 → length (decimal n) ≤ 20
length-whole_le n fits = length-decimal-le 20 n (omega arith) (omega arith) fits
