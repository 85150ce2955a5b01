-- Where a test passes first in a list of bytes.
use Rattle.std.proofs.Common.{◌≡◌, ℕ, ◌<◌, Bool, true, false, List, Option, Some, None, length, get_or, sym, ap, ◌∙◌, arith}
use Rattle.std.specs.Prelude.{nat_lt}
use Rattle.std.specs.List.{position, position_or_len}
use Rattle.std.proofs.lemmas.Bool.{false_from_ne_true, cond-true, cond-false, lt-ltb, le-ltb}
use Rattle.std.proofs.lemmas.List.Sums.{position_or_len_is}
use Rattle.memchr.specs.Find.{IsFirstByte}

pub position_is : (test : ℕ → Bool) (xs : List ℕ) (k : ℕ) → k < length xs → ((i : ℕ) → i < k → test (get_or xs i 0) ≡ false) → test (get_or xs k 0) ≡ true
    → position test xs ≡ Some k
position_is test xs k within before here =
    let place = position_or_len_is test xs k 0 (omega arith) before (λ _. here) in
    cond-true (nat_lt (position_or_len test xs) (length xs)) (Some (position_or_len test xs)) None (lt-ltb (position_or_len test xs) (length xs) (omega arith)) ∙ ap Some place

pub position_none : (test : ℕ → Bool) (xs : List ℕ) → ((i : ℕ) → i < length xs → test (get_or xs i 0) ≡ false) → position test xs ≡ None
position_none test xs before =
    let place = position_or_len_is test xs (length xs) 0 (omega arith) before (λ within. absurd (omega arith)) in
    cond-false (nat_lt (position_or_len test xs) (length xs)) (Some (position_or_len test xs)) None (le-ltb (position_or_len test xs) (length xs) (omega arith))

pub first_byte : (test : ℕ → Bool) (xs : List ℕ) (r : Option ℕ) → IsFirstByte test xs r → r ≡ position test xs
first_byte test xs None h = sym (position_none test xs (λ i within. false_from_ne_true _ (h i (omega arith) within)))
first_byte test xs (Some k) h = sym (position_is test xs k h.0.high (λ i below. false_from_ne_true _ (h.0.before i (omega arith) below)) h.1)
