-- More digits make no smaller number.
use Rattle.std.proofs.Common.{◌≡◌, ℕ, ◌+◌, ◌-◌, ◌*◌, ◌<◌, ◌≤◌, List, [], ◌∷◌, length, get_or, take, drop, fold, sym, ap, ◌∙◌, arith}
use Rattle.std.proofs.lemmas.List.{take-append-drop}
use Rattle.std.proofs.lemmas.List.Sums.{fold-append, fold_more}
use Rattle.metering_model.specs.NumberText.{number_of}

grows : (n : ℕ) (ds : List ℕ) → n ≤ fold (λ n c. 10 * n + (c - 48)) n ds
grows n [] = omega arith
grows n (c ∷ cs) = omega (arith, grows (10 * n + (c - 48)) cs)

pub front_within : (ds : List ℕ) (i : ℕ) → number_of (take i ds) ≤ number_of ds
front_within ds i =
    let whole = sym (fold-append (λ n c. 10 * n + (c - 48)) 0 (take i ds) (drop i ds)) ∙ ap number_of (take-append-drop i ds) in
    omega (arith, grows (number_of (take i ds)) (drop i ds), whole)

-- one digit more
pub front_more : (ds : List ℕ) (i : ℕ) → i < length ds → number_of (take (i + 1) ds) ≡ 10 * number_of (take i ds) + (get_or ds i 0 - 48)
front_more ds i h = fold_more (λ n c. 10 * n + (c - 48)) 0 ds i 0 h
