-- Two texts compared some bytes at a time.
use Rattle.std.proofs.Common.{◌≡◌, ℕ, ◌+◌, ◌-◌, ◌*◌, ◌%◌, ◌^◌, ◌≤◌, Bool, eqb, cond, not, nat_eq, List, [], ◌∷◌, ◌++◌, map, length, take, drop, refl, sym, ap, ◌∙◌, arith, length-drop, inl, inr}
use Rattle.std.specs.Prelude.{◌≢◌, ◌↔◌, IsTrue, true, false}
use Rattle.std.proofs.lemmas.Bool.{and_from, cases_Bool, cases_eq, false≢true, eqb-true, eq-eqb, ne_eqb}
use Rattle.std.proofs.lemmas.List.{take_all, take-append-drop, drop-drop}
use Rattle.std.proofs.lemmas.Simd.{length-chunk, mask_l-mod, length-zip2, tops_compared}
use Rattle.metering_model.specs.BatchReading.{is_same}
use Rattle.metering_model.proofs.FieldLaws.{same_read}
use lib.Lanes.{zip2, mask_l, top}
use mir.Syntax.{w8}

-- a mark as a number
abbrev bit : Bool → ℕ
bit b = cond b 1 0

-- No mark stands where two texts of one length are the same, and one stands where they are not.
pub same_if_unmarked : (xs ys : List ℕ) → length xs ≡ length ys → mask_l (zip2 (λ a b. not (eqb a b)) xs ys) ≡ 0 → xs ≡ ys
same_if_unmarked [] [] long none = refl
same_if_unmarked [] (y ∷ ys) long none = absurd (omega arith)
same_if_unmarked (x ∷ xs) [] long none = absurd (omega arith)
same_if_unmarked (x ∷ xs) (y ∷ ys) long none =
    elim (cases_eq x y) [
      | inl same ↦ ap (λ z. z ∷ xs) same ∙ ap (λ zs. y ∷ zs) (same_if_unmarked xs ys (omega arith) (omega (arith, none)))
      | inr other ↦
          let marked : bit (not (eqb x y)) ≡ 1 = ap (λ e. bit (not e)) (ne_eqb x y other) in
          absurd (omega (arith, none, marked))
    ]

pub unmarked_itself : (xs : List ℕ) → mask_l (zip2 (λ a b. not (eqb a b)) xs xs) ≡ 0
unmarked_itself [] = refl
unmarked_itself (x ∷ xs) =
    let plain : bit (not (eqb x x)) ≡ 0 = ap (λ e. bit (not e)) (eq-eqb x x refl) in
    omega (arith, plain, unmarked_itself xs)

pub unmarked_if_same : (xs ys : List ℕ) → xs ≡ ys → mask_l (zip2 (λ a b. not (eqb a b)) xs ys) ≡ 0
unmarked_if_same xs ys same = ap (λ zs. mask_l (zip2 (λ a b. not (eqb a b)) xs zs)) (sym same) ∙ unmarked_itself xs

-- what a mask of the bytes that differ says of the first ones
pub told_by_mask : (n : ℕ) (xs ys : List ℕ) → n ≤ 64 → n ≤ length xs → n ≤ length ys
    → IsTrue (nat_eq (mask_l (map (top 7) (zip2 (λ a b. cond (not (eqb a b)) 255 0) (take n xs) (take n ys))) % 2 ^ 64) 0) ↔ (take n xs ≡ take n ys)
told_by_mask n xs ys few left right =
    let fs = take n xs in
    let gs = take n ys in
    let long = length-chunk 0 n xs (omega (arith, left)) in
    let other = length-chunk 0 n ys (omega (arith, right)) in
    let marks = zip2 (λ a b. not (eqb a b)) fs gs in
    let is : mask_l (map (top 7) (zip2 (λ a b. cond (not (eqb a b)) 255 0) fs gs)) % 2 ^ 64 ≡ mask_l marks =
    ap (λ ms. mask_l ms % 2 ^ 64) (tops_compared w8 (λ a b. not (eqb a b)) fs gs) ∙ mask_l-mod marks 64 (omega (arith, length-zip2 (λ a b. not (eqb a b)) fs gs (long ∙ sym other), long)) in
    (λ none. same_if_unmarked fs gs (long ∙ sym other) (sym is ∙ eqb-true _ _ none), λ same. eq-eqb _ _ (is ∙ unmarked_if_same fs gs same))

-- The first bytes and the last ones are all of a text that has no more than both.
pub all_by_ends : (n : ℕ) (xs ys : List ℕ) → length xs ≡ length ys → n ≤ length xs → length xs ≤ 2 * n → take n xs ≡ take n ys
    → take n (take (length xs - (length xs - n)) (drop (length xs - n) xs)) ≡ take n (take (length ys - (length xs - n)) (drop (length xs - n) ys)) → xs ≡ ys
all_by_ends n xs ys long from to begins ends =
    let m = length xs - n in
    let last : take n (take (length xs - m) (drop m xs)) ≡ drop m xs =
    ap (take n) (take_all (length xs - m) (drop m xs) (omega (arith, length-drop m xs))) ∙ take_all n (drop m xs) (omega (arith, length-drop m xs)) in
    let other : take n (take (length ys - m) (drop m ys)) ≡ drop m ys =
    ap (take n) (take_all (length ys - m) (drop m ys) (omega (arith, length-drop m ys))) ∙ take_all n (drop m ys) (omega (arith, length-drop m ys)) in
    let tails : drop m xs ≡ drop m ys = sym last ∙ ends ∙ other in
    let far : m + (n - m) ≡ n = omega arith in
    let rest : drop n xs ≡ drop n ys =
    ap (λ k. drop k xs) (sym far) ∙ sym (drop-drop (n - m) m xs) ∙ ap (drop (n - m)) tails ∙ drop-drop (n - m) m ys ∙ ap (λ k. drop k ys) far in
    sym (take-append-drop n xs) ∙ ap (λ b. b ++ drop n xs) begins ∙ ap (λ r. take n ys ++ r) rest ∙ take-append-drop n ys

pub same_text : (t : List ℕ) → is_same t t ≡ true
same_text [] = refl
same_text (c ∷ cs) = and_from (eqb c c) (is_same cs cs) (eq-eqb c c refl) (same_text cs)

-- an answer that is yes just where they are the same, as the definition compares them
pub as_defined : (answer : Bool) (xs ys : List ℕ) → IsTrue answer ↔ (xs ≡ ys) → answer ≡ is_same xs ys
as_defined true xs ys told = sym (ap (is_same xs) (sym (told.0 refl)) ∙ same_text xs)
as_defined false xs ys told =
    elim (cases_Bool (is_same xs ys)) [
      | inl same ↦ absurd (false≢true (told.1 (same_read xs ys same)))
      | inr other ↦ sym other
    ]

-- no two texts of different lengths are the same
pub differ_long : (xs ys : List ℕ) → length xs ≢ length ys → false ≡ is_same xs ys
differ_long xs ys other = as_defined false xs ys (λ no. absurd (false≢true no), λ same. absurd (other (ap length same)))
