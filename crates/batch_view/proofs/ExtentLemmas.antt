-- The front of a text is enough to say how far its first batch goes.
use Rattle.std.proofs.Common.{◌≡◌, ℕ, zero, suc, ◌+◌, ◌-◌, ◌<◌, ◌≤◌, Bool, true, false, List, [], ◌∷◌, ◌++◌, length, take, drop, Option, Some, None, refl, sym, ap, subst, ◌∙◌, arith, length-take, nat_le, le-leb, leb-true}
use Rattle.std.specs.Option.{option_map, option_and_then}
use Rattle.std.specs.Result.{result_ok}
use Rattle.std.proofs.lemmas.Bool.{and_from, and_parts, leb-false, false_from_ne_true, cond-true, cond-false}
use Rattle.std.proofs.lemmas.List.{take-append-drop}
use Rattle.std.proofs.lemmas.Option.{same_Some, none-some}
use Rattle.metering_model.specs.BatchReading.{HeadLine, head_in, fields_in, lines_in}
use Rattle.metering_model.specs.Schedule.{lines_text}
use Rattle.record_view.specs.Lines.{IsPast}
use Rattle.record_view.proofs.PastLines.{front_length, longer_front, HasFront, has_front}
use Rattle.batch_view.specs.Extents.{counted, batch_length, extent_in}

-- ---- a text and its front

take_parts : (m k : ℕ) (xs : List ℕ) → k ≤ m → take m xs ≡ take k xs ++ take (m - k) (drop k xs)
take_parts m zero xs low = let same : m ≡ m - 0 = omega arith in ap (λ n. take n xs) same
take_parts zero (suc k) xs low = absurd (omega (arith, low))
take_parts (suc m) (suc k) [] low = none (suc m - suc k)
  where
    none : (n : ℕ) → ◌≡◌ {A = List ℕ} [] (take n [])
    none zero = refl
    none (suc n) = refl
take_parts (suc m) (suc k) (x ∷ xs) low =
    let same : m - k ≡ suc m - suc k = omega arith in
    ap (λ ys. x ∷ ys) (take_parts m k xs (omega (arith, low))) ∙ ap (λ n. x ∷ take k xs ++ take n (drop k xs)) same

take_past : (n : ℕ) (xs : List ℕ) → length xs ≤ n → take n xs ≡ xs
take_past zero [] low = refl
take_past zero (x ∷ xs) low = absurd (omega (arith, low))
take_past (suc n) [] low = refl
take_past (suc n) (x ∷ xs) low = ap (λ ys. x ∷ ys) (take_past n xs (omega (arith, low)))

-- the front of a text that may be shorter
pub front_is : (m : ℕ) (text : List ℕ) → m ≤ 65_536 → (m < 65_536 → length text ≤ m) → take m text ≡ take 65_536 text
front_is m text most short = by_test (nat_le 65_536 m) refl
  where
    by_test : (b : Bool) → nat_le 65_536 m ≡ b → take m text ≡ take 65_536 text
    by_test true e =
        let all = leb-true _ _ e in
        let same : m ≡ 65_536 = omega (arith, all, most) in
        ap (λ n. take n text) same
    by_test false e =
        let less = leb-false _ _ e in
        let fits : length text ≤ m = short (omega (arith, less)) in
        take_past m text fits ∙ sym (take_past 65_536 text (omega (arith, fits, most)))

module _ (m : ℕ) (text : List ℕ) where
  -- first lines that fit into the front stand there
  in_front : (n : ℕ) → n ≤ length (lines_in text).lines → front_length n text ≤ m → HasFront n text (take m text)
  in_front n enough fits =
      let k = front_length n text in
      subst (HasFront n text) (sym (take_parts m k text fits)) (has_front n text (take (m - k) (drop k text)) enough)

  -- and those of the front stand in the text
  from_front : (n : ℕ) → n ≤ length (lines_in (take m text)).lines → HasFront n (take m text) text
  from_front n enough =
      let front = take m text in
      let k = front_length n front in
      let whole : text ≡ take k front ++ (drop k front ++ drop m text) = sym (take-append-drop m text) ∙ (ap (λ t. t ++ drop m text) (sym (take-append-drop k front)) ∙ append_three (take k front) (drop k front) (drop m text)) in
      subst (HasFront n front) (sym whole) (has_front n front (drop k front ++ drop m text) enough)
    where
      append_three : (xs ys zs : List ℕ) → (xs ++ ys) ++ zs ≡ xs ++ (ys ++ zs)
      append_three [] ys zs = refl
      append_three (x ∷ xs) ys zs = ap (λ t. x ∷ t) (append_three xs ys zs)

-- ---- what the first line counts

by_first : (ls ms : List (List ℕ)) → take 1 ls ≡ take 1 ms → counted ls ≡ counted ms
by_first [] [] e = refl
by_first [] (m ∷ ms) e = absurd (omega (arith, ap length e))
by_first (l ∷ ls) [] e = absurd (omega (arith, ap length e))
by_first (l ∷ ls) (m ∷ ms) e = ap (λ xs. counted xs) e

some_counted : (ls : List (List ℕ)) (n : ℕ) → counted ls ≡ Some n → (1 ≤ n) × (1 ≤ length ls)
some_counted [] n e = absurd (none-some n e)
some_counted (l ∷ ls) n e = (by_head (result_ok (head_in (fields_in l))) e, omega arith)
  where
    by_head : (o : Option HeadLine) → option_map (λ head. head.count + 1) o ≡ Some n → 1 ≤ n
    by_head None is = absurd (none-some n is)
    by_head (Some head) is = let same = same_Some _ _ is in omega (arith, same)

-- ---- lengths

fits : (ls : List (List ℕ)) (n : ℕ) → n ≤ length ls → length (lines_text (take n ls)) ≤ 65_536 → batch_length ls n ≡ Some (length (lines_text (take n ls)))
fits ls n enough short = cond-true _ _ _ (and_from _ _ (le-leb _ _ enough) (le-leb _ _ short))

fits_not : (ls : List (List ℕ)) (n : ℕ) → (n ≤ length ls → length (lines_text (take n ls)) ≤ 65_536 → ⊥) → batch_length ls n ≡ None
fits_not ls n never =
    cond-false _ _ _ (false_from_ne_true _ (λ e.
    let parts = and_parts (nat_le n (length ls)) (nat_le (length (lines_text (take n ls))) 65_536) e in
    never (leb-true _ _ parts.0) (leb-true _ _ parts.1)))

too_long : (ls : List (List ℕ)) (o : Option ℕ) → counted ls ≡ o → (length (lines_text (take 1 ls)) ≤ 65_536 → ⊥) → option_and_then (batch_length ls) (counted ls) ≡ None
too_long ls None e long = ap (option_and_then (batch_length ls)) e
too_long ls (Some n) e long =
    let some = some_counted ls n e in
    ap (option_and_then (batch_length ls)) e
    ∙ fits_not ls n (λ enough short. let more = longer_front 1 n ls some.0 in long (omega (arith, more, short)))

-- ---- the answers

pub no_head : (text : List ℕ) (m : ℕ) → m ≡ 65_536 → counted (lines_in (take m text)).lines ≡ None → extent_in text ≡ None
no_head text m most none = by_size (nat_le 1 (length (lines_in text).lines)) (nat_le (front_length 1 text) 65_536) refl refl
  where
    ls : List (List ℕ)
    ls = (lines_in text).lines

    by_size : (b c : Bool) → nat_le 1 (length ls) ≡ b → nat_le (front_length 1 text) 65_536 ≡ c → extent_in text ≡ None
    by_size false c few e = ap (option_and_then (batch_length ls)) (nothing ls (leb-false _ _ few))
      where
        nothing : (xs : List (List ℕ)) → length xs < 1 → counted xs ≡ None
        nothing [] low = refl
        nothing (x ∷ xs) low = absurd (omega (arith, low))
    by_size true false some long = too_long ls (counted ls) refl (λ short. let high = leb-false _ _ long in omega (arith, short, high))
    by_size true true some short =
        let low = leb-true _ _ short in
        let same = (in_front m text 1 (leb-true _ _ some) (omega (arith, low, most))).first in
        ap (option_and_then (batch_length ls)) (sym (by_first (lines_in (take m text)).lines ls same) ∙ none)

head_in_front : (text : List ℕ) (m n : ℕ) → counted (lines_in (take m text)).lines ≡ Some n → counted (lines_in text).lines ≡ Some n
head_in_front text m n e =
    let some = some_counted (lines_in (take m text)).lines n e in
    by_first (lines_in text).lines (lines_in (take m text)).lines (from_front m text 1 some.1).first ∙ e

pub too_few : (text : List ℕ) (m n : ℕ) → m ≡ 65_536 → counted (lines_in (take m text)).lines ≡ Some n → length (lines_in (take m text)).lines < n → extent_in text ≡ None
too_few text m n most e few =
    ap (option_and_then (batch_length (lines_in text).lines)) (head_in_front text m n e)
    ∙ fits_not (lines_in text).lines n (λ enough short.
    let there = (in_front m text n enough (omega (arith, short, most))).enough in
    omega (arith, there, few))

pub far_enough : (text : List ℕ) (m n at : ℕ) → m ≡ 65_536 → counted (lines_in (take m text)).lines ≡ Some n → IsPast (take m text) n at → extent_in text ≡ Some at
far_enough text m n at most e past =
    let front = take m text in
    let is = from_front m text n past.enough in
    let place : length (lines_text (take n (lines_in text).lines)) ≡ at = ap (λ ls. length (lines_text ls)) is.first ∙ sym past.place in
    let within = past.within in
    let short : at ≤ 65_536 = omega (arith, within, length-take m text, most) in
    ap (option_and_then (batch_length (lines_in text).lines)) (head_in_front text m n e)
    ∙ fits (lines_in text).lines n is.enough (omega (arith, place, short))
    ∙ ap Some place
