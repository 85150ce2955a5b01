-- A text is split at the first byte of a kind: its parts are what stands before it, and the parts of the rest.
use Rattle.std.proofs.Common.{◌≡◌, ℕ, ◌+◌, ◌-◌, ◌<◌, ◌==◌, ◌||◌, Bool, true, false, not, cond, nat_lt, Some, None, is_some, List, [], ◌∷◌, length, take, drop, refl, sym, ap, ap₂, subst, ◌∙◌, arith, length-drop}
use Rattle.std.specs.List.{list_any, position, position_or_len, before_first, after_first, slice_split, onto_first, count_by}
use Rattle.std.proofs.lemmas.Bool.{or_parts, ltb-true}
use Rattle.std.proofs.lemmas.Bool.Decides.{nat_tests}
use Rattle.std.proofs.lemmas.Option.{cond_some}
use Rattle.std.proofs.lemmas.List.{length-take-le, take_all}
use Rattle.std.proofs.lemmas.List.Splits.{slice_split_first, slice_split-cons_no, length-slice_split}
use Rattle.record_view.specs.Parts.{LentText, part_before, part_after, placed_from, parts_at}
use Rattle.record_view.specs.Inner.Placed.{IsPlaced, front_of, back_of}

module _ {X : Type 0} (p : X → Bool) where
  -- the first such element stands within a list that has one
  pub within_any : (xs : List X) → nat_lt (position_or_len p xs) (length xs) ≡ list_any p xs
  within_any [] = refl
  within_any (x ∷ xs) = at_head (p x) (within_any xs)
    where
      at_head : (b : Bool) → nat_lt (position_or_len p xs) (length xs) ≡ list_any p xs
          → nat_lt (cond (not b) (1 + position_or_len p xs) 0) (length (x ∷ xs)) ≡ (b || list_any p xs)
      at_head true e = grind (arith, nat_tests)
      at_head false e = grind (arith, nat_tests)

  pub found_any : (xs : List X) → is_some (position p xs) ≡ list_any p xs
  found_any xs = is_test (nat_lt (position_or_len p xs) (length xs)) ∙ within_any xs
    where
      is_test : (b : Bool) → is_some (cond b (Some (position_or_len p xs)) None) ≡ b
      is_test true = refl
      is_test false = refl

  -- where a position was found, it is the first, and within the list
  pub found_at : (xs : List X) (i : ℕ) → position p xs ≡ Some i → (position_or_len p xs ≡ i) × (i < length xs)
  found_at xs i h =
      let found = cond_some (nat_lt (position_or_len p xs) (length xs)) (position_or_len p xs) i h in
      let within = ltb-true _ _ found.0 in
      (found.1, subst (λ n. n < length xs) found.1 within)

  pub one_part : (xs : List X) → list_any p xs ≡ false → slice_split p xs ≡ xs ∷ []
  one_part [] h = refl
  one_part (x ∷ xs) h =
      let tests = or_parts (p x) (list_any p xs) h in
      slice_split-cons_no p x xs tests.0 ∙ ap (onto_first x) (one_part xs tests.1)

-- a text with no such byte is its one part
pub parts_whole : (byte : ℕ) (t : LentText) → IsPlaced t → list_any (λ c. c == byte) t.text ≡ false → parts_at byte t ≡ t ∷ []
unfolding parts_at
parts_whole byte t placed none =
    ap (placed_from t.from) (one_part (λ c. c == byte) t.text none)
    ∙ ap (λ to. record { text = t.text; from = t.from; to = to } ∷ []) (sym placed.fits)

-- a text with one is split there
pub parts_split : (byte : ℕ) (t : LentText) → position_or_len (λ c. c == byte) t.text < length t.text → parts_at byte t ≡ part_before byte t ∷ parts_at byte (part_after byte t)
unfolding parts_at
parts_split byte t within =
    let front = length-take-le (position_or_len (λ c. c == byte) t.text) t.text (omega arith) in
    ap (placed_from t.from) (slice_split_first (λ c. c == byte) t.text 0 within)
    ∙ ap (λ n. record { text = before_first (λ c. c == byte) t.text; from = t.from; to = t.from + n }
    ∷ placed_from (t.from + n + 1) (slice_split (λ c. c == byte) (after_first (λ c. c == byte) t.text))) front

-- the same, where the byte was found
pub parts_found : (byte i : ℕ) (t : LentText) → position (λ c. c == byte) t.text ≡ Some i
    → parts_at byte t ≡ record { text = take i t.text; from = t.from; to = t.from + i }
    ∷ parts_at byte (record { text = drop (i + 1) t.text; from = t.from + i + 1; to = t.to })
parts_found byte i t h =
    let found = found_at (λ c. c == byte) t.text i h in
    let within : position_or_len (λ c. c == byte) t.text < length t.text = omega arith in
    parts_split byte t within
    ∙ ap (λ n. record { text = take n t.text; from = t.from; to = t.from + n }
    ∷ parts_at byte (record { text = drop (n + 1) t.text; from = t.from + n + 1; to = t.to })) found.0

-- what stands before and behind the byte that was found
pub texts_found : (byte i : ℕ) (t : LentText) → position (λ c. c == byte) t.text ≡ Some i
    → (record { text = take i t.text; from = t.from; to = t.from + i } ≡ part_before byte t)
    × (record { text = drop (i + 1) t.text; from = t.from + i + 1; to = t.to } ≡ part_after byte t)
texts_found byte i t h =
    let same = sym (found_at (λ c. c == byte) t.text i h).0 in
    (ap (λ n. record { text = take n t.text; from = t.from; to = t.from + n }) same, ap (λ n. record { text = drop (n + 1) t.text; from = t.from + n + 1; to = t.to }) same)

-- the same of two texts that are what stands before and behind it
pub parts_cut : (byte i : ℕ) (t a b : LentText) → a ≡ front_of i t → b ≡ back_of i t → position (λ c. c == byte) t.text ≡ Some i
    → parts_at byte t ≡ a ∷ parts_at byte b
parts_cut byte i t a b front back h = parts_found byte i t h ∙ ap₂ (λ x y. x ∷ parts_at byte y) (sym front) (sym back)

pub texts_cut : (byte i : ℕ) (t a b : LentText) → a ≡ front_of i t → b ≡ back_of i t → position (λ c. c == byte) t.text ≡ Some i
    → (a ≡ part_before byte t) × (b ≡ part_after byte t)
texts_cut byte i t a b front back h =
    let found = texts_found byte i t h in
    (front ∙ found.0, back ∙ found.1)

pub placed_cut : (i : ℕ) (t a b : LentText) → a ≡ front_of i t → b ≡ back_of i t → IsPlaced t → i < length t.text → IsPlaced a × IsPlaced b
placed_cut i t a b front back placed within =
    let before : IsPlaced (front_of i t) = record { fits = omega (arith, length-take-le i t.text (omega arith)) } in
    let after : IsPlaced (back_of i t) = record { fits = omega (arith, placed.fits, length-drop (i + 1) t.text) } in
    (subst IsPlaced (sym front) before, subst IsPlaced (sym back) after)

pub shorter_cut : (i : ℕ) (t a b : LentText) → a ≡ front_of i t → b ≡ back_of i t → i < length t.text
    → length a.text + length b.text + 1 ≡ length t.text
shorter_cut i t a b front back within =
    omega (arith, ap (λ x. length x.text) front, ap (λ x. length x.text) back, length-take-le i t.text (omega arith), length-drop (i + 1) t.text)

-- a list from an index to its end
pub tail_whole : (xs : List ℕ) (i : ℕ) → take (length xs - i) (drop i xs) ≡ drop i xs
tail_whole xs i = take_all (length xs - i) (drop i xs) (omega (arith, length-drop i xs))

-- each text has a part
pub some_part : (byte : ℕ) (t : LentText) → 0 < length (parts_at byte t)
unfolding parts_at
some_part byte t = some_placed t.from (slice_split (λ c. c == byte) t.text) (length-slice_split (λ c. c == byte) t.text)
  where
    some_placed : (from : ℕ) (ts : List (List ℕ)) → length ts ≡ count_by (λ c. c == byte) t.text + 1 → 0 < length (placed_from from ts)
    some_placed from [] h = absurd (omega arith)
    some_placed from (u ∷ us) h = omega arith
