-- What is still to be told of keys, and to be added of rows, one after another.
use Rattle.std.proofs.Common.{◌≡◌, ℕ, zero, suc, ◌+◌, ◌<◌, ◌≤◌, Bool, true, false, not, ◌||◌, cond, List, [], ◌∷◌, ◌++◌, length, get_or, take, drop, map, filter, Some, None, refl, sym, ap, ◌∙◌, arith, add-one, append-nil, append_assoc}
use Rattle.std.specs.Prelude.{nat_lt}
use Rattle.std.specs.List.{flat_map, list_any, position_or_len, remove}
use Rattle.std.proofs.lemmas.Bool.Decides.{nat_tests}
use Rattle.std.proofs.lemmas.List.{at_drop_all, at_drop_more, drop_all, take_all, take_more}
use Rattle.toml.specs.Data.{Members}
use Rattle.sheet_text.specs.declared.names.Key.{Key}
use Rattle.fault_lines.specs.TableLines.{from_first}
use Rattle.fault_lines.specs.UnknownKeys.{UnknownKey, up_to_first, with_rows, with_table}

-- ---- keys

module _ (f : UnknownKey → List ℕ) (told longer all : List ℕ) (keys : List UnknownKey) (i : ℕ) (k : UnknownKey) (low : i < length keys) (item : k ≡ get_or keys i k) where
  pub one_more : longer ≡ told ++ f k → told ++ flat_map f (drop i keys) ≡ all → longer ++ flat_map f (drop (i + 1) keys) ≡ all
  one_more put before =
      let rest = flat_map f (drop (i + 1) keys) in
      ap (λ t. t ++ rest) put
      ∙ append_assoc told (f k) rest
      ∙ ap (λ (x : UnknownKey). told ++ (f x ++ rest)) item
      ∙ ap (λ t. told ++ t) (sym (at_drop_more (flat_map f) keys i k low))
      ∙ before

  -- of those that pass a test
  pub one_of : (test : UnknownKey → Bool) → test k ≡ true → longer ≡ told ++ f k → told ++ flat_map f (filter test (drop i keys)) ≡ all
      → longer ++ flat_map f (filter test (drop (i + 1) keys)) ≡ all
  one_of test passes put before =
      let rest = filter test (drop (i + 1) keys) in
      let told_of_it : flat_map f (filter test (k ∷ drop (i + 1) keys)) ≡ f k ++ flat_map f rest = ap (λ b. flat_map f (cond b (k ∷ rest) rest)) passes in
      ap (λ t. t ++ flat_map f rest) put
      ∙ append_assoc told (f k) (flat_map f rest)
      ∙ ap (λ t. told ++ t) (sym told_of_it)
      ∙ ap (λ (x : UnknownKey). told ++ flat_map f (filter test (x ∷ drop (i + 1) keys))) item
      ∙ ap (λ t. told ++ t) (sym (at_drop_more (λ ks. flat_map f (filter test ks)) keys i k low))
      ∙ before

  pub not_of : (test : UnknownKey → Bool) → test k ≡ false → longer ≡ told → told ++ flat_map f (filter test (drop i keys)) ≡ all
      → longer ++ flat_map f (filter test (drop (i + 1) keys)) ≡ all
  not_of test fails same before =
      let rest = filter test (drop (i + 1) keys) in
      let none : flat_map f (filter test (k ∷ drop (i + 1) keys)) ≡ flat_map f rest = ap (λ b. flat_map f (cond b (k ∷ rest) rest)) fails in
      ap (λ t. t ++ flat_map f rest) same
      ∙ ap (λ t. told ++ t) (sym none)
      ∙ ap (λ (x : UnknownKey). told ++ flat_map f (filter test (x ∷ drop (i + 1) keys))) item
      ∙ ap (λ t. told ++ t) (sym (at_drop_more (λ ks. flat_map f (filter test ks)) keys i k low))
      ∙ before

-- ---- a key that is taken out

-- what stands at a place, found twice
pub same_item : {X : Type 0} (xs : List X) (i : ℕ) (a b : X) → i < length xs → a ≡ get_or xs i a → b ≡ get_or xs i b → a ≡ b
same_item [] i a b low p q = absurd (omega (arith, low))
same_item (x ∷ xs) zero a b low p q = p ∙ sym q
same_item (x ∷ xs) (suc i) a b low p q = same_item xs i a b (omega (arith, low)) p q

removed_take : {X : Type 0} (xs : List X) (i : ℕ) → i < length xs → take i (remove xs i) ≡ take i xs
removed_take [] i low = absurd (omega (arith, low))
removed_take (x ∷ xs) zero low = refl
removed_take (x ∷ xs) (suc i) low = ap (λ ys. x ∷ ys) (removed_take xs i (omega (arith, low)))

removed_drop : {X : Type 0} (xs : List X) (i : ℕ) → i < length xs → drop i (remove xs i) ≡ drop (suc i) xs
removed_drop [] i low = absurd (omega (arith, low))
removed_drop (x ∷ xs) zero low = refl
removed_drop (x ∷ xs) (suc i) low = removed_drop xs i (omega (arith, low))

module _ (test : UnknownKey → Bool) (keys left : List UnknownKey) (i : ℕ) (k : UnknownKey) (low : i < length keys) (item : k ≡ get_or keys i k)
    (before : take i keys ++ filter (λ x. not (test x)) (drop i keys) ≡ left) where
  behind : filter (λ x. not (test x)) (drop i keys) ≡ cond (not (test k)) (k ∷ filter (λ x. not (test x)) (drop (i + 1) keys)) (filter (λ x. not (test x)) (drop (i + 1) keys))
  behind =
      at_drop_more (filter (λ x. not (test x))) keys i k low
      ∙ ap (λ (x : UnknownKey). filter (λ y. not (test y)) (x ∷ drop (i + 1) keys)) (sym item)

  pub one_out : (keys' : List UnknownKey) → keys' ≡ remove keys i → test k ≡ true → take i keys' ++ filter (λ x. not (test x)) (drop i keys') ≡ left
  one_out keys' is passes =
      let rest = filter (λ x. not (test x)) (drop (i + 1) keys) in
      let same : drop i (remove keys i) ≡ drop (i + 1) keys = removed_drop keys i low ∙ ap (λ n. drop n keys) (sym (add-one i)) in
      let none : filter (λ x. not (test x)) (drop i keys) ≡ rest = behind ∙ ap (λ b. cond (not b) (k ∷ rest) rest) passes in
      ap (λ ks. take i ks ++ filter (λ x. not (test x)) (drop i ks)) is
      ∙ ap (λ ks. ks ++ filter (λ x. not (test x)) (drop i (remove keys i))) (removed_take keys i low)
      ∙ ap (λ ks. take i keys ++ filter (λ x. not (test x)) ks) same
      ∙ ap (λ ks. take i keys ++ ks) (sym none)
      ∙ before

  pub one_stays : test k ≡ false → take (i + 1) keys ++ filter (λ x. not (test x)) (drop (i + 1) keys) ≡ left
  one_stays fails =
      let rest = filter (λ x. not (test x)) (drop (i + 1) keys) in
      let more : take (i + 1) keys ≡ take i keys ++ k ∷ [] = take_more keys i k low ∙ ap (λ (x : UnknownKey). take i keys ++ x ∷ []) (sym item) in
      let with_it : filter (λ x. not (test x)) (drop i keys) ≡ k ∷ rest = behind ∙ ap (λ b. cond (not b) (k ∷ rest) rest) fails in
      ap (λ ks. ks ++ rest) more
      ∙ append_assoc (take i keys) (k ∷ []) rest
      ∙ ap (λ ks. take i keys ++ ks) (sym with_it)
      ∙ before

-- what is told of the others, once it was told of one that is taken out
pub told_out : (f : UnknownKey → List ℕ) (test : UnknownKey → Bool) (told all : List ℕ) (keys keys' : List UnknownKey) (i : ℕ) → i < length keys → keys' ≡ remove keys i
    → told ++ flat_map f (filter test (drop (i + 1) keys)) ≡ all → told ++ flat_map f (filter test (drop i keys')) ≡ all
told_out f test told all keys keys' i low is before =
    let same : drop i (remove keys i) ≡ drop (i + 1) keys = removed_drop keys i low ∙ ap (λ n. drop n keys) (sym (add-one i)) in
    ap (λ ks. told ++ flat_map f (filter test (drop i ks))) is ∙ ap (λ ks. told ++ flat_map f (filter test ks)) same ∙ before

pub none_out : (g : List UnknownKey → List UnknownKey) (keys left : List UnknownKey) (i : ℕ) → length keys ≤ i → g [] ≡ [] → take i keys ++ g (drop i keys) ≡ left → keys ≡ left
none_out g keys left i past none before =
    sym (append-nil keys) ∙ ap (λ ks. keys ++ ks) (sym (at_drop_all g keys i past ∙ none)) ∙ ap (λ ks. ks ++ g (drop i keys)) (sym (take_all i keys past)) ∙ before

pub none_left : (g : List UnknownKey → List ℕ) (told all : List ℕ) (keys : List UnknownKey) (i : ℕ) → length keys ≤ i → g [] ≡ [] → told ++ g (drop i keys) ≡ all → told ≡ all
none_left g told all keys i past none before = sym (append-nil told) ∙ ap (λ t. told ++ t) (sym (at_drop_all g keys i past ∙ none)) ∙ before

-- ---- whether one of those that are left passes a test

module _ {X : Type 0} (test : X → Bool) (xs : List X) (i : ℕ) (d x : X) (low : i < length xs) (item : x ≡ get_or xs i d) (before : list_any test (drop i xs) ≡ list_any test xs) where
  first_of : list_any test (drop i xs) ≡ (test x || list_any test (drop (i + 1) xs))
  first_of = at_drop_more (list_any test) xs i d low ∙ ap (λ (y : X). test y || list_any test (drop (i + 1) xs)) (sym item)

  pub one_passes : test x ≡ true → true ≡ list_any test xs
  one_passes passes = ap (λ b. b || list_any test (drop (i + 1) xs)) (sym passes) ∙ sym first_of ∙ before

  pub next_left : test x ≡ false → list_any test (drop (i + 1) xs) ≡ list_any test xs
  next_left fails = ap (λ b. b || list_any test (drop (i + 1) xs)) (sym fails) ∙ sym first_of ∙ before

pub none_passes : {X : Type 0} (test : X → Bool) (xs : List X) (i : ℕ) → length xs ≤ i → list_any test (drop i xs) ≡ list_any test xs → false ≡ list_any test xs
none_passes test xs i past before = sym (at_drop_all (list_any test) xs i past) ∙ before

-- ---- bytes at the front of a line

module _ (test : ℕ → Bool) (line : List ℕ) where
  pub first_here : (i : ℕ) → i < length line → test (get_or line i 0) ≡ true → position_or_len test line ≡ i + position_or_len test (drop i line) → i ≡ position_or_len test line
  first_here i low is before =
      let none : position_or_len test (drop i line) ≡ 0 =
      at_drop_more (position_or_len test) line i 0 low ∙ ap (λ b. cond (not b) (1 + position_or_len test (drop (i + 1) line)) 0) is in
      omega (arith, before, none)

  pub first_later : (i : ℕ) → i < length line → test (get_or line i 0) ≡ false → position_or_len test line ≡ i + position_or_len test (drop i line)
      → position_or_len test line ≡ i + 1 + position_or_len test (drop (i + 1) line)
  first_later i low is before =
      let one : position_or_len test (drop i line) ≡ 1 + position_or_len test (drop (i + 1) line) =
      at_drop_more (position_or_len test) line i 0 low ∙ ap (λ b. cond (not b) (1 + position_or_len test (drop (i + 1) line)) 0) is in
      omega (arith, before, one)

  pub first_nowhere : (i : ℕ) → i ≡ length line → position_or_len test line ≡ i + position_or_len test (drop i line) → length line ≡ position_or_len test line
  first_nowhere i end before =
      let none : position_or_len test (drop i line) ≡ 0 = at_drop_all (position_or_len test) line i (omega (arith, end)) in
      omega (arith, before, none, end)

  by_end : (b : Bool) (n : ℕ) → nat_lt n (length line) ≡ b → drop n line ≡ elim (cond b (Some n) None) [ Some at ↦ drop at line | None ↦ [] ]
  by_end true n is = refl
  by_end false n is = drop_all n line (grind (arith, nat_tests, is))

  pub from_place : (n : ℕ) → n ≡ position_or_len test line → drop n line ≡ from_first test line
  from_place n is = ap (λ k. drop k line) is ∙ by_end (nat_lt (position_or_len test line) (length line)) (position_or_len test line) refl

  up_end : (b : Bool) (n : ℕ) → nat_lt n (length line) ≡ b → take n line ≡ elim (cond b (Some n) None) [ Some at ↦ take at line | None ↦ line ]
  up_end true n is = refl
  up_end false n is = take_all n line (grind (arith, nat_tests, is))

  pub up_to_place : (n : ℕ) → n ≡ position_or_len test line → take n line ≡ up_to_first test line
  up_to_place n is = ap (λ k. take k line) is ∙ up_end (nat_lt (position_or_len test line) (length line)) (position_or_len test line) refl

-- ---- rows

module _ {X : Type 0} (view : X → Members) (taken : List Key) (table : List ℕ) (found all : List UnknownKey) (rows : List X) (i : ℕ) where
  pub one_row : (more : List UnknownKey) (row : X) → i < length rows → row ≡ get_or rows i row → more ≡ with_table taken table found (view row)
      → with_rows taken table found (map view (drop i rows)) ≡ all → with_rows taken table more (map view (drop (i + 1) rows)) ≡ all
  unfolding with_rows
  one_row more row low item put before =
      let rest = map view (drop (i + 1) rows) in
      ap (λ f. with_rows taken table f rest) put
      ∙ ap (λ (x : X). with_rows taken table found (view x ∷ rest)) item
      ∙ sym (at_drop_more (λ rs. with_rows taken table found (map view rs)) rows i row low)
      ∙ before

  pub no_row : length rows ≤ i → with_rows taken table found (map view (drop i rows)) ≡ all → found ≡ all
  unfolding with_rows
  no_row past before = sym (at_drop_all (λ rs. with_rows taken table found (map view rs)) rows i past) ∙ before
