-- The last record that gives a reading a value stands in the last batch that gives it one.
use Rattle.std.proofs.Common.{◌≡◌, ℕ, zero, suc, ◌+◌, ◌<◌, Bool, true, false, ◌&&◌, not, cond, List, [], ◌∷◌, ◌++◌, map, filter, refl, sym, ap, subst, ◌∙◌, arith, Option, Some, None, ℤ, inl, inr, is_some}
use Rattle.std.specs.Prelude.{◌-◌, ◌==◌, nat_le}
use Rattle.std.specs.List.{enumerate_from, filter_map, last_or, list_all}
use Rattle.std.specs.Option.{option_or, option_and_then}
use Rattle.std.proofs.lemmas.Bool.{and_parts, cond-true, cond-false, cases_Bool}
use Rattle.std.proofs.lemmas.Bool.Decides.{nat_tests}
use Rattle.std.proofs.lemmas.List.Elements.{filter-append, filter_map-append}
use Rattle.metering_model.specs.Batch.{Batch, Record}
use Rattle.metering_model.specs.Holding.{Holding, IsHolding, Position, Placed, placed, records_in_order, held, is_batch_at, is_in_order, comes_before}
use Rattle.metering_model.specs.ValueAtSequence.{value_given_by, journal_until}
use Rattle.metering_model.proofs.BatchOrder.{in_order_parts, list_all-weaker}
use Rattle.metering_model.proofs.HoldingLaws.{held_place}
use Rattle.batch_view.specs.Kept.{value_given_in}
use Rattle.batch_store.specs.Inner.Values.{last_given}

-- ---- the last of a list

last_or-append : {A : Type 0} (o : Option A) (xs ys : List A) → last_or o (xs ++ ys) ≡ last_or (last_or o xs) ys
last_or-append o [] ys = refl
last_or-append o (x ∷ xs) ys = last_or-append (Some x) xs ys

last_or-else : {A : Type 0} (o : Option A) (xs : List A) → last_or o xs ≡ option_or (last_or None xs) o
last_or-else o [] = refl
last_or-else o (x ∷ xs) = has_last (Some x) o xs refl
  where
    has_last : {A : Type 0} (s o : Option A) (xs : List A) → is_some s ≡ true → last_or s xs ≡ option_or (last_or s xs) o
    has_last None o xs some = absurd (cc)
    has_last (Some x) o [] some = refl
    has_last (Some x) o (y ∷ ys) some = has_last (Some y) o ys refl

pub is_some-last_or : {A : Type 0} (o : Option A) (xs : List A) → is_some o ≡ true → is_some (last_or o xs) ≡ true
is_some-last_or o [] some = some
is_some-last_or o (x ∷ xs) some = is_some-last_or (Some x) xs refl

-- ---- batch by batch

module _ (p : Position) where
  abbrev is_until : ℕ → Placed → Bool
  is_until upto x = (x.place.agent == p.agent) && nat_le x.place.seq upto

  abbrev is_batch_until : ℕ → Batch → Bool
  is_batch_until upto b = (b.agent == p.agent) && nat_le b.seq upto

  abbrev place_in : Batch → ℕ × Record → Placed
  place_in b e = record { place = record { agent = b.agent; seq = b.seq; index = e.0 }; what = e.1 }

  abbrev given_by : Batch → Option ℤ
  given_by b = last_or None (filter_map (value_given_by p) (placed b))

  -- the values of a batch count all, or none of them does
  of_batch : (upto : ℕ) (b : Batch) (es : List (ℕ × Record)) → filter (is_until upto) (map (place_in b) es) ≡ cond (is_batch_until upto b) (map (place_in b) es) []
  of_batch upto b es = elim (cases_Bool (is_batch_until upto b)) [
    | inl e ↦ all e es ∙ sym (cond-true (is_batch_until upto b) (map (place_in b) es) [] e)
    | inr e ↦ none e es ∙ sym (cond-false (is_batch_until upto b) (map (place_in b) es) [] e)
  ]
    where
      all : is_batch_until upto b ≡ true → (es : List (ℕ × Record)) → filter (is_until upto) (map (place_in b) es) ≡ map (place_in b) es
      all e [] = refl
      all e (x ∷ es) = cond-true (is_batch_until upto b) (place_in b x ∷ filter (is_until upto) (map (place_in b) es)) (filter (is_until upto) (map (place_in b) es)) e ∙ ap (λ ys. place_in b x ∷ ys) (all e es)

      none : is_batch_until upto b ≡ false → (es : List (ℕ × Record)) → filter (is_until upto) (map (place_in b) es) ≡ []
      none e [] = refl
      none e (x ∷ es) = cond-false (is_batch_until upto b) (place_in b x ∷ filter (is_until upto) (map (place_in b) es)) (filter (is_until upto) (map (place_in b) es)) e ∙ none e es

  -- the last value that the batches up to the sequence give, one after the other
  pick : Option ℤ → Holding → ℕ → Option ℤ
  pick o [] upto = o
  pick o (b ∷ h) upto = pick (cond (is_batch_until upto b) (option_or (given_by b) o) o) h upto

  given_is_pick : (o : Option ℤ) (h : Holding) (upto : ℕ) → last_or o (filter_map (value_given_by p) (journal_until h p.agent upto)) ≡ pick o h upto
  unfolding pick
  given_is_pick o [] upto = refl
  given_is_pick o (b ∷ h) upto =
      ap (λ xs. last_or o (filter_map (value_given_by p) xs)) (filter-append (is_until upto) (placed b) (records_in_order h))
      ∙ (ap (λ xs. last_or o xs) (filter_map-append (value_given_by p) (filter (is_until upto) (placed b)) (journal_until h p.agent upto))
      ∙ (last_or-append o (filter_map (value_given_by p) (filter (is_until upto) (placed b))) (filter_map (value_given_by p) (journal_until h p.agent upto))
      ∙ (ap (λ q. last_or q (filter_map (value_given_by p) (journal_until h p.agent upto))) first
      ∙ given_is_pick (cond (is_batch_until upto b) (option_or (given_by b) o) o) h upto)))
    where
      by_test : (t : Bool) → last_or o (filter_map (value_given_by p) (cond t (placed b) [])) ≡ cond t (option_or (given_by b) o) o
      by_test true = last_or-else o (filter_map (value_given_by p) (placed b))
      by_test false = refl

      first : last_or o (filter_map (value_given_by p) (filter (is_until upto) (placed b))) ≡ cond (is_batch_until upto b) (option_or (given_by b) o) o
      first = ap (λ xs. last_or o (filter_map (value_given_by p) xs)) (of_batch upto b (enumerate_from 0 b.records)) ∙ by_test (is_batch_until upto b)

  pick-none : (o : Option ℤ) (h : Holding) (upto : ℕ) → list_all (λ b. not (is_batch_until upto b)) h ≡ true → pick o h upto ≡ o
  unfolding pick
  pick-none o [] upto none = refl
  pick-none o (b ∷ h) upto none =
      let parts = and_parts (not (is_batch_until upto b)) (list_all (λ b. not (is_batch_until upto b)) h) none in
      ap (λ q. pick q h upto) (cond-false (is_batch_until upto b) (option_or (given_by b) o) o (from_not (is_batch_until upto b) parts.0)) ∙ pick-none o h upto parts.1
    where
      from_not : (t : Bool) → not t ≡ true → t ≡ false
      from_not true e = absurd (cc)
      from_not false e = refl

  later_not_until : (b c : Batch) (s : ℕ) → is_batch_at p.agent s b ≡ true → comes_before b c ≡ true → not (is_batch_until s c) ≡ true
  later_not_until b c s at before = grind (arith, nat_tests)

  later_not_below : (b c : Batch) (s : ℕ) → is_batch_at p.agent (s + 1) b ≡ true → comes_before b c ≡ true → not (is_batch_until s c) ≡ true
  later_not_below b c s at before = grind (arith, nat_tests)

  at_is_until : (b : Batch) (s : ℕ) → is_batch_at p.agent s b ≡ true → is_batch_until s b ≡ true
  at_is_until b s at = grind (arith, nat_tests)

  at_not_below : (b : Batch) (s : ℕ) → is_batch_at p.agent (s + 1) b ≡ true → is_batch_until s b ≡ false
  at_not_below b s at = grind (arith, nat_tests)

  past_both : (b : Batch) (s : ℕ) → is_batch_at p.agent (s + 1) b ≡ false → is_batch_until (s + 1) b ≡ is_batch_until s b
  past_both b s past = grind (arith, nat_tests)

  -- The batch at one more sequence goes before all below it.
  pick-step : (o : Option ℤ) (h : Holding) (s : ℕ) → is_in_order h ≡ true → pick o h (s + 1) ≡ option_or (option_and_then given_by (held h p.agent (s + 1))) (pick o h s)
  unfolding pick
  pick-step o [] s order = refl
  pick-step o (b ∷ h) s order =
      let parts = in_order_parts b h order in
      elim (cases_Bool (is_batch_at p.agent (s + 1) b)) [
        | inl at ↦
            let held_here = cond-true (is_batch_at p.agent (s + 1) b) (Some b) (held h p.agent (s + 1)) at in
            let above = ap (λ q. pick q h (s + 1)) (cond-true (is_batch_until (s + 1) b) (option_or (given_by b) o) o (at_is_until b (s + 1) at)) ∙ pick-none
            (option_or (given_by b) o) h (s + 1)
            (list_all-weaker (comes_before b) (λ c. not (is_batch_until (s + 1) c)) (λ c. later_not_until b c (s + 1) at) h parts.0) in
            let below = ap (λ q. pick q h s) (cond-false (is_batch_until s b) (option_or (given_by b) o) o (at_not_below b s at)) ∙ pick-none o h s (list_all-weaker (comes_before b) (λ c. not (is_batch_until s c)) (λ c. later_not_below b c s at) h parts.0) in
            above ∙ sym (ap (λ f. option_or (option_and_then given_by f) (pick o (b ∷ h) s)) held_here ∙ ap (λ q. option_or (given_by b) q) below)
        | inr past ↦
            let held_later = cond-false (is_batch_at p.agent (s + 1) b) (Some b) (held h p.agent (s + 1)) past in
            ap (λ t. pick (cond t (option_or (given_by b) o) o) h (s + 1)) (past_both b s past)
            ∙ (pick-step (cond (is_batch_until s b) (option_or (given_by b) o) o) h s parts.1
            ∙ sym (ap (λ f. option_or (option_and_then given_by f) (pick o (b ∷ h) s)) held_later))
      ]

-- ---- sequence by sequence

given_in_place : (p : Position) (b : Batch) → b.agent ≡ p.agent → last_or None (filter_map (value_given_by p) (placed b)) ≡ value_given_in b p.seq p.index
given_in_place p b same = ap (λ a. last_or None (filter_map (value_given_by (record { agent = a; seq = p.seq; index = p.index })) (placed b))) (sym same)

pub last_given-held : (h : Holding) (p : Position) (s : ℕ) (b : Batch) → IsHolding h → Some b ≡ held h p.agent (s + 1) → last_given h p (s + 1) ≡ option_or (value_given_in b p.seq p.index) (last_given h p s)
last_given-held h p s b is at =
    let place = (held_place h p.agent (s + 1) b (sym at)).0 in
    given_is_pick p None h (s + 1)
    ∙ (pick-step p None h s is.in_order
    ∙ (ap (λ f. option_or (option_and_then (λ c. last_or None (filter_map (value_given_by p) (placed c))) f) (pick p None h s)) (sym at)
    ∙ (ap (λ v. option_or v (pick p None h s)) (given_in_place p b place) ∙ ap (λ q. option_or (value_given_in b p.seq p.index) q) (sym (given_is_pick p None h s)))))

pub last_given-absent : (h : Holding) (p : Position) (s : ℕ) → IsHolding h → None ≡ held h p.agent (s + 1) → last_given h p (s + 1) ≡ last_given h p s
last_given-absent h p s is at =
    given_is_pick p None h (s + 1)
    ∙ (pick-step p None h s is.in_order
    ∙ (ap (λ f. option_or (option_and_then (λ c. last_or None (filter_map (value_given_by p) (placed c))) f) (pick p None h s)) (sym at) ∙ sym (given_is_pick p None h s)))

-- A search from a sequence downwards: it ends where a batch gives a value,
pub found_at : (h : Holding) (p : Position) (upto n : ℕ) (b : Batch) (v q : Option ℤ) → IsHolding h → 0 < n → last_given h p upto ≡ last_given h p n → Some b ≡ held h p.agent n → v ≡ value_given_in b p.seq p.index → is_some v ≡ true → last_given h p upto ≡ option_or v q
found_at h p upto zero b v q is some so_far at value found = absurd (omega arith)
found_at h p upto (suc s) b v q is some so_far at value found =
    let next : suc s ≡ s + 1 = omega arith in
    so_far ∙ (ap (last_given h p) next ∙ (last_given-held h p s b is (subst (λ n. Some b ≡ held h p.agent n) next at) ∙ (ap (λ w. option_or w (last_given h p s)) (sym value) ∙ either v found)))
  where
    either : (v : Option ℤ) → is_some v ≡ true → option_or v (last_given h p s) ≡ option_or v q
    either None found = absurd (cc)
    either (Some x) found = refl

-- and goes on where it gives none,
pub passed_held : (h : Holding) (p : Position) (upto n : ℕ) (b : Batch) (v : Option ℤ) → IsHolding h → 0 < n → last_given h p upto ≡ last_given h p n → Some b ≡ held h p.agent n → v ≡ value_given_in b p.seq p.index → is_some v ≡ false → last_given h p upto ≡ last_given h p (n - 1)
passed_held h p upto zero b v is some so_far at value found = absurd (omega arith)
passed_held h p upto (suc s) b v is some so_far at value found =
    let next : suc s ≡ s + 1 = omega arith in
    let below : s ≡ suc s - 1 = omega arith in
    so_far ∙ (ap (last_given h p) next ∙ (last_given-held h p s b is (subst (λ n. Some b ≡ held h p.agent n) next at) ∙ (ap (λ w. option_or w (last_given h p s)) (sym value) ∙ (either v found ∙ ap (last_given h p) below))))
  where
    either : (v : Option ℤ) → is_some v ≡ false → option_or v (last_given h p s) ≡ last_given h p s
    either None found = refl
    either (Some x) found = absurd (cc)

-- or where there is none.
pub passed_absent : (h : Holding) (p : Position) (upto n : ℕ) → IsHolding h → 0 < n → last_given h p upto ≡ last_given h p n → None ≡ held h p.agent n → last_given h p upto ≡ last_given h p (n - 1)
passed_absent h p upto zero is some so_far at = absurd (omega arith)
passed_absent h p upto (suc s) is some so_far at =
    let next : suc s ≡ s + 1 = omega arith in
    let below : s ≡ suc s - 1 = omega arith in
    so_far ∙ (ap (last_given h p) next ∙ (last_given-absent h p s is (subst (λ n. None ≡ held h p.agent n) next at) ∙ ap (last_given h p) below))
