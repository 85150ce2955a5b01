-- The price in force is a row of the SKU that has begun, none that has begun is later, and no other begins on its day.
use Rattle.std.proofs.Common.{◌≡◌, ℕ, zero, suc, ◌<◌, Bool, true, false, not, ◌&&◌, List, [], ◌∷◌, ◌++◌, length, get_or, filter, Option, Some, None, ℤ, ◌≤ℤ◌, ◌<ℤ◌, refl, sym, ap, subst, ◌∙◌, inl, inr, eq-eqb, arith}
use Rattle.std.specs.Prelude.{All, int_le, int_lt, ◌==◌}
use Rattle.std.specs.List.{Contains, list_any}
use Rattle.std.specs.Ordering.{int_eq}
use Rattle.std.proofs.lemmas.Bool.{and_parts, and_from, and_right, or_parts, not-true, false≢true, cond-true, cond-false, cases_Bool}
use Rattle.std.proofs.lemmas.Int.{ints}
use Rattle.std.proofs.lemmas.Option.{same_Some, none-some}
use Rattle.std.proofs.lemmas.List.Elements.{All-nil, All-cons, All-head, All-tail, All-weaker, All-contains_itself, filter-append}
use Rattle.metering_model.specs.BatchReading.{is_same}
use Rattle.metering_model.specs.Sheet.{Sheet, PriceRow}
use Rattle.metering_model.specs.SheetRules.{are_apart, has_same_key, IsSheet}
use Rattle.metering_model.specs.PriceInForce.{later_of, latest, price_in_force}
use Rattle.metering_model.proofs.FieldLaws.{same_read}
use Rattle.metering_model.proofs.SheetLaws.{latest_has}
use Rattle.metering_model.proofs.ValueBounds.{all_passing, from_int_le}

-- ---- the latest of a list

later_not_none : (r : PriceRow) (o : Option PriceRow) → later_of r o ≡ None → ⊥
later_not_none r None e = absurd (none-some r (sym e))
later_not_none r (Some s) e = elim (cases_Bool (int_lt r.from s.from)) [
  | inl t ↦ none-some s (sym e ∙ cond-true (int_lt r.from s.from) (Some s) (Some r) t)
  | inr f ↦ none-some r (sym e ∙ cond-false (int_lt r.from s.from) (Some s) (Some r) f)
]

none_latest : (rs : List PriceRow) → latest rs ≡ None → rs ≡ []
none_latest [] e = refl
none_latest (r ∷ rs) e = absurd (later_not_none r (latest rs) e)

-- Each of them has begun by the day on which this one began.
abbrev IsLastOf : List PriceRow → PriceRow → Type 0
IsLastOf rs p = All (λ q. q.from ≤ℤ p.from) rs

begins_last : (a b : ℤ) → int_lt a b ≡ true → a ≤ℤ b
begins_last a b h = grind (arith, ints)

begins_first : (a b : ℤ) → int_lt a b ≡ false → b ≤ℤ a
begins_first a b h = grind (arith, ints)

itself : (a : ℤ) → a ≤ℤ a
itself a = grind (arith, ints)

through : (a b c : ℤ) → a ≤ℤ b → b ≤ℤ c → a ≤ℤ c
through a b c h k = grind (arith, ints)

onto_last : (r : PriceRow) (rs : List PriceRow) (o : Option PriceRow) (p : PriceRow) → latest rs ≡ o → ((s : PriceRow) → latest rs ≡ Some s → IsLastOf rs s) → later_of r o ≡ Some p → IsLastOf (r ∷ rs) p
onto_last r rs None p e rest f =
    let here : r ≡ p = same_Some r p f in
    All-cons (λ q. q.from ≤ℤ p.from) r rs (subst (λ (x : PriceRow). r.from ≤ℤ x.from) here (itself r.from))
    (subst (λ xs. IsLastOf xs p) (sym (none_latest rs e)) (All-nil (λ q. q.from ≤ℤ p.from)))
onto_last r rs (Some s) p e rest f = elim (cases_Bool (int_lt r.from s.from)) [
  | inl t ↦
      let there : s ≡ p = same_Some s p (sym (cond-true (int_lt r.from s.from) (Some s) (Some r) t) ∙ f) in
      subst (IsLastOf (r ∷ rs)) there (All-cons (λ q. q.from ≤ℤ s.from) r rs (begins_last r.from s.from t) (rest s e))
  | inr n ↦
      let here : r ≡ p = same_Some r p (sym (cond-false (int_lt r.from s.from) (Some s) (Some r) n) ∙ f) in
      subst (IsLastOf (r ∷ rs)) here
      (All-cons (λ q. q.from ≤ℤ r.from) r rs (itself r.from)
      (All-weaker (λ q. q.from ≤ℤ s.from) (λ q. q.from ≤ℤ r.from) (λ q h. through q.from s.from r.from h (begins_first r.from s.from n)) rs (rest s e)))
]

latest_is_last : (rs : List PriceRow) (p : PriceRow) → latest rs ≡ Some p → IsLastOf rs p
latest_is_last [] p e = All-nil (λ q. q.from ≤ℤ p.from)
latest_is_last (r ∷ rs) p e = onto_last r rs (latest rs) p refl (latest_is_last rs) e

-- ---- the rows of a SKU that have begun

same_text : (t : List ℕ) → is_same t t ≡ true
same_text [] = refl
same_text (c ∷ cs) = and_from (c == c) (is_same cs cs) (eq-eqb c c refl) (same_text cs)

to_int_le : (a b : ℤ) → a ≤ℤ b → int_le a b ≡ true
to_int_le a b h = grind (arith, ints)

not_int_le : (a b : ℤ) → b <ℤ a → int_le a b ≡ false
not_int_le a b h = grind (arith, ints)

is_after : (a b : ℤ) → int_le a b ≡ false → b <ℤ a
is_after a b h = grind (arith, ints)

-- what a filter keeps passes its test
kept_pass : {A : Type 0} (P : A → Type 0) (p : A → Bool) (xs : List A) → All P xs → All (λ x. P x × (p x ≡ true)) (filter p xs)
kept_pass P p [] all = All-nil (λ x. P x × (p x ≡ true))
kept_pass {A} P p (x ∷ xs) all =
    let rest = kept_pass P p xs (All-tail P x xs all) in
    let Q = λ (y : A). P y × (p y ≡ true) in
    elim (cases_Bool (p x)) [
      | inl t ↦ subst (All Q) (sym (cond-true (p x) (x ∷ filter p xs) (filter p xs) t)) (All-cons Q x (filter p xs) (All-head P x xs all, t) rest)
      | inr f ↦ subst (All Q) (sym (cond-false (p x) (x ∷ filter p xs) (filter p xs) f)) rest
    ]

keeps_none : {A : Type 0} (p : A → Bool) (xs : List A) → All (λ x. p x ≡ false) xs → filter p xs ≡ []
keeps_none p [] all = refl
keeps_none p (x ∷ xs) all =
    cond-false (p x) (x ∷ filter p xs) (filter p xs) (All-head (λ y. p y ≡ false) x xs all)
    ∙ keeps_none p xs (All-tail (λ y. p y ≡ false) x xs all)

module _ (sku : List ℕ) (day : ℤ) where
  abbrev has_begun : PriceRow → Bool
  has_begun r = is_same r.sku sku && int_le r.from day

  passes : (q : PriceRow) → q.sku ≡ sku → q.from ≤ℤ day → has_begun q ≡ true
  passes q same from = and_from _ _ (ap (λ t. is_same t sku) same ∙ same_text sku) (to_int_le q.from day from)

  fails : (q : PriceRow) → (q.sku ≡ sku → day <ℤ q.from) → has_begun q ≡ false
  fails q later = elim (cases_Bool (is_same q.sku sku)) [
    | inl same ↦ and_right (is_same q.sku sku) (int_le q.from day) (not_int_le q.from day (later (same_read q.sku sku same)))
    | inr other ↦ ap (λ b. b && int_le q.from day) other
  ]

  pub in_force_begun : (sheet : Sheet) (p : PriceRow) → price_in_force sheet sku day ≡ Some p → Contains sheet.prices p × (p.sku ≡ sku) × (p.from ≤ℤ day)
  in_force_begun sheet p e =
      let kept = kept_pass (Contains sheet.prices) has_begun sheet.prices (All-contains_itself sheet.prices) in
      let found = latest_has (λ q. Contains sheet.prices q × (has_begun q ≡ true)) (filter has_begun sheet.prices) p kept e in
      let parts = and_parts (is_same p.sku sku) (int_le p.from day) found.1 in
      (found.0, same_read p.sku sku parts.0, from_int_le p.from day parts.1)

  pub in_force_last : (sheet : Sheet) (p : PriceRow) → price_in_force sheet sku day ≡ Some p → All (λ q. q.sku ≡ sku → q.from ≤ℤ day → q.from ≤ℤ p.from) sheet.prices
  in_force_last sheet p e =
      All-weaker (λ q. has_begun q ≡ true → q.from ≤ℤ p.from) (λ q. q.sku ≡ sku → q.from ≤ℤ day → q.from ≤ℤ p.from)
      (λ q last same from. last (passes q same from)) sheet.prices
      (all_passing (λ q. q.from ≤ℤ p.from) has_begun sheet.prices (latest_is_last (filter has_begun sheet.prices) p e))

  pub none_in_force : (sheet : Sheet) → price_in_force sheet sku day ≡ None → All (λ q. q.sku ≡ sku → day <ℤ q.from) sheet.prices
  none_in_force sheet e =
      All-weaker (λ q. has_begun q ≡ true → ⊥) (λ q. q.sku ≡ sku → day <ℤ q.from)
      (λ q never same. begins_after q never same) sheet.prices
      (all_passing (λ (q : PriceRow). ⊥) has_begun sheet.prices
      (subst (All (λ (q : PriceRow). ⊥)) (sym (none_latest (filter has_begun sheet.prices) e)) (All-nil (λ (q : PriceRow). ⊥))))
    where
      begins_after : (q : PriceRow) → (has_begun q ≡ true → ⊥) → q.sku ≡ sku → day <ℤ q.from
      begins_after q never same = elim (cases_Bool (int_le q.from day)) [
        | inl t ↦ absurd (never (passes q same (from_int_le q.from day t)))
        | inr f ↦ is_after q.from day f
      ]

  pub not_in_force : (sheet : Sheet) → All (λ q. q.sku ≡ sku → day <ℤ q.from) sheet.prices → price_in_force sheet sku day ≡ None
  not_in_force sheet all =
      ap latest (keeps_none has_begun sheet.prices (All-weaker (λ q. q.sku ≡ sku → day <ℤ q.from) (λ q. has_begun q ≡ false) fails sheet.prices all))

  pub later_changes_nothing : (sheet : Sheet) (before after : List PriceRow) (q : PriceRow) → day <ℤ q.from →
      price_in_force (record sheet { prices = before ++ q ∷ after }) sku day ≡ price_in_force (record sheet { prices = before ++ after }) sku day
  later_changes_nothing sheet before after q later =
      ap latest
      (filter-append has_begun before (q ∷ after)
      ∙ (ap (λ rs. filter has_begun before ++ rs) (cond-false (has_begun q) (q ∷ filter has_begun after) (filter has_begun after) (fails q (λ _. later)))
      ∙ sym (filter-append has_begun before after)))

-- ---- of a sheet that keeps its rules, no other row of the SKU begins on that day

none_passes : {A : Type 0} (p : A → Bool) (xs : List A) → list_any p xs ≡ false → All (λ x. p x ≡ false) xs
none_passes p [] e = All-nil (λ x. p x ≡ false)
none_passes p (x ∷ xs) e =
    let parts = or_parts (p x) (list_any p xs) e in
    All-cons (λ y. p y ≡ false) x xs parts.0 (none_passes p xs parts.1)

-- of elements that are apart, none but an element itself is like it
apart_only : {A : Type 0} (alike : A → A → Bool) → ((x y : A) → alike x y ≡ true → alike y x ≡ true) → (xs : List A) → are_apart alike xs ≡ true →
    (k : ℕ) (d : A) → k < length xs → All (λ q. alike (get_or xs k d) q ≡ true → q ≡ get_or xs k d) xs
apart_only alike turned [] apart k d inside = absurd (omega arith)
apart_only alike turned (x ∷ xs) apart zero d inside =
    let parts = and_parts (not (list_any (alike x) xs)) (are_apart alike xs) apart in
    let others = none_passes (alike x) xs (not-true _ parts.0) in
    All-cons (λ q. alike x q ≡ true → q ≡ x) x xs (λ _. refl)
    (All-weaker (λ q. alike x q ≡ false) (λ q. alike x q ≡ true → q ≡ x) (λ q no yes. absurd (false≢true (sym no ∙ yes))) xs others)
apart_only alike turned (x ∷ xs) apart (suc k) d inside =
    let parts = and_parts (not (list_any (alike x) xs)) (are_apart alike xs) apart in
    let others = none_passes (alike x) xs (not-true _ parts.0) in
    let p = get_or xs k d in
    All-cons (λ q. alike p q ≡ true → q ≡ p) x xs
    (λ yes. absurd (false≢true (sym (others k d (omega arith)) ∙ turned p x yes)))
    (apart_only alike turned xs parts.1 k d (omega arith))

same_from : (a b : ℤ) → a ≡ b → int_eq a b ≡ true
same_from a b e = grind (arith, ints)

from_same : (a b : ℤ) → int_eq a b ≡ true → a ≡ b
from_same a b h = grind (arith, ints)

alike_rows : (p q : PriceRow) → p.sku ≡ q.sku → p.from ≡ q.from → has_same_key p q ≡ true
alike_rows p q sku from = and_from _ _ (ap (λ t. is_same t q.sku) sku ∙ same_text q.sku) (same_from p.from q.from from)

turned_rows : (p q : PriceRow) → has_same_key p q ≡ true → has_same_key q p ≡ true
turned_rows p q h =
    let parts = and_parts (is_same p.sku q.sku) (int_eq p.from q.from) h in
    alike_rows q p (sym (same_read p.sku q.sku parts.0)) (sym (from_same p.from q.from parts.1))

pub in_force_alone : (sheet : Sheet) (sku : List ℕ) (day : ℤ) (p : PriceRow) → IsSheet sheet → price_in_force sheet sku day ≡ Some p →
    All (λ q. q.sku ≡ sku → q.from ≡ p.from → q ≡ p) sheet.prices
in_force_alone sheet sku day p ok e =
    let begun = in_force_begun sku day sheet p e in
    let there = begun.0 in
    let only = apart_only has_same_key turned_rows sheet.prices ok.one_price there.0 p there.1 in
    let only_p = subst (λ x. All (λ q. has_same_key x q ≡ true → q ≡ x) sheet.prices) there.2 only in
    All-weaker (λ q. has_same_key p q ≡ true → q ≡ p) (λ q. q.sku ≡ sku → q.from ≡ p.from → q ≡ p)
    (λ q h same from. h (alike_rows p q (begun.1 ∙ sym same) (sym from))) sheet.prices only_p
