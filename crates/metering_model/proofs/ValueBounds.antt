-- How great values can be.
use Rattle.std.proofs.Common.{◌≡◌, ℕ, ◌+◌, ◌<◌, Bool, true, false, not, ◌&&◌, ◌||◌, cond, ltb, List, [], ◌∷◌, map, filter, Option, Some, None, unwrap_or, get_or, ℤ, pos, ◌≤ℤ◌, unsigned_abs, refl, sym, ap, subst, ◌∙◌, arith, inl, inr}
use Rattle.std.specs.Prelude.{All, int_le, ◌==◌}
use Rattle.std.specs.List.{enumerate_from, filter_map, cons_option, last_or}
use Rattle.std.proofs.lemmas.Bool.{cond_both, cond-true, cond-false, cases_Bool, and_parts, eqb-true, false≢true}
use Rattle.std.proofs.lemmas.Option.{cond_some}
use Rattle.std.proofs.lemmas.Int.{ints}
use Rattle.std.proofs.lemmas.Bool.Decides.{nat_tests}
use Rattle.std.proofs.lemmas.List.Elements.{All-nil, All-cons, All-head, All-tail, All-append, All-filter, All-weaker}
use Rattle.metering_model.specs.NumberText.{value_limit}
use Rattle.metering_model.specs.Batch.{Batch, IsWellFormed, Record, Reads, Amends, Reading, IsRecord, is_priced}
use Rattle.metering_model.specs.Sheet.{Sheet}
use Rattle.metering_model.specs.Holding.{Holding, IsHolding, Position, Placed, records_in_order, placed, is_same_place, reading_at}
use Rattle.metering_model.specs.ValueAtSequence.{value_at, value_given, value_given_by, journal_until}
use Rattle.metering_model.specs.JournalRules.{MeetsJournalRules, first_broken, broken_by, is_fit_target, comes_earlier}
use Rattle.metering_model.specs.declared.BrokenRule.{BrokenRule}
use Rattle.metering_model.specs.declared.BrokenRule.TheVariants.{BadTarget}
use Rattle.metering_model.proofs.RecordPlaces.{place_in, stands_at, same_position, reading_there}

-- ---- what every value given to a reading is

-- a property of 0 and of each value that a record gives a reading is one of its value at each sequence
pub all_filter_map : {A B : Type 0} (P : B → Type 0) (g : A → Option B) (xs : List A) → All (λ x. (y : B) → g x ≡ Some y → P y) xs → All P (filter_map g xs)
all_filter_map P g [] all = All-nil P
all_filter_map {A} {B} P g (x ∷ xs) all =
    onto (g x) (All-head (λ a. (y : B) → g a ≡ Some y → P y) x xs all) (filter_map g xs) (all_filter_map P g xs (All-tail (λ a. (y : B) → g a ≡ Some y → P y) x xs all))
  where
    onto : (o : Option B) → ((y : B) → o ≡ Some y → P y) → (ys : List B) → All P ys → All P (cons_option o ys)
    onto None here ys rest = rest
    onto (Some y) here ys rest = All-cons P y ys (here y refl) rest

last_of_all : (P : ℤ → Type 0) (o : Option ℤ) (xs : List ℤ) → P (unwrap_or o (pos 0)) → All P xs → P (unwrap_or (last_or o xs) (pos 0))
last_of_all P o [] here all = here
last_of_all P o (x ∷ xs) here all = last_of_all P (Some x) xs (All-head P x xs all) (All-tail P x xs all)

value_has : (P : ℤ → Type 0) (h : Holding) (at : Position) (upto : ℕ) → P (pos 0) → All (λ x. (v : ℤ) → value_given_by at x ≡ Some v → P v) (records_in_order h) → P (value_at h at upto)
value_has P h at upto zero all =
    cond_both (ltb upto at.seq) (pos 0) _ P (λ _. zero)
    (λ _. last_of_all P None (filter_map (value_given_by at) (journal_until h at.agent upto)) zero
    (all_filter_map P (value_given_by at) (journal_until h at.agent upto) (All-filter _ (λ x. (v : ℤ) → value_given_by at x ≡ Some v → P v) (records_in_order h) all)))

-- ---- each record of a holding meets its rule

abbrev MeetsRule : Placed → Type 0
MeetsRule x = IsRecord x.what

placed_meet : (b : Batch) (n : ℕ) (rs : List Record) → All IsRecord rs → All MeetsRule (map (place_in b) (enumerate_from n rs))
placed_meet b n [] all = All-nil MeetsRule
placed_meet b n (r ∷ rs) all =
    All-cons MeetsRule (place_in b (n, r)) (map (place_in b) (enumerate_from (n + 1) rs)) (All-head IsRecord r rs all) (placed_meet b (n + 1) rs (All-tail IsRecord r rs all))

records_meet : (h : Holding) → All IsWellFormed h → All MeetsRule (records_in_order h)
records_meet [] all = All-nil MeetsRule
records_meet (b ∷ h) all =
    All-append MeetsRule (placed b) (records_in_order h) (placed_meet b 0 b.records (All-head IsWellFormed b h all).records) (records_meet h (All-tail IsWellFormed b h all))

-- ---- a value is below its limit

abbrev IsSmall : ℤ → Type 0
IsSmall v = unsigned_abs v < value_limit

given_small : (at place : Position) (what : Record) → IsRecord what → (v : ℤ) → value_given at place what ≡ Some v → IsSmall v
given_small at place (Reads r) rule v e = subst IsSmall (cond_some (is_same_place at place) r.value v e).1 rule.value
given_small at place (Amends seq index value) rule v e = subst IsSmall (cond_some (is_same_place at (record { agent = place.agent; seq = seq; index = index })) value v e).1 rule.value_in

pub value_small : (h : Holding) (at : Position) (upto : ℕ) → IsHolding h → unsigned_abs (value_at h at upto) < value_limit
value_small h at upto ok =
    value_has IsSmall h at upto (omega arith)
    (All-weaker MeetsRule (λ x. (v : ℤ) → value_given_by at x ≡ Some v → IsSmall v) (λ x rule. given_small at x.place x.what rule) (records_in_order h) (records_meet h ok.batches))

-- ---- under the journal rules a priced reading has no negative value

-- a place that is the same is that place
pub same_place_is : (p q : Position) → is_same_place p q ≡ true → p ≡ q
same_place_is p q same =
    let parts = and_parts ((p.agent == q.agent) && (p.seq == q.seq)) (p.index == q.index) same in
    let front = and_parts (p.agent == q.agent) (p.seq == q.seq) parts.0 in
    same_position q p.agent p.seq p.index (eqb-true _ _ front.0) (eqb-true _ _ front.1) (eqb-true _ _ parts.1)

pub same_place_itself : (p : Position) → is_same_place p p ≡ true
same_place_itself p = grind (arith, nat_tests)

-- what each that a filter keeps has each has that passes
pub all_passing : {A : Type 0} (P : A → Type 0) (p : A → Bool) (xs : List A) → All P (filter p xs) → All (λ x. p x ≡ true → P x) xs
all_passing P p [] all = All-nil (λ x. p x ≡ true → P x)
all_passing P p (x ∷ xs) all = elim (cases_Bool (p x)) [
  | inl t ↦
      let kept = subst (All P) (cond-true (p x) (x ∷ filter p xs) (filter p xs) t) all in
      All-cons (λ y. p y ≡ true → P y) x xs (λ _. All-head P x (filter p xs) kept) (all_passing P p xs (All-tail P x (filter p xs) kept))
  | inr f ↦
      let kept = subst (All P) (cond-false (p x) (x ∷ filter p xs) (filter p xs) f) all in
      All-cons (λ y. p y ≡ true → P y) x xs (λ t. absurd (false≢true (sym f ∙ t))) (all_passing P p xs kept)
]

-- no record breaks a rule
abbrev BreaksNone : Sheet → Holding → Placed → Type 0
BreaksNone sheet h x = broken_by sheet h x.place x.what ≡ None

none_breaks : (sheet : Sheet) (h : Holding) (xs : List Placed) → first_broken sheet h xs ≡ None → All (BreaksNone sheet h) xs
none_breaks sheet h [] e = All-nil (BreaksNone sheet h)
none_breaks sheet h (x ∷ xs) e = by_first (broken_by sheet h x.place x.what) refl e (λ f. none_breaks sheet h xs f)
  where
    by_first : (o : Option BrokenRule) → broken_by sheet h x.place x.what ≡ o → ◌≡◌ {A = Option BrokenRule} (elim o [ Some rule ↦ Some rule | None ↦ first_broken sheet h xs ]) None → (first_broken sheet h xs ≡ None → All (BreaksNone sheet h) xs) → All (BreaksNone sheet h) (x ∷ xs)
    by_first None b f rest = All-cons (BreaksNone sheet h) x xs b (rest f)
    by_first (Some rule) b f rest = absurd (cc)

pub from_int_le : (a b : ℤ) → int_le a b ≡ true → a ≤ℤ b
from_int_le a b h = grind (arith, ints)

module _ (sheet : Sheet) (h : Holding) (at : Position) (r : Reading) (found : reading_at h at ≡ Some r) (priced : is_priced r.kind ≡ true) where
  -- an amendment of it that breaks no rule gives it no negative value
  amended_well : (place : Position) (seq index : ℕ) (value : ℤ) → broken_by sheet h place (Amends seq index value) ≡ None →
      is_same_place at (record { agent = place.agent; seq = seq; index = index }) ≡ true → pos 0 ≤ℤ value
  amended_well place seq index value unbroken here =
      let target : Position = record { agent = place.agent; seq = seq; index = index } in
      let same : at ≡ target = same_place_is at target here in
      let looked : reading_at h target ≡ Some r = ap (reading_at h) (sym same) ∙ found in
      let fit = passed (comes_earlier place seq index && is_fit_target value (reading_at h target)) unbroken in
      let is_fit = (and_parts (comes_earlier place seq index) (is_fit_target value (reading_at h target)) fit).1 in
      from_int_le (pos 0) value (not_below (is_priced r.kind) (int_le (pos 0) value) priced (sym (ap (is_fit_target value) looked) ∙ is_fit))
    where
      passed : (b : Bool) → cond b None (Some BadTarget) ≡ None → b ≡ true
      passed true e = refl
      passed false e = absurd (cc)

      not_below : (b c : Bool) → b ≡ true → (not b || c) ≡ true → c ≡ true
      not_below true c e f = f
      not_below false c e f = absurd (false≢true e)

  given_well : (place : Position) (what : Record) → broken_by sheet h place what ≡ None → (is_same_place place at ≡ true → what ≡ Reads r) → IsRecord what →
      (v : ℤ) → value_given at place what ≡ Some v → pos 0 ≤ℤ v
  given_well place (Reads s) unbroken only rule v e =
      let parts = cond_some (is_same_place at place) s.value v e in
      let here : is_same_place place at ≡ true = subst (λ q. is_same_place q at ≡ true) (same_place_is at place parts.0) (same_place_itself at) in
      let alike = only here in
      let same : s ≡ r = cc in
      subst (λ w. pos 0 ≤ℤ w) parts.1 (rule.not_negative (ap (λ t. is_priced t.kind) same ∙ priced))
  given_well place (Amends seq index value) unbroken only rule v e =
      let parts = cond_some (is_same_place at (record { agent = place.agent; seq = seq; index = index })) value v e in
      subst (λ w. pos 0 ≤ℤ w) parts.1 (amended_well place seq index value unbroken parts.0)

  pub value_not_negative : (upto : ℕ) → MeetsJournalRules sheet h → pos 0 ≤ℤ value_at h at upto
  value_not_negative upto meets =
      let ok = meets.is_holding in
      let IsRead = λ (x : Placed). x.what ≡ Reads r in
      let xs = records_in_order h in
      let unbroken : All (BreaksNone sheet h) xs = none_breaks sheet h xs meets.none_broken in
      let rules : All MeetsRule xs = records_meet h ok.batches in
      let one : All IsRead (record { place = at; what = Reads r } ∷ []) = All-cons IsRead (record { place = at; what = Reads r }) [] refl (All-nil IsRead) in
      let only : All (λ x. stands_at at x ≡ true → IsRead x) xs = all_passing IsRead (stands_at at) xs (subst (All IsRead) (sym (reading_there h at r ok found)) one) in
      value_has (λ v. pos 0 ≤ℤ v) h at upto (omega (arith, ints)) (λ k d inside.
      let x = get_or xs k d in given_well x.place x.what (unbroken k d inside) (only k d inside) (rules k d inside))
