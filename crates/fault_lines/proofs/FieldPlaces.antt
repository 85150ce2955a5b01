-- Which field is the first that does not meet its rule, by the code of the line.
use Rattle.std.proofs.Common.{◌≡◌, ℕ, ◌<◌, Bool, true, false, not, ◌&&◌, ◌||◌, cond, List, [], ◌∷◌, length, map, Option, Some, None, Err, codes, refl, sym, ap, ◌∙◌, subst, arith}
use Rattle.std.specs.Prelude.{Result, if◌then◌else◌}
use Rattle.std.specs.Result.{result_ok}
use Rattle.std.specs.Option.{is_some}
use Rattle.std.proofs.lemmas.Bool.{false≢true}
use Rattle.metering_model.specs.Batch.{is_empty, is_priced, is_text}
use Rattle.metering_model.specs.BatchReading.{fields_in, is_same, kind_in, record_in, tags_in, whole_in}
use Rattle.metering_model.specs.Dates.{stamp_in}
use Rattle.metering_model.specs.NumberText.{value_in}
use Rattle.metering_model.specs.declared.Kind.{Kind}
use Rattle.metering_model.specs.declared.Kind.TheVariants.{Usage, Purchase, Credit, Tax, Adjustment}
use Rattle.metering_model.specs.declared.Version.{Version}
use Rattle.metering_model.specs.declared.BatchCode.{BatchCode}
use Rattle.metering_model.specs.declared.BatchCode.TheVariants.{Fields, Time, Number, Text, Tags}
use Rattle.fault_lines.specs.declared.fields.ReadingFields.{ReadingFields}
use Rattle.fault_lines.specs.declared.fields.RecordField.{RecordField}
use Rattle.fault_lines.specs.declared.fields.RecordField.TheVariants as field
use Rattle.fault_lines.specs.Fields.{comes_later, fault_field, first_not_met, is_fit_value, line_rules, reading_rules}
use Rattle.fault_lines.specs.Inner.LineFields.{AreFieldsOf, is_priced_letter, number_field, text_field, time_field}
use Rattle.fault_lines.proofs.FieldLaws.{Rules, line_follows, result_of}

abbrev regions : List (List ℕ) → Rules
regions ts = map (λ t. (field.Region, is_text t)) ts

-- ---- results that are not alike

abbrev is_time : Result (Unit {0}) BatchCode → Bool
is_time (Err Time) = true
is_time _ = false

abbrev is_text_code : Result (Unit {0}) BatchCode → Bool
is_text_code (Err Text) = true
is_text_code _ = false

abbrev is_number : Result (Unit {0}) BatchCode → Bool
is_number (Err Number) = true
is_number _ = false

abbrev is_tags : Result (Unit {0}) BatchCode → Bool
is_tags (Err Tags) = true
is_tags _ = false

-- a region's fault is one of a text
region_code : (ts : List (List ℕ)) (c : BatchCode) → result_of (regions ts) ≡ Err c → c ≡ Text
region_code [] c is = absurd (cc)
region_code (t ∷ ts) c is = by_test (λ so. region_code ts c so) (is_text t) is
  where
    by_test : (result_of (regions ts) ≡ Err c → c ≡ Text) → (b : Bool) → result_of ((field.Region, b) ∷ regions ts) ≡ Err c → c ≡ Text
    by_test rest true so = rest so
    by_test rest false so = cc

region_first : (ts : List (List ℕ)) (c : BatchCode) → result_of (regions ts) ≡ Err c → Some field.Region ≡ first_not_met (regions ts)
region_first [] c is = absurd (cc)
region_first (t ∷ ts) c is = by_test (λ so. region_first ts c so) (is_text t) is
  where
    by_test : (result_of (regions ts) ≡ Err c → Some field.Region ≡ first_not_met (regions ts)) → (b : Bool)
        → result_of ((field.Region, b) ∷ regions ts) ≡ Err c → Some field.Region ≡ first_not_met ((field.Region, b) ∷ regions ts)
    by_test rest true so = rest so
    by_test rest false so = refl

module _ (ts : List (List ℕ)) where
  abbrev rules_by : (s e a r k v m t : Bool) → Rules
  rules_by s e a r k v m t =
      (field.Start, s) ∷ (field.End, e) ∷ (field.Account, a) ∷ (field.Resource, r) ∷ (field.Key, k) ∷ (field.Value, v)
      ∷ (field.Commitment, m) ∷ (field.Tags, t) ∷ regions ts

  time_first : (s e a r k v m t : Bool) → result_of (rules_by s e a r k v m t) ≡ Err Time → Some (if s then field.End else field.Start) ≡ first_not_met (rules_by s e a r k v m t)
  time_first false e a r k v m t is = refl
  time_first true false a r k v m t is = refl
  time_first true true false r k v m t is = absurd (false≢true (ap is_time is))
  time_first true true true false k v m t is = absurd (false≢true (ap is_time is))
  time_first true true true true false v m t is = absurd (false≢true (ap is_time is))
  time_first true true true true true false m t is = absurd (false≢true (ap is_time is))
  time_first true true true true true true false t is = absurd (false≢true (ap is_time is))
  time_first true true true true true true true false is = absurd (false≢true (ap is_time is))
  time_first true true true true true true true true is = absurd (let same = region_code ts Time is in cc)

  abbrev text_choice : (a r k m : Bool) → RecordField
  text_choice a r k m =
      if not a then field.Account else (if not r then field.Resource else (if not k then field.Key else (if not m then field.Commitment else field.Region)))

  text_first : (s e a r k v m t : Bool) → result_of (rules_by s e a r k v m t) ≡ Err Text → Some (text_choice a r k m) ≡ first_not_met (rules_by s e a r k v m t)
  text_first false e a r k v m t is = absurd (false≢true (ap is_text_code is))
  text_first true false a r k v m t is = absurd (false≢true (ap is_text_code is))
  text_first true true false r k v m t is = refl
  text_first true true true false k v m t is = refl
  text_first true true true true false v m t is = refl
  text_first true true true true true false m t is = absurd (false≢true (ap is_text_code is))
  text_first true true true true true true false t is = refl
  text_first true true true true true true true false is = absurd (false≢true (ap is_text_code is))
  text_first true true true true true true true true is = region_first ts Text is

  value_first : (s e a r k v m t : Bool) → result_of (rules_by s e a r k v m t) ≡ Err Number → Some field.Value ≡ first_not_met (rules_by s e a r k v m t)
  value_first false e a r k v m t is = absurd (false≢true (ap is_number is))
  value_first true false a r k v m t is = absurd (false≢true (ap is_number is))
  value_first true true false r k v m t is = absurd (false≢true (ap is_number is))
  value_first true true true false k v m t is = absurd (false≢true (ap is_number is))
  value_first true true true true false v m t is = absurd (false≢true (ap is_number is))
  value_first true true true true true false m t is = refl
  value_first true true true true true true false t is = absurd (false≢true (ap is_number is))
  value_first true true true true true true true false is = absurd (false≢true (ap is_number is))
  value_first true true true true true true true true is = absurd (let same = region_code ts Number is in cc)

  tags_first : (s e a r k v m t : Bool) → result_of (rules_by s e a r k v m t) ≡ Err Tags → Some field.Tags ≡ first_not_met (rules_by s e a r k v m t)
  tags_first false e a r k v m t is = absurd (false≢true (ap is_tags is))
  tags_first true false a r k v m t is = absurd (false≢true (ap is_tags is))
  tags_first true true false r k v m t is = absurd (false≢true (ap is_tags is))
  tags_first true true true false k v m t is = absurd (false≢true (ap is_tags is))
  tags_first true true true true false v m t is = absurd (false≢true (ap is_tags is))
  tags_first true true true true true false m t is = absurd (false≢true (ap is_tags is))
  tags_first true true true true true true false t is = absurd (false≢true (ap is_tags is))
  tags_first true true true true true true true false is = refl
  tags_first true true true true true true true true is = absurd (let same = region_code ts Tags is in cc)

-- ---- of a line with these fields

abbrev priced_of : Option Kind → Bool
priced_of (Some k) = is_priced k
priced_of None = false

-- the letters that price a reading
priced_letter : (letter : List ℕ) (k : Kind) → kind_in letter ≡ Some k → is_priced_letter letter ≡ is_priced k
priced_letter letter k of =
    by_tests (is_same letter (codes "U")) (is_same letter (codes "P")) (is_same letter (codes "C")) (is_same letter (codes "T")) (is_same letter (codes "A")) of
  where
    by_tests : (u p c t a : Bool)
        → cond u (Some Usage) (cond p (Some Purchase) (cond c (Some Credit) (cond t (Some Tax) (cond a (Some Adjustment) None)))) ≡ Some k → (u || p) ≡ is_priced k
    by_tests true p c t a so = ap priced_of so
    by_tests false true c t a so = ap priced_of so
    by_tests false false true t a so = ap priced_of so
    by_tests false false false true a so = ap priced_of so
    by_tests false false false false true so = ap priced_of so
    by_tests false false false false false so = absurd (cc)

abbrev line_of_fields : ReadingFields → List ℕ → List ℕ → List (List ℕ) → List (List ℕ)
line_of_fields f end value more = f.letter.now ∷ f.start.now ∷ end ∷ f.account.now ∷ f.resource.now ∷ f.key.now ∷ value ∷ f.commitment.now ∷ more

module _ (f : ReadingFields) (end value : List ℕ) where
  abbrev by_letter : Option Kind → List ℕ → List (List ℕ) → Rules
  by_letter (Some k) tags ts = reading_rules k f.start.now end f.account.now f.resource.now f.key.now value f.commitment.now tags ts
  by_letter None tags ts = []

  -- each claim about a reading's rules holds of the line's
  of_reading : (c : BatchCode) (o : RecordField) → ((k : Kind) (tags : List ℕ) (ts : List (List ℕ)) → kind_in f.letter.now ≡ Some k
      → result_of (by_letter (Some k) tags ts) ≡ Err c → Some o ≡ first_not_met (by_letter (Some k) tags ts))
      → (more : List (List ℕ)) → result_of (line_rules (line_of_fields f end value more)) ≡ Err c → Some o ≡ first_not_met (line_rules (line_of_fields f end value more))
  of_reading c o each [] is = absurd (cc)
  of_reading c o each (tags ∷ ts) is = by_kind (kind_in f.letter.now) refl is
    where
      by_kind : (q : Option Kind) → kind_in f.letter.now ≡ q → result_of (elim q [ Some k ↦ by_letter (Some k) tags ts | None ↦ [] ]) ≡ Err c
          → Some o ≡ first_not_met (elim q [ Some k ↦ by_letter (Some k) tags ts | None ↦ [] ])
      by_kind (Some k) of so = each k tags ts of so
      by_kind None of so = absurd (cc)

  time_of : (more : List (List ℕ)) → result_of (line_rules (line_of_fields f end value more)) ≡ Err Time → Some (time_field f) ≡ first_not_met (line_rules (line_of_fields f end value more))
  time_of = of_reading Time (time_field f) (λ k tags ts of is. time_first ts (is_some (stamp_in f.start.now)) (comes_later (stamp_in f.start.now) (stamp_in end)) (is_text f.account.now) (is_text f.resource.now)
      (is_text f.key.now && not (is_empty f.key.now)) (is_fit_value k (result_ok (value_in value)))
      (is_text f.commitment.now && (is_priced k || is_empty f.commitment.now)) (is_some (tags_in tags)) is)

  text_of : (more : List (List ℕ)) → result_of (line_rules (line_of_fields f end value more)) ≡ Err Text → Some (text_field f) ≡ first_not_met (line_rules (line_of_fields f end value more))
  text_of =
      of_reading Text (text_field f) (λ k tags ts of is.
      ap (λ b. Some (text_choice ts (is_text f.account.now) (is_text f.resource.now) (is_text f.key.now && not (is_empty f.key.now))
      (is_text f.commitment.now && (b || is_empty f.commitment.now)))) (priced_letter f.letter.now k of)
      ∙ text_first ts (is_some (stamp_in f.start.now)) (comes_later (stamp_in f.start.now) (stamp_in end)) (is_text f.account.now) (is_text f.resource.now)
      (is_text f.key.now && not (is_empty f.key.now)) (is_fit_value k (result_ok (value_in value)))
      (is_text f.commitment.now && (is_priced k || is_empty f.commitment.now)) (is_some (tags_in tags)) is)

  value_of : (more : List (List ℕ)) → result_of (line_rules (line_of_fields f end value more)) ≡ Err Number → Some field.Value ≡ first_not_met (line_rules (line_of_fields f end value more))
  value_of = of_reading Number field.Value (λ k tags ts of is. value_first ts (is_some (stamp_in f.start.now)) (comes_later (stamp_in f.start.now) (stamp_in end)) (is_text f.account.now) (is_text f.resource.now)
      (is_text f.key.now && not (is_empty f.key.now)) (is_fit_value k (result_ok (value_in value)))
      (is_text f.commitment.now && (is_priced k || is_empty f.commitment.now)) (is_some (tags_in tags)) is)

  tags_of : (more : List (List ℕ)) → result_of (line_rules (line_of_fields f end value more)) ≡ Err Tags → Some field.Tags ≡ first_not_met (line_rules (line_of_fields f end value more))
  tags_of = of_reading Tags field.Tags (λ k tags ts of is. tags_first ts (is_some (stamp_in f.start.now)) (comes_later (stamp_in f.start.now) (stamp_in end)) (is_text f.account.now) (is_text f.resource.now)
      (is_text f.key.now && not (is_empty f.key.now)) (is_fit_value k (result_ok (value_in value)))
      (is_text f.commitment.now && (is_priced k || is_empty f.commitment.now)) (is_some (tags_in tags)) is)

-- ---- of an amendment's line

-- a line of fewer fields than a reading's is refused for a number, where it is for a field
pub short_code : (fs : List (List ℕ)) (c : BatchCode) → length fs < 9 → result_of (line_rules fs) ≡ Err c → c ≡ Number
short_code [] c low is = absurd (cc)
short_code (_ ∷ []) c low is = absurd (cc)
short_code (_ ∷ _ ∷ []) c low is = absurd (cc)
short_code (_ ∷ _ ∷ _ ∷ []) c low is = absurd (cc)
short_code (l ∷ s ∷ i ∷ x ∷ []) c low is = by_letter (is_same l (codes "X")) (is_some (whole_in 1 1_000_000 s)) (is_some (whole_in 0 999 i)) (is_some (result_ok (value_in x))) is
  where
    by_letter : (b one two three : Bool) → result_of (cond b ((field.Sequence, one) ∷ (field.Index, two) ∷ (field.Value, three) ∷ []) []) ≡ Err c → c ≡ Number
    by_letter false one two three so = absurd (cc)
    by_letter true false two three so = cc
    by_letter true true false three so = cc
    by_letter true true true false so = cc
    by_letter true true true true so = absurd (cc)
short_code (_ ∷ _ ∷ _ ∷ _ ∷ _ ∷ []) c low is = absurd (cc)
short_code (_ ∷ _ ∷ _ ∷ _ ∷ _ ∷ _ ∷ []) c low is = absurd (cc)
short_code (_ ∷ _ ∷ _ ∷ _ ∷ _ ∷ _ ∷ _ ∷ []) c low is = absurd (cc)
short_code (_ ∷ _ ∷ _ ∷ _ ∷ _ ∷ _ ∷ _ ∷ _ ∷ []) c low is = absurd (cc)
short_code (_ ∷ _ ∷ _ ∷ _ ∷ _ ∷ _ ∷ _ ∷ _ ∷ _ ∷ more) c low is = absurd (omega (arith, low))

abbrev rules_by_letter : (b one two three : Bool) → Rules
rules_by_letter b one two three = cond b ((field.Sequence, one) ∷ (field.Index, two) ∷ (field.Value, three) ∷ []) []

amendment_of : (l s i : List ℕ) (more : List (List ℕ)) → length (l ∷ s ∷ i ∷ more) < 9 → result_of (line_rules (l ∷ s ∷ i ∷ more)) ≡ Err Number
    → Some (number_field s i) ≡ first_not_met (line_rules (l ∷ s ∷ i ∷ more))
amendment_of l s i [] low is = absurd (false≢true (ap is_number is))
amendment_of l s i (x ∷ []) low is = by_letter (is_same l (codes "X")) (is_some (whole_in 1 1_000_000 s)) (is_some (whole_in 0 999 i)) (is_some (result_ok (value_in x))) is
  where
    by_letter : (b one two three : Bool) → result_of (rules_by_letter b one two three) ≡ Err Number
        → Some (if not one then field.Sequence else (if not two then field.Index else field.Value)) ≡ first_not_met (rules_by_letter b one two three)
    by_letter false one two three so = absurd (cc)
    by_letter true false two three so = refl
    by_letter true true false three so = refl
    by_letter true true true false so = refl
    by_letter true true true true so = absurd (cc)
amendment_of l s i (_ ∷ _ ∷ []) low is = absurd (false≢true (ap is_number is))
amendment_of l s i (_ ∷ _ ∷ _ ∷ []) low is = absurd (false≢true (ap is_number is))
amendment_of l s i (_ ∷ _ ∷ _ ∷ _ ∷ []) low is = absurd (false≢true (ap is_number is))
amendment_of l s i (_ ∷ _ ∷ _ ∷ _ ∷ _ ∷ []) low is = absurd (false≢true (ap is_number is))
amendment_of l s i (_ ∷ _ ∷ _ ∷ _ ∷ _ ∷ _ ∷ more) low is = absurd (omega (arith, low))

-- ---- as the calls find them

module _ (line : List ℕ) (v : Version) where
  rules_err : (c : BatchCode) → (c ≡ Fields → ⊥) → record_in v (fields_in line) ≡ Err c → result_of (line_rules (fields_in line)) ≡ Err c
  rules_err c other is = line_follows v (fields_in line) c other is

  -- a claim about the rules of the line's fields
  told_by : (fs : List (List ℕ)) (c : BatchCode) (o : RecordField) → (c ≡ Fields → ⊥) → fields_in line ≡ fs
      → (result_of (line_rules fs) ≡ Err c → Some o ≡ first_not_met (line_rules fs)) → record_in v (fields_in line) ≡ Err c → Some o ≡ fault_field line
  unfolding fault_field
  told_by fs c o other are each is =
      each (subst (λ xs. result_of (line_rules xs) ≡ Err c) are (rules_err c other is)) ∙ ap (λ xs. first_not_met (line_rules xs)) (sym are)

  pub too_few : (fs : List (List ℕ)) → fields_in line ≡ fs → length fs < 4 → record_in v (fields_in line) ≡ Err Number → ⊥
  too_few fs are low is = none fs low (subst (λ xs. result_of (line_rules xs) ≡ Err Number) are (rules_err Number (λ same. cc) is))
    where
      none : (xs : List (List ℕ)) → length xs < 4 → result_of (line_rules xs) ≡ Err Number → ⊥
      none [] few so = false≢true (ap is_number so)
      none (_ ∷ []) few so = false≢true (ap is_number so)
      none (_ ∷ _ ∷ []) few so = false≢true (ap is_number so)
      none (_ ∷ _ ∷ _ ∷ []) few so = false≢true (ap is_number so)
      none (_ ∷ _ ∷ _ ∷ _ ∷ more) few so = omega (arith, few)

  pub amendment_told : (l s i : List ℕ) (more : List (List ℕ)) → fields_in line ≡ l ∷ s ∷ i ∷ more → length (fields_in line) < 9
      → record_in v (fields_in line) ≡ Err Number → Some (number_field s i) ≡ fault_field line
  amendment_told l s i more are low is = told_by (l ∷ s ∷ i ∷ more) Number (number_field s i) (λ same. cc) are (amendment_of l s i more (omega (arith, low, ap length are))) is

  pub short_number : (c : BatchCode) → (c ≡ Fields → ⊥) → length (fields_in line) < 9 → record_in v (fields_in line) ≡ Err c → c ≡ Number
  short_number c other low is = short_code (fields_in line) c low (rules_err c other is)

  module _ (f : ReadingFields) (are : AreFieldsOf line f) where
    pub time_told : record_in v (fields_in line) ≡ Err Time → Some (time_field f) ≡ fault_field line
    time_told = told_by _ Time (time_field f) (λ same. cc) are.are (time_of f are.end are.value (fields_in are.rest))

    pub text_told : record_in v (fields_in line) ≡ Err Text → Some (text_field f) ≡ fault_field line
    text_told = told_by _ Text (text_field f) (λ same. cc) are.are (text_of f are.end are.value (fields_in are.rest))

    pub value_told : record_in v (fields_in line) ≡ Err Number → Some field.Value ≡ fault_field line
    value_told = told_by _ Number field.Value (λ same. cc) are.are (value_of f are.end are.value (fields_in are.rest))

    pub tags_told : record_in v (fields_in line) ≡ Err Tags → Some field.Tags ≡ fault_field line
    tags_told = told_by _ Tags field.Tags (λ same. cc) are.are (tags_of f are.end are.value (fields_in are.rest))
