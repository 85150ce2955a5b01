-- A line is refused with the code of the first of its fields that breaks its rule.
use Rattle.std.proofs.Common.{◌≡◌, ℕ, Bool, true, false, not, ◌&&◌, ◌||◌, cond, List, [], ◌∷◌, ◌++◌, map, Option, Some, None, Result, Ok, Err, ok_or, codes, pos, ℤ, int_lt, int_le, refl, ap}
use Rattle.std.specs.Prelude.{if◌then◌else◌}
use Rattle.std.specs.Result.{result_ok}
use Rattle.std.specs.Option.{is_some, option_to_list}
use Rattle.std.specs.List.{list_all}
use Rattle.metering_model.specs.Batch.{Record, Reads, Amends, Tag, is_empty, is_priced, is_text}
use Rattle.metering_model.specs.BatchReading.{is_same, kind_in, reading_in, record_in, tags_in, whole_in}
use Rattle.metering_model.specs.Dates.{stamp_in}
use Rattle.metering_model.specs.FirstFailure.{◌>>=◌, holds_or}
use Rattle.metering_model.specs.NumberText.{value_in}
use Rattle.metering_model.specs.declared.Kind.{Kind}
use Rattle.metering_model.specs.declared.Version.{Version}
use Rattle.metering_model.specs.declared.Version.TheVariants.{B1, B2}
use Rattle.metering_model.specs.declared.BatchCode.{BatchCode}
use Rattle.metering_model.specs.declared.BatchCode.TheVariants.{Fields, Time, Number, Text, Tags}
use Rattle.fault_lines.specs.declared.fields.RecordField.{RecordField}
use Rattle.fault_lines.specs.declared.fields.RecordField.TheVariants as field
use Rattle.fault_lines.specs.Fields.{amendment_rules, comes_later, field_code, first_not_met, is_fit_value, line_rules, reading_rules}

-- ---- the fault of the first that does not meet its rule

abbrev pub Rules : Type 0
Rules = List (RecordField × Bool)

abbrev pub result_of : Rules → Result (Unit {0}) BatchCode
result_of [] = Ok tt
result_of (r ∷ rs) = if r.1 then result_of rs else Err (field_code r.0)

err_same : {A : Type 0} (d e : BatchCode) → ◌≡◌ {A = Result A BatchCode} (Err d) (Err e) → ◌≡◌ {A = Result (Unit {0}) BatchCode} (Err d) (Err e)
err_same d e same = cc

in_region : (region : Option (List ℕ)) (x : Record) (c : BatchCode) → (holds_or (list_all is_text (option_to_list region)) Text >>= λ _. Ok x) ≡ Err c
    → result_of (map (λ t. (field.Region, is_text t)) (option_to_list region)) ≡ Err c
in_region None x c is = absurd (cc)
in_region (Some t) x c is = by_test (is_text t) is
  where
    by_test : (b : Bool) → (holds_or (b && true) Text >>= λ _. Ok x) ≡ Err c → result_of ((field.Region, b) ∷ []) ≡ Err c
    by_test true so = absurd (cc)
    by_test false so = err_same Text c so

-- ---- a reading, step by step

module _ (region : Option (List ℕ)) (c : BatchCode) where
  behind_value : (make : List Tag → Record) (fit m : Bool) (ts : Option (List Tag))
      → (holds_or fit Number >>= λ _. holds_or m Text >>= λ _. ok_or ts Tags >>= λ t. holds_or (list_all is_text (option_to_list region)) Text >>= λ _. Ok (make t)) ≡ Err c
      → result_of ((field.Value, fit) ∷ (field.Commitment, m) ∷ (field.Tags, is_some ts) ∷ map (λ t. (field.Region, is_text t)) (option_to_list region)) ≡ Err c
  behind_value make false m ts is = err_same Number c is
  behind_value make true false ts is = err_same Text c is
  behind_value make true true None is = err_same Tags c is
  behind_value make true true (Some t) is = in_region region (make t) c is

  behind_start : (make : ℤ → List Tag → Record) (later a r n : Bool) (k : Kind) (v : Option ℤ) (m : Bool) (ts : Option (List Tag))
      → (holds_or later Time >>= λ _. holds_or a Text >>= λ _. holds_or r Text >>= λ _. holds_or n Text >>= λ _. ok_or v Number >>= λ x.
      holds_or (not (is_priced k) || int_le (pos 0) x) Number >>= λ _. holds_or m Text >>= λ _. ok_or ts Tags >>= λ t. holds_or (list_all is_text (option_to_list region)) Text >>= λ _. Ok (make x t)) ≡ Err c
      → result_of ((field.End, later) ∷ (field.Account, a) ∷ (field.Resource, r) ∷ (field.Key, n) ∷ (field.Value, is_fit_value k v) ∷ (field.Commitment, m) ∷ (field.Tags, is_some ts)
      ∷ map (λ t. (field.Region, is_text t)) (option_to_list region)) ≡ Err c
  behind_start make false a r n k v m ts is = err_same Time c is
  behind_start make true false r n k v m ts is = err_same Text c is
  behind_start make true true false n k v m ts is = err_same Text c is
  behind_start make true true true false k v m ts is = err_same Text c is
  behind_start make true true true true k None m ts is = err_same Number c is
  behind_start make true true true true k (Some x) m ts is = behind_value (make x) (not (is_priced k) || int_le (pos 0) x) m ts is

  from_start : (make : ℤ → ℤ → ℤ → List Tag → Record) (s e : Option ℤ) (a r n : Bool) (k : Kind) (v : Option ℤ) (m : Bool) (ts : Option (List Tag))
      → (ok_or s Time >>= λ i. ok_or e Time >>= λ j. holds_or (int_lt i j) Time >>= λ _. holds_or a Text >>= λ _. holds_or r Text >>= λ _. holds_or n Text >>= λ _. ok_or v Number >>= λ x.
      holds_or (not (is_priced k) || int_le (pos 0) x) Number >>= λ _. holds_or m Text >>= λ _. ok_or ts Tags >>= λ t. holds_or (list_all is_text (option_to_list region)) Text >>= λ _. Ok (make i j x t)) ≡ Err c
      → result_of ((field.Start, is_some s) ∷ (field.End, comes_later s e) ∷ (field.Account, a) ∷ (field.Resource, r) ∷ (field.Key, n) ∷ (field.Value, is_fit_value k v) ∷ (field.Commitment, m) ∷ (field.Tags, is_some ts)
      ∷ map (λ t. (field.Region, is_text t)) (option_to_list region)) ≡ Err c
  from_start make None e a r n k v m ts is = err_same Time c is
  from_start make (Some i) None a r n k v m ts is = err_same Time c is
  from_start make (Some i) (Some j) a r n k v m ts is = behind_start (make i j) (int_lt i j) a r n k v m ts is

reading_follows : (k : Kind) (letter start end account resource key value commitment tags : List ℕ) (region : Option (List ℕ)) → kind_in letter ≡ Some k
    → (c : BatchCode) → reading_in letter start end account resource key value commitment tags region ≡ Err c
    → result_of (reading_rules k start end account resource key value commitment tags (option_to_list region)) ≡ Err c
reading_follows k letter start end account resource key value commitment tags region of c is =
    from_start region c
    (λ s e v ts. Reads (record {
      kind = k;
      start = s;
      end = e;
      start_text = start;
      end_text = end;
      account = account;
      resource = resource;
      key = key;
      value = v;
      commitment = commitment;
      tags = ts;
      region = region;
    }))
    (stamp_in start) (stamp_in end) (is_text account) (is_text resource) (is_text key && not (is_empty key)) k (result_ok (value_in value))
    (is_text commitment && (is_priced k || is_empty commitment)) (tags_in tags) (rw of at is)

reading_line : (letter start end account resource key value commitment tags : List ℕ) (region : Option (List ℕ)) (c : BatchCode) → (c ≡ Fields → ⊥)
    → reading_in letter start end account resource key value commitment tags region ≡ Err c
    → result_of (elim (kind_in letter) [ Some k ↦ reading_rules k start end account resource key value commitment tags (option_to_list region) | None ↦ [] ]) ≡ Err c
reading_line letter start end account resource key value commitment tags region c other is = by_kind (kind_in letter) refl
  where
    by_kind : (o : Option Kind) → kind_in letter ≡ o
        → result_of (elim o [ Some k ↦ reading_rules k start end account resource key value commitment tags (option_to_list region) | None ↦ [] ]) ≡ Err c
    by_kind (Some k) of = reading_follows k letter start end account resource key value commitment tags region of c is
    by_kind None of = absurd (other (no_kind (rw of at is)))
      where
        no_kind : ◌≡◌ {A = Result Record BatchCode} (Err Fields) (Err c) → c ≡ Fields
        no_kind same = cc

amendment_line : (letter seq index value : List ℕ) (v : Version) (c : BatchCode) → (c ≡ Fields → ⊥) → record_in v (letter ∷ seq ∷ index ∷ value ∷ []) ≡ Err c
    → result_of (line_rules (letter ∷ seq ∷ index ∷ value ∷ [])) ≡ Err c
amendment_line letter seq index value v c other is = by_letter (is_same letter (codes "X")) is
  where
    numbers : Result Record BatchCode
    numbers = ok_or (whole_in 1 1_000_000 seq) Number >>= λ s. ok_or (whole_in 0 999 index) Number >>= λ i. ok_or (result_ok (value_in value)) Number >>= λ x. Ok (Amends s i x)

    by_letter : (b : Bool) → (holds_or b Fields >>= λ _. numbers) ≡ Err c → result_of (cond b (amendment_rules seq index value) []) ≡ Err c
    by_letter false so = absurd (other (no_letter so))
      where
        no_letter : ◌≡◌ {A = Result Record BatchCode} (Err Fields) (Err c) → c ≡ Fields
        no_letter same = cc
    by_letter true so = by_numbers (whole_in 1 1_000_000 seq) (whole_in 0 999 index) (result_ok (value_in value)) so
      where
        by_numbers : (one two : Option ℕ) (three : Option ℤ) → (ok_or one Number >>= λ s. ok_or two Number >>= λ i. ok_or three Number >>= λ x. Ok (Amends s i x)) ≡ Err c
            → result_of ((field.Sequence, is_some one) ∷ (field.Index, is_some two) ∷ (field.Value, is_some three) ∷ []) ≡ Err c
        by_numbers None two three k = err_same Number c k
        by_numbers (Some s) None three k = err_same Number c k
        by_numbers (Some s) (Some i) None k = err_same Number c k
        by_numbers (Some s) (Some i) (Some x) k = absurd (cc)

-- ---- a line

no_record : (c : BatchCode) → (c ≡ Fields → ⊥) → ◌≡◌ {A = Result Record BatchCode} (Err Fields) (Err c) → ⊥
no_record c other same = other (let is : c ≡ Fields = cc in is)

-- A line that is refused for a field has the code of the first that does not meet its rule.
pub line_follows : (v : Version) (fs : List (List ℕ)) (c : BatchCode) → (c ≡ Fields → ⊥) → record_in v fs ≡ Err c → result_of (line_rules fs) ≡ Err c
line_follows v (l ∷ s ∷ i ∷ x ∷ []) c other is = amendment_line l s i x v c other is
line_follows B1 (l ∷ s ∷ e ∷ a ∷ r ∷ k ∷ x ∷ m ∷ t ∷ []) c other is = reading_line l s e a r k x m t None c other is
line_follows B2 (l ∷ s ∷ e ∷ a ∷ r ∷ k ∷ x ∷ m ∷ t ∷ g ∷ []) c other is = reading_line l s e a r k x m t (Some g) c other is
line_follows B1 [] c other is = absurd (no_record c other is)
line_follows B1 (_ ∷ []) c other is = absurd (no_record c other is)
line_follows B1 (_ ∷ _ ∷ []) c other is = absurd (no_record c other is)
line_follows B1 (_ ∷ _ ∷ _ ∷ []) c other is = absurd (no_record c other is)
line_follows B1 (_ ∷ _ ∷ _ ∷ _ ∷ _ ∷ []) c other is = absurd (no_record c other is)
line_follows B1 (_ ∷ _ ∷ _ ∷ _ ∷ _ ∷ _ ∷ []) c other is = absurd (no_record c other is)
line_follows B1 (_ ∷ _ ∷ _ ∷ _ ∷ _ ∷ _ ∷ _ ∷ []) c other is = absurd (no_record c other is)
line_follows B1 (_ ∷ _ ∷ _ ∷ _ ∷ _ ∷ _ ∷ _ ∷ _ ∷ []) c other is = absurd (no_record c other is)
line_follows B1 (_ ∷ _ ∷ _ ∷ _ ∷ _ ∷ _ ∷ _ ∷ _ ∷ _ ∷ _ ∷ more) c other is = absurd (no_record c other is)
line_follows B2 [] c other is = absurd (no_record c other is)
line_follows B2 (_ ∷ []) c other is = absurd (no_record c other is)
line_follows B2 (_ ∷ _ ∷ []) c other is = absurd (no_record c other is)
line_follows B2 (_ ∷ _ ∷ _ ∷ []) c other is = absurd (no_record c other is)
line_follows B2 (_ ∷ _ ∷ _ ∷ _ ∷ _ ∷ []) c other is = absurd (no_record c other is)
line_follows B2 (_ ∷ _ ∷ _ ∷ _ ∷ _ ∷ _ ∷ []) c other is = absurd (no_record c other is)
line_follows B2 (_ ∷ _ ∷ _ ∷ _ ∷ _ ∷ _ ∷ _ ∷ []) c other is = absurd (no_record c other is)
line_follows B2 (_ ∷ _ ∷ _ ∷ _ ∷ _ ∷ _ ∷ _ ∷ _ ∷ []) c other is = absurd (no_record c other is)
line_follows B2 (_ ∷ _ ∷ _ ∷ _ ∷ _ ∷ _ ∷ _ ∷ _ ∷ _ ∷ []) c other is = absurd (no_record c other is)
line_follows B2 (_ ∷ _ ∷ _ ∷ _ ∷ _ ∷ _ ∷ _ ∷ _ ∷ _ ∷ _ ∷ _ ∷ more) c other is = absurd (no_record c other is)

-- ---- the first field that does not meet its rule

-- those left of it do, and the code is its own
pub record IsFound (rules : Rules) (c : BatchCode) (f : RecordField) : Type 0 where
  pub left : List RecordField
  pub right : Rules
  pub fields : rules ≡ map (λ g. (g, true)) left ++ (f, false) ∷ right
  pub code : field_code f ≡ c
  pub first : first_not_met rules ≡ Some f

pub found : (rules : Rules) (c : BatchCode) → result_of rules ≡ Err c → (f : RecordField) × IsFound rules c f
found [] c is = absurd (cc)
found ((g, true) ∷ rs) c is =
    let more = found rs c is in (
      more.0,
      record {
        left = g ∷ more.1.left;
        right = more.1.right;
        fields = ap (λ (xs : Rules). (g, true) ∷ xs) more.1.fields;
        code = more.1.code;
        first = more.1.first;
      },
    )
found ((g, false) ∷ rs) c is = (g, record { left = []; right = rs; fields = refl; code = same_code (field_code g) c is; first = refl })
  where
    same_code : (d e : BatchCode) → ◌≡◌ {A = Result (Unit {0}) BatchCode} (Err d) (Err e) → d ≡ e
    same_code d e same = cc
