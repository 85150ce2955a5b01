-- The line of a batch's fault.
use Rattle.std.proofs.Common.{◌≡◌, ◌⊎◌, ℕ, zero, suc, ◌+◌, ◌-◌, Bool, true, false, ◌&&◌, ◌==◌, cond, List, [], ◌∷◌, length, drop, Option, Some, None, Result, Ok, Err, ok_or, refl, sym, ap, ◌∙◌, subst, arith, inl, inr}
use Rattle.std.specs.Prelude.{nat_lt}
use Rattle.std.specs.List.{slice_get}
use Rattle.std.specs.Option.{option_and_then}
use Rattle.metering_model.specs.Batch.{is_empty}
use Rattle.metering_model.specs.BatchReading.{HeadLine, Lines, at_line, batch_below, batch_in, batch_of_lines, fields_in, head_in, lines_in, record_in, records_in, version_in, whole_in, with_line}
use Rattle.metering_model.specs.FirstFailure.{◌>>=◌, holds_or}
use Rattle.metering_model.specs.declared.Version.{Version}
use Rattle.metering_model.specs.declared.BatchCode.{BatchCode}
use Rattle.metering_model.specs.declared.BatchCode.TheVariants.{Head, Count, Fields, TooLong}
use Rattle.metering_model.specs.declared.BatchFault.{BatchFault}
use Rattle.fault_lines.specs.declared.fields.RecordField.{RecordField}
use Rattle.fault_lines.specs.Fields.{IsFaultOf, fault_field, field_of, is_of_field, line_at, line_rules}
use Rattle.fault_lines.proofs.FieldLaws.{found, line_follows}

-- ---- a line of a text

get_behind : (n : ℕ) (ls : List (List ℕ)) (l : List ℕ) (rest : List (List ℕ)) → drop n ls ≡ l ∷ rest → slice_get ls n ≡ Some l
get_behind zero [] l rest is = absurd (cc)
get_behind zero (m ∷ ms) l rest is = cc
get_behind (suc n) [] l rest is = absurd (cc)
get_behind (suc n) (m ∷ ms) l rest is = get_behind n ms l rest is

none_behind : (n : ℕ) (ls : List (List ℕ)) → drop n ls ≡ [] → slice_get ls n ≡ None
none_behind zero [] is = refl
none_behind zero (m ∷ ms) is = absurd (cc)
none_behind (suc n) [] is = refl
none_behind (suc n) (m ∷ ms) is = none_behind n ms is

module _ (text rest : List ℕ) (n : ℕ) (behind : (lines_in rest).lines ≡ drop n (lines_in text).lines) where
  pub line_there : (l more : List ℕ) → lines_in rest ≡ with_line l (lines_in more) → slice_get (lines_in text).lines n ≡ Some l
  line_there l more is = get_behind n (lines_in text).lines l (lines_in more).lines (sym behind ∙ ap (λ (ls : Lines). ls.lines) is)

  pub no_line_there : (lines_in rest).lines ≡ [] → slice_get (lines_in text).lines n ≡ None
  no_line_there is = none_behind n (lines_in text).lines (sym behind ∙ is)

-- ---- the line of a batch's fault

either_err : {A B E : Type 0} (r : Result A E) (f : A → Result B E) (e : E) → (r >>= f) ≡ Err e → (r ≡ Err e) ⊎ ((x : A) × (r ≡ Ok x) × (f x ≡ Err e))
either_err (Ok x) f e is = inr (x, refl, is)
either_err (Err d) f e is = inl (let same : d ≡ e = cc in ap Err same)

err_at : {A : Type 0} (line : ℕ) (r : Result A BatchCode) (fault : BatchFault) → at_line line r ≡ Err fault → (r ≡ Err fault.code) × (fault.line ≡ line)
err_at line (Ok x) fault is = absurd (cc)
err_at line (Err c) fault is = let same : record { code = c; line = line } ≡ fault = same_fault (record { code = c; line = line }) fault is in (ap (λ (f : BatchFault). Err f.code) same, sym (ap (λ (f : BatchFault). f.line) same))
  where
    same_fault : {A : Type 0} (f g : BatchFault) → ◌≡◌ {A = Result A BatchFault} (Err f) (Err g) → f ≡ g
    same_fault f g same = cc

-- a line of those from the second on, for which records are refused
record IsLineOf (version : Version) (ls : List (List ℕ)) (from : ℕ) (fault : BatchFault) : Type 0 where
  pub place : ℕ
  pub line : List ℕ
  pub there : slice_get ls place ≡ Some line
  pub counted : fault.line ≡ from + place
  pub refused : record_in version (fields_in line) ≡ Err fault.code

of_count : (fault : BatchFault) → is_of_field fault.code ≡ true → fault.code ≡ Count → ⊥
of_count fault is same = cc

in_records : (version : Version) (from n : ℕ) (ls : List (List ℕ)) (fault : BatchFault) → is_of_field fault.code ≡ true → records_in version from n ls ≡ Err fault → IsLineOf version ls from fault
in_records version from zero ls fault of is = absurd (cc)
in_records version from (suc n) [] fault of is = absurd (of_count fault of (let same : record { code = Count; line = from } ≡ fault = cc in sym (ap (λ (f : BatchFault). f.code) same)))
in_records version from (suc n) (l ∷ ls) fault of is = elim (either_err (at_line from (record_in version (fields_in l))) _ fault is) [
  | inl here ↦ let at = err_at from (record_in version (fields_in l)) fault here in
      record { place = 0; line = l; there = refl; counted = omega (arith, at.1); refused = at.0 }
  | inr later ↦ elim (either_err (records_in version (from + 1) n ls) _ fault later.2) [
    | inl below ↦ let rest = in_records version (from + 1) n ls fault of below in
        record { place = suc rest.place; line = rest.line; there = rest.there; counted = omega (arith, rest.counted); refused = rest.refused }
    | inr done ↦ absurd (let no = done.2 in cc)
  ]
]

-- ---- the batch

ok_head : {A : Type 0} (o : Option A) (c : BatchCode) → ok_or o Head ≡ Err c → c ≡ Head
ok_head (Some x) c is = absurd (cc)
ok_head None c is = cc

head_code : (fs : List (List ℕ)) (c : BatchCode) → head_in fs ≡ Err c → c ≡ Head
head_code [] c is = cc
head_code (_ ∷ []) c is = cc
head_code (_ ∷ _ ∷ []) c is = cc
head_code (_ ∷ _ ∷ _ ∷ []) c is = cc
head_code (version ∷ agent ∷ seq ∷ count ∷ []) c is = by_parts (version_in version) (whole_in 1 64 agent) (whole_in 1 1_000_000 seq) (whole_in 0 1_000 count) is
  where
    by_parts : (v : Option Version) (a s n : Option ℕ)
        → (ok_or v Head >>= λ v. ok_or a Head >>= λ a. ok_or s Head >>= λ s. ok_or n Head >>= λ n. let h : HeadLine = record { version = v; agent = a; seq = s; count = n } in Ok h) ≡ Err c → c ≡ Head
    by_parts None a s n so = cc
    by_parts (Some v) None s n so = cc
    by_parts (Some v) (Some a) None n so = cc
    by_parts (Some v) (Some a) (Some s) None so = cc
    by_parts (Some v) (Some a) (Some s) (Some n) so = absurd (cc)
head_code (_ ∷ _ ∷ _ ∷ _ ∷ _ ∷ more) c is = cc

no_code : (fault : BatchFault) → is_of_field fault.code ≡ true → (c : BatchCode) → is_of_field c ≡ false → fault.code ≡ c → ⊥
no_code fault of c other same = let no : is_of_field fault.code ≡ false = ap is_of_field same ∙ other in cc

pub of_no_fields : (c : BatchCode) → is_of_field c ≡ true → c ≡ Fields → ⊥
of_no_fields c of same = let no : is_of_field c ≡ false = ap is_of_field same in cc

-- the line on which a batch is refused for a field
record IsRefusedLine (ls : List (List ℕ)) (fault : BatchFault) : Type 0 where
  pub version : Version
  pub line : List ℕ
  pub there : slice_get ls (fault.line - 1) ≡ Some line
  pub refused : record_in version (fields_in line) ≡ Err fault.code

in_lines : (ls : List (List ℕ)) (rest : List ℕ) (fault : BatchFault) → is_of_field fault.code ≡ true → batch_of_lines ls rest ≡ Err fault → IsRefusedLine ls fault
in_lines [] rest fault of is = absurd (no_code fault of Head refl (let same : record { code = Head; line = 1 } ≡ fault = cc in sym (ap (λ (f : BatchFault). f.code) same)))
in_lines (l ∷ ls) rest fault of is = elim (either_err (at_line 1 (head_in (fields_in l))) (batch_below ls rest) fault is) [
  | inl here ↦ absurd (no_code fault of Head refl (head_code (fields_in l) fault.code (err_at 1 (head_in (fields_in l)) fault here).0))
  | inr below ↦ elim (either_err (records_in below.0.version 2 below.0.count ls) _ fault below.2) [
    | inl records ↦ let at = in_records below.0.version 2 below.0.count ls fault of records in
        let place : fault.line - 1 ≡ suc at.place = omega (arith, at.counted) in
        record {
          version = below.0.version;
          line = at.line;
          there = ap (λ n. slice_get (l ∷ ls) n) place ∙ at.there;
          refused = at.refused;
        }
    | inr more ↦ elim (either_err (at_line (below.0.count + 2) (holds_or ((length ls == below.0.count) && is_empty rest) Count)) _ fault more.2) [
      | inl count ↦ absurd (no_code fault of Count refl (count_code ((length ls == below.0.count) && is_empty rest) fault.code (err_at (below.0.count + 2) (holds_or ((length ls == below.0.count) && is_empty rest) Count) fault count).0))
      | inr done ↦ absurd (let no = done.2 in cc)
    ]
  ]
]
  where
    count_code : (b : Bool) (c : BatchCode) → holds_or b Count ≡ Err c → c ≡ Count
    count_code true c so = absurd (cc)
    count_code false c so = cc

in_text : (text : List ℕ) (fault : BatchFault) → is_of_field fault.code ≡ true → batch_in text ≡ Err fault → IsRefusedLine (lines_in text).lines fault
in_text text fault of is = by_size (nat_lt 65_536 (length text)) is
  where
    by_size : (b : Bool) → cond b (Err (record { code = TooLong; line = 1 })) (batch_of_lines (lines_in text).lines (lines_in text).rest) ≡ Err fault → IsRefusedLine (lines_in text).lines fault
    by_size true so = absurd (no_code fault of TooLong refl (let same : record { code = TooLong; line = 1 } ≡ fault = cc in sym (ap (λ (f : BatchFault). f.code) same)))
    by_size false so = in_lines (lines_in text).lines (lines_in text).rest fault of so

pub refused_line : (text : List ℕ) (fault : BatchFault) (line : List ℕ) → is_of_field fault.code ≡ true → batch_in text ≡ Err fault → line_at text fault.line ≡ Some line
    → (version : Version) × (record_in version (fields_in line) ≡ Err fault.code)
refused_line text fault line of is there =
    let at = in_text text fault of is in
    (at.version, subst (λ l. record_in at.version (fields_in l) ≡ Err fault.code) (same_line at.line line (sym at.there ∙ there)) at.refused)
  where
    same_line : (a b : List ℕ) → ◌≡◌ {A = Option (List ℕ)} (Some a) (Some b) → a ≡ b
    same_line a b same = cc

pub each_fault : (text : List ℕ) (fault : BatchFault) → batch_in text ≡ Err fault → is_of_field fault.code ≡ true
    → (line : List ℕ) × (f : RecordField) × (line_at text fault.line ≡ Some line) × (field_of text fault ≡ Some f) × IsFaultOf line fault.code f
unfolding fault_field
each_fault text fault is of =
    let at = in_text text fault of is in
    let other : fault.code ≡ Fields → ⊥ = no_code fault of Fields refl in
    let first = found (line_rules (fields_in at.line)) fault.code (line_follows at.version (fields_in at.line) fault.code other at.refused) in (
      at.line,
      first.0,
      at.there,
      ap (λ b. cond b (option_and_then fault_field (line_at text fault.line)) None) of ∙ (ap (option_and_then fault_field) at.there ∙ first.1.first),
      record { left = first.1.left; right = first.1.right; fields = first.1.fields; code = first.1.code },
    )
