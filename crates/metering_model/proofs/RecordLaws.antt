-- A line's fields are read as a record exactly where they are that record's fields, and it meets its rules.
use Rattle.std.proofs.Common.{◌≡◌, ℕ, true, List, [], ◌∷◌, Option, Some, None, Ok, refl, ℤ, codes, sym, ap, ap₂, ◌∙◌, subst, arith}
use Rattle.std.specs.Result.{result_ok}
use Rattle.std.specs.Option.{option_to_list}
use Rattle.std.specs.List.{list_all}
use Rattle.std.proofs.lemmas.Bool.{and_parts, and_from, false≢true}
use Rattle.metering_model.specs.NumberText.{spelling, value_in}
use Rattle.metering_model.specs.Batch.{Version, B1, B2, Record, Reads, Amends, IsRecord, is_region_of, is_of_version, record_fields, kind_text, tags_text, is_field, lacks}
use Rattle.metering_model.specs.BatchReading.{record_in, reading_in, is_same, whole_in}
use Rattle.metering_model.proofs.StepLaws.{some_iff, test_iff, ok_same}
use Rattle.metering_model.proofs.FieldLaws.{same_read, whole_read, whole_written, value_read, value_written}
use Rattle.metering_model.proofs.FieldBytes.{is_inner, field_is_inner, kind_is_inner, stamp_is_inner, value_is_inner, decimal_is_inner, tags_are_inner}
use Rattle.metering_model.proofs.ReadingLaws.{taken_apart, put_together, steps_meet_rules, rules_make_steps}

-- the fields are the record's, it meets its rules, and it is of the version
abbrev pub IsRead : Version → List (List ℕ) → Record → Type 0
IsRead version fs r = (fs ≡ record_fields r) × IsRecord r × (is_of_version version r ≡ true)

-- what each step of reading an amendment's fields answered
amendment_apart : (version : Version) (letter seq index value : List ℕ) (x : Record) → record_in version (letter ∷ seq ∷ index ∷ value ∷ []) ≡ Ok x
    → (s : ℕ) × (i : ℕ) × (v : ℤ) × (Amends s i v ≡ x) × (is_same letter (codes "X") ≡ true) × (whole_in 1 1_000_000 seq ≡ Some s)
    × (whole_in 0 999 index ≡ Some i) × (result_ok (value_in value) ≡ Some v)
amendment_apart version letter seq index value x h =
    let a = simp (some_iff, test_iff) at h in
    let s = a.1 in
    let i = s.2 in
    let v = i.2 in
    (s.0, i.0, v.0, ok_same (Amends s.0 i.0 v.0) x v.2, a.0, s.1, i.1, v.1)

-- four fields that are read as a record are an amendment's
amendment_read : (version : Version) (letter seq index value : List ℕ) (r : Record) → record_in version (letter ∷ seq ∷ index ∷ value ∷ []) ≡ Ok r → IsRead version (letter ∷ seq ∷ index ∷ value ∷ []) r
amendment_read version letter seq index value r h =
    let a = amendment_apart version letter seq index value r h in
    let s = whole_read 1 1_000_000 seq a.0 (omega arith) a.5 in
    let i = whole_read 0 999 index a.1 (omega arith) a.6 in
    let v = value_read value a.2 a.7 in
    subst (IsRead version (letter ∷ seq ∷ index ∷ value ∷ [])) a.3 (
      ap₂ ◌∷◌ (same_read letter (codes "X") a.4) (ap₂ ◌∷◌ s.0 (ap₂ ◌∷◌ i.0 (ap (λ t. t ∷ []) v.0))),
      record { seq_in = (s.1, s.2); index_in = i.2; value_in = v.1 },
      refl,
    )

-- nine or ten are a reading's
reading_read : (version : Version) (letter start end account resource key value commitment tags : List ℕ) (region : Option (List ℕ)) (x : Record)
    → is_region_of version region ≡ true → reading_in letter start end account resource key value commitment tags region ≡ Ok x
    → list_all (lacks 124) (letter ∷ start ∷ end ∷ account ∷ resource ∷ key ∷ value ∷ commitment ∷ tags ∷ option_to_list region) ≡ true
    → IsRead version (letter ∷ start ∷ end ∷ account ∷ resource ∷ key ∷ value ∷ commitment ∷ tags ∷ option_to_list region) x
reading_read version letter start end account resource key value commitment tags region x fits h bars =
    let a = taken_apart letter start end account resource key value commitment tags region x h in
    let same = a.2 in
    let met = steps_meet_rules letter value tags a.0 a.4 (ap (list_all (lacks 124)) (sym same) ∙ bars) in
    subst (IsRead version (letter ∷ start ∷ end ∷ account ∷ resource ∷ key ∷ value ∷ commitment ∷ tags ∷ option_to_list region)) a.1 (same ∙ met.0, met.1, ap (is_region_of version) (sym a.3) ∙ fits)

-- fields without `|` that are read as a record are its fields
pub record_read : (version : Version) (fs : List (List ℕ)) (r : Record) → record_in version fs ≡ Ok r → list_all (lacks 124) fs ≡ true → IsRead version fs r
record_read version (letter ∷ seq ∷ index ∷ value ∷ []) r h bars = amendment_read version letter seq index value r h
record_read B1 (letter ∷ start ∷ end ∷ account ∷ resource ∷ key ∷ value ∷ commitment ∷ tags ∷ []) r h bars =
    reading_read B1 letter start end account resource key value commitment tags None r refl h bars
record_read B2 (letter ∷ start ∷ end ∷ account ∷ resource ∷ key ∷ value ∷ commitment ∷ tags ∷ region ∷ []) r h bars =
    reading_read B2 letter start end account resource key value commitment tags (Some region) r refl h bars
record_read version fs r h bars = absurd (cc)

-- a reading's fields are read by its version
by_version : (version : Version) (letter start end account resource key value commitment tags : List ℕ) (region : Option (List ℕ))
    → is_region_of version region ≡ true
    → record_in version (letter ∷ start ∷ end ∷ account ∷ resource ∷ key ∷ value ∷ commitment ∷ tags ∷ option_to_list region)
    ≡ reading_in letter start end account resource key value commitment tags region
by_version B1 letter start end account resource key value commitment tags None h = refl
by_version B1 letter start end account resource key value commitment tags (Some t) h = absurd (false≢true h)
by_version B2 letter start end account resource key value commitment tags None h = absurd (false≢true h)
by_version B2 letter start end account resource key value commitment tags (Some t) h = refl

-- the fields of a record that meets its rules are read as it
pub record_written : (version : Version) (r : Record) → IsRecord r → is_of_version version r ≡ true → record_in version (record_fields r) ≡ Ok r
record_written version (Reads r) h fits =
    by_version version (kind_text r.kind) r.start_text r.end_text r.account r.resource r.key (spelling 6 r.value) r.commitment (tags_text r.tags) r.region fits
    ∙ put_together _ _ _ r (rules_make_steps r h)
record_written version (Amends seq index value) h fits =
    simp (whole_written 1 1_000_000 seq (omega arith) h.seq_in.0 h.seq_in.1, whole_written 0 999 index (omega arith) (omega arith) h.index_in, value_written value h.value_in)

region_is_inner : (region : Option (List ℕ)) → list_all is_field (option_to_list region) ≡ true → list_all (list_all is_inner) (option_to_list region) ≡ true
region_is_inner None h = refl
region_is_inner (Some t) h = and_from _ _ (field_is_inner t (and_parts (is_field t) true h).0) refl

-- no field has a byte at which a text is cut
pub fields_are_inner : (r : Record) → IsRecord r → list_all (list_all is_inner) (record_fields r) ≡ true
fields_are_inner (Reads r) h =
    simp (
      kind_is_inner r.kind,
      stamp_is_inner r.start_text r.start h.start,
      stamp_is_inner r.end_text r.end h.end,
      field_is_inner r.account h.account,
      field_is_inner r.resource h.resource,
      field_is_inner r.key (and_parts _ _ h.key).0,
      value_is_inner r.value h.value,
      field_is_inner r.commitment h.commitment,
      tags_are_inner r.tags (and_parts _ _ h.tags).0,
      region_is_inner r.region h.region,
    )
fields_are_inner (Amends seq index value) h =
    simp (decimal_is_inner seq (omega arith), decimal_is_inner index (omega arith), value_is_inner value h.value_in)
