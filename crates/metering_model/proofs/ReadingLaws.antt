-- A reading is read from its fields, each of which meets its rule, and back.
use Rattle.std.proofs.Common.{◌≡◌, ℕ, Bool, true, false, not, ◌&&◌, ◌||◌, List, [], ◌∷◌, Option, Some, None, Result, Ok, ℤ, pos, ◌<ℤ◌, ◌≤ℤ◌, int_lt, int_le, refl, sym, ap, ap₂, arith}
use Rattle.std.specs.Result.{result_ok}
use Rattle.std.specs.Option.{option_to_list}
use Rattle.std.specs.List.{list_all}
use Rattle.std.proofs.lemmas.Bool.{and_parts, and_from, false≢true}
use Rattle.std.proofs.lemmas.Int.{ints}
use Rattle.metering_model.specs.NumberText.{spelling, value_in}
use Rattle.metering_model.specs.Dates.{stamp_in}
use Rattle.metering_model.specs.Batch.{Record, Reads, Reading, IsReading, record_fields, kind_text, tags_text, is_priced, is_field, is_text, is_empty, lacks}
use Rattle.metering_model.specs.BatchReading.{BatchCode, reading_in, kind_in, tags_in}
use Rattle.metering_model.proofs.StepLaws.{some_iff, test_iff, and_iff, ok_same}
use Rattle.metering_model.proofs.FieldLaws.{kind_read, kind_written, value_read, value_written}
use Rattle.metering_model.proofs.TagLaws.{tags_read, tags_written}
use Rattle.metering_model.proofs.DateLaws.{stamp_read, stamp_written}

-- what each step of reading a reading's fields answered
pub record Steps (letter number tag_list : List ℕ) (r : Reading) : Type 0 where
  pub kind : kind_in letter ≡ Some r.kind
  pub start : stamp_in r.start_text ≡ Some r.start
  pub end : stamp_in r.end_text ≡ Some r.end
  pub ordered : int_lt r.start r.end ≡ true
  pub account : is_text r.account ≡ true
  pub resource : is_text r.resource ≡ true
  pub key : (is_text r.key && not (is_empty r.key)) ≡ true
  pub value : result_ok (value_in number) ≡ Some r.value
  pub sign : (not (is_priced r.kind) || int_le (pos 0) r.value) ≡ true
  pub commitment : (is_text r.commitment && (is_priced r.kind || is_empty r.commitment)) ≡ true
  pub tags : tags_in tag_list ≡ Some r.tags
  pub region : list_all is_text (option_to_list r.region) ≡ true

-- the fields of a line that are read as the texts of a reading, and those that are read as something else
abbrev pub fields_around : (letter number tag_list : List ℕ) → Reading → List (List ℕ)
fields_around letter number tag_list r =
    letter ∷ r.start_text ∷ r.end_text ∷ r.account ∷ r.resource ∷ r.key ∷ number ∷ r.commitment ∷ tag_list ∷ option_to_list r.region

-- what they are read as
abbrev pub read_around : (letter number tag_list : List ℕ) → Reading → Result Record BatchCode
read_around letter number tag_list r =
    reading_in letter r.start_text r.end_text r.account r.resource r.key number r.commitment tag_list r.region

-- ---- the chain of steps, taken apart and put together

-- fields that are read as a record are those around a reading, and each step answered
pub taken_apart : (letter start end account resource key value commitment tags : List ℕ) (region : Option (List ℕ)) (x : Record)
    → reading_in letter start end account resource key value commitment tags region ≡ Ok x
    → (r : Reading) × (Reads r ≡ x)
    × (letter ∷ start ∷ end ∷ account ∷ resource ∷ key ∷ value ∷ commitment ∷ tags ∷ option_to_list region ≡ fields_around letter value tags r)
    × (region ≡ r.region) × Steps letter value tags r
taken_apart letter start end account resource key value commitment tags region x h =
    let kind = simp (some_iff, test_iff) at h in
    let from = kind.2 in
    let to = from.2 in
    let ordered = to.2 in
    let account_text = ordered.1 in
    let resource_text = account_text.1 in
    let key_text = resource_text.1 in
    let value_number = key_text.1 in
    let sign = value_number.2 in
    let commitment_text = sign.1 in
    let tag_list = commitment_text.1 in
    let region_text = tag_list.2 in
    let r : Reading = record {
      kind = kind.0;
      start = from.0;
      end = to.0;
      start_text = start;
      end_text = end;
      account = account;
      resource = resource;
      key = key;
      value = value_number.0;
      commitment = commitment;
      tags = tag_list.0;
      region = region;
    } in (
      r,
      ok_same (Reads r) x region_text.1,
      refl,
      refl,
      record {
        kind = kind.1;
        start = from.1;
        end = to.1;
        ordered = ordered.0;
        account = account_text.0;
        resource = resource_text.0;
        key = key_text.0;
        value = value_number.1;
        sign = sign.0;
        commitment = commitment_text.0;
        tags = tag_list.1;
        region = region_text.0;
      },
    )

-- where each step answers, the fields are read as the reading
pub put_together : (letter number tag_list : List ℕ) (r : Reading) → Steps letter number tag_list r → read_around letter number tag_list r ≡ Ok (Reads r)
put_together letter number tag_list r s =
    simp (s.kind, s.start, s.end, s.ordered, s.account, s.resource, s.key, s.value, s.sign, s.commitment, s.tags, s.region)

-- ---- each step against its rule

-- the tests of order, and order
before_is_less : (a b : ℤ) → int_lt a b ≡ true → a <ℤ b
before_is_less a b h = grind (arith, ints)

less_is_before : (a b : ℤ) → a <ℤ b → int_lt a b ≡ true
less_is_before a b h = grind (arith, ints)

test_is_at_most : (a b : ℤ) → int_le a b ≡ true → a ≤ℤ b
test_is_at_most a b h = grind (arith, ints)

at_most_is_test : (a b : ℤ) → a ≤ℤ b → int_le a b ≡ true
at_most_is_test a b h = grind (arith, ints)

-- a test that is made only of the priced
if_priced : (a b : Bool) → (not a || b) ≡ true → a ≡ true → b ≡ true
if_priced true b h e = h
if_priced false b h e = absurd (false≢true e)

priced_if : (a b : Bool) → (a ≡ true → b ≡ true) → (not a || b) ≡ true
priced_if true b h = h refl
priced_if false b h = refl

-- a text that only the priced have
unless_priced : (a : Bool) (t : List ℕ) → (a || is_empty t) ≡ true → a ≡ false → t ≡ []
unless_priced true t h e = absurd (false≢true (sym e))
unless_priced false [] h e = refl
unless_priced false (x ∷ xs) h e = absurd (false≢true h)

priced_unless : (a : Bool) (t : List ℕ) → (a ≡ false → t ≡ []) → (a || is_empty t) ≡ true
priced_unless true t h = refl
priced_unless false t h = ap is_empty (h refl)

-- a region's field, and its rule
region_fits : (region : Option (List ℕ)) → list_all is_text (option_to_list region) ≡ true → list_all (lacks 124) (option_to_list region) ≡ true → list_all is_field (option_to_list region) ≡ true
region_fits None h k = refl
region_fits (Some t) h k =
    and_from (is_field t) true (and_from (is_text t) (lacks 124 t) (and_parts (is_text t) true h).0 (and_parts (lacks 124 t) true k).0) refl

region_is_text : (region : Option (List ℕ)) → list_all is_field (option_to_list region) ≡ true → list_all is_text (option_to_list region) ≡ true
region_is_text None h = refl
region_is_text (Some t) h = and_from _ _ (and_parts (is_text t) (lacks 124 t) (and_parts (is_field t) true h).0).0 refl

-- where each step answers and no field has a `|`, the fields are the reading's, and it meets its rules
pub steps_meet_rules : (letter number tag_list : List ℕ) (r : Reading) → Steps letter number tag_list r → list_all (lacks 124) (fields_around letter number tag_list r) ≡ true → (fields_around letter number tag_list r ≡ record_fields (Reads r)) × IsReading r
steps_meet_rules letter number tag_list r s bars =
    let no_bars = simp and_iff at bars in
    let account_on = no_bars.1.1.1 in
    let key_on = account_on.1.1 in
    let key_tests = and_parts (is_text r.key) (not (is_empty r.key)) s.key in
    let commitment_tests = and_parts (is_text r.commitment) (is_priced r.kind || is_empty r.commitment) s.commitment in
    let value = value_read number r.value s.value in
    let tags = tags_read tag_list r.tags s.tags key_on.1.1.1.0 in (
      ap₂ ◌∷◌ (kind_read letter r.kind s.kind)
          (ap₂ {A = List ℕ} {B = List ℕ} (λ n t. r.start_text ∷ r.end_text ∷ r.account ∷ r.resource ∷ r.key ∷ n ∷ r.commitment ∷ t ∷ option_to_list r.region) value.0 tags.0),
      record {
        start = stamp_read r.start_text r.start s.start;
        end = stamp_read r.end_text r.end s.end;
        ends_after_start = before_is_less r.start r.end s.ordered;
        account = and_from _ _ s.account account_on.0;
        resource = and_from _ _ s.resource account_on.1.0;
        key = and_from (is_field r.key) (not (is_empty r.key)) (and_from (is_text r.key) (lacks 124 r.key) key_tests.0 key_on.0) key_tests.1;
        value = value.1;
        not_negative = λ e. test_is_at_most (pos 0) r.value (if_priced (is_priced r.kind) _ s.sign e);
        commitment = and_from _ _ commitment_tests.0 key_on.1.1.0;
        only_priced = unless_priced (is_priced r.kind) r.commitment commitment_tests.1;
        tags = tags.1;
        region = region_fits r.region s.region key_on.1.1.1.1;
      },
    )

-- where a reading meets its rules, each step answers
pub rules_make_steps : (r : Reading) → IsReading r → Steps (kind_text r.kind) (spelling 6 r.value) (tags_text r.tags) r
rules_make_steps r h =
    let key_tests = and_parts (is_field r.key) (not (is_empty r.key)) h.key in
    record {
      kind = kind_written r.kind;
      start = stamp_written r.start_text r.start h.start;
      end = stamp_written r.end_text r.end h.end;
      ordered = less_is_before r.start r.end h.ends_after_start;
      account = (and_parts (is_text r.account) (lacks 124 r.account) h.account).0;
      resource = (and_parts (is_text r.resource) (lacks 124 r.resource) h.resource).0;
      key = and_from (is_text r.key) (not (is_empty r.key)) (and_parts (is_text r.key) (lacks 124 r.key) key_tests.0).0 key_tests.1;
      value = value_written r.value h.value;
      sign = priced_if (is_priced r.kind) _ (λ e. at_most_is_test (pos 0) r.value (h.not_negative e));
      commitment = and_from _ _ (and_parts (is_text r.commitment) (lacks 124 r.commitment) h.commitment).0 (priced_unless (is_priced r.kind) r.commitment h.only_priced);
      tags = tags_written r.tags h.tags;
      region = region_is_text r.region h.region;
    }
