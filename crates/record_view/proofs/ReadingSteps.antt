-- What each step of reading a reading's fields answered, where they are read as a record.
use Rattle.std.proofs.Common.{◌≡◌, ◌≢◌, ℕ, List, Result, Ok, Err, Option, Some, None, ℤ, ok_or, sym, ap, ap₂, ◌∙◌, is_some, true, refl, IfErr}
use Rattle.std.specs.Option.{option_zip}
use Rattle.metering_model.specs.declared.BatchCode.{BatchCode}
use Rattle.metering_model.specs.declared.BatchCode.TheVariants.{Time, Tags}
use Rattle.metering_model.specs.declared.Kind.{Kind}
use Rattle.metering_model.specs.Batch.{Record, Tag}
use Rattle.metering_model.specs.Dates.{stamp_in}
use Rattle.metering_model.specs.BatchReading.{tags_in}
use Rattle.metering_model.proofs.StepLaws.{step_ok}
use Rattle.record_view.specs.declared.exact.ReadingFields.{ReadingFields}
use Rattle.record_view.specs.Inner.TagParts.{are_tags}
use Rattle.record_view.specs.Inner.LineFields.{record_of_reading}
use Rattle.record_view.specs.Inner.RecordSteps.{kind_step, stamp_step, order_step, text_step, key_step, value_step, sign_step, commitment_step, tags_step, reading_in}

pub record Answered (letter start_text end_text key_text value_text commitment_text tags_text : List ℕ) : Type 0 where
  pub kind_of : Kind
  pub start_of : ℤ
  pub end_of : ℤ
  pub value_of : ℤ
  pub tags_of : List Tag
  pub kind : kind_step letter ≡ Ok kind_of
  pub start : stamp_step start_text ≡ Ok start_of
  pub end : stamp_step end_text ≡ Ok end_of
  pub order : order_step start_of end_of ≡ Ok tt
  pub key : key_step key_text ≡ Ok tt
  pub value : value_step value_text ≡ Ok value_of
  pub sign : sign_step kind_of value_of ≡ Ok tt
  pub commitment : commitment_step kind_of commitment_text ≡ Ok tt
  pub tags : tags_step tags_text ≡ Ok tags_of

pub answered_all : (letter start end account resource key value commitment tags : List ℕ) (r : Record) → reading_in letter start end account resource key value commitment tags ≡ Ok r
    → Answered letter start end key value commitment tags
unfolding reading_in
answered_all letter start end account resource key value commitment tags r h =
    let kind = step_ok (kind_step letter) _ r h in
    let from = step_ok (stamp_step start) _ r kind.2 in
    let to = step_ok (stamp_step end) _ r from.2 in
    let order = step_ok (order_step from.0 to.0) _ r to.2 in
    let account_met = step_ok (text_step account) _ r order.2 in
    let resource_met = step_ok (text_step resource) _ r account_met.2 in
    let key_met = step_ok (key_step key) _ r resource_met.2 in
    let number = step_ok (value_step value) _ r key_met.2 in
    let sign = step_ok (sign_step kind.0 number.0) _ r number.2 in
    let commitment_met = step_ok (commitment_step kind.0 commitment) _ r sign.2 in
    let tag_list = step_ok (tags_step tags) _ r commitment_met.2 in
    record {
      kind_of = kind.0;
      start_of = from.0;
      end_of = to.0;
      value_of = number.0;
      tags_of = tag_list.0;
      kind = kind.1;
      start = from.1;
      end = to.1;
      order = order.1;
      key = key_met.1;
      value = number.1;
      sign = sign.1;
      commitment = commitment_met.1;
      tags = tag_list.1;
    }

-- the answers of fields in their places
abbrev pub AnsweredAll : List ℕ → ReadingFields → Type 0
AnsweredAll letter f = Answered letter f.start.text.now f.end.text.now f.key.text.now f.value.text.now f.commitment.text.now f.tags.text.now

-- where one step does not answer, the fields are read as no record
pub not_read : {A : Type 0} (told : Result A BatchCode) (letter : List ℕ) (f : ReadingFields) → (AnsweredAll letter f → ⊥) → IfErr told (λ e. (r : Record) → record_of_reading letter f ≢ Ok r)
not_read (Ok x) letter f h = tt
not_read (Err e) letter f h = λ r read.
    h (answered_all letter f.start.text.now f.end.text.now f.account.text.now f.resource.text.now f.key.text.now f.value.text.now f.commitment.text.now f.tags.text.now r read)

pub clash : {A : Type 0} (r : Result A BatchCode) (x : A) (e : BatchCode) → r ≡ Ok x → r ≡ Err e → ⊥
clash r x e met broken = absurd (cc)

-- the same of a step from what an earlier one answered, and of one from two
pub clash_from : {A B : Type 0} (f : A → Result B BatchCode) (p : Result A BatchCode) (x y : A) (z : B) (e : BatchCode) → p ≡ Ok x → p ≡ Ok y → f x ≡ Ok z → f y ≡ Err e → ⊥
clash_from f p x y z e first again met broken =
    let same : x ≡ y = cc in
    clash (f y) z e (ap f (sym same) ∙ met) broken

pub clash_from_both : {A B C : Type 0} (f : A → B → Result C BatchCode) (p : Result A BatchCode) (q : Result B BatchCode) (x y : A) (u v : B) (z : C) (e : BatchCode)
    → p ≡ Ok x → p ≡ Ok y → q ≡ Ok u → q ≡ Ok v → f x u ≡ Ok z → f y v ≡ Err e → ⊥
clash_from_both f p q x y u v z e first again second too met broken =
    let same : x ≡ y = cc in
    let alike : u ≡ v = cc in
    clash (f y v) z e (ap₂ f (sym same) (sym alike) ∙ met) broken

-- ---- stamps that were not read together

pub stamps_not_read : (first second : List ℕ) → None ≡ option_zip (stamp_in first) (stamp_in second) → (s t : ℤ) → stamp_step first ≡ Ok s → stamp_step second ≡ Ok t → ⊥
unfolding stamp_step
stamps_not_read first second h s t start end = by_stamps (stamp_in first) (stamp_in second) h start end
  where
    by_stamps : (a b : Option ℤ) → None ≡ option_zip a b → ok_or a Time ≡ Ok s → ok_or b Time ≡ Ok t → ⊥
    by_stamps None b h start end = absurd (cc)
    by_stamps (Some x) None h start end = absurd (cc)
    by_stamps (Some x) (Some y) h start end = absurd (cc)

-- ---- a step that is met

pub tags_known : (t : List ℕ) (ts : List Tag) → tags_step t ≡ Ok ts → are_tags t ≡ true
unfolding tags_step are_tags
tags_known t ts h = by_tags (tags_in t) h
  where
    by_tags : (o : Option (List Tag)) → ok_or o Tags ≡ Ok ts → is_some o ≡ true
    by_tags None e = absurd (cc)
    by_tags (Some us) e = refl
