-- No field of a record has a byte at which texts are cut: a `|` or a line feed.
use Rattle.std.proofs.Common.{◌≡◌, ℕ, ◌<◌, ◌^◌, Bool, true, not, ◌&&◌, List, [], ◌∷◌, map, ℤ, unsigned_abs, decimal, refl, ap, ◌∙◌, arith}
use Rattle.std.specs.Prelude.{◌==◌, nat_le}
use Rattle.std.specs.List.{list_all}
use Rattle.std.proofs.lemmas.Bool.{and_parts, and_from}
use Rattle.std.proofs.lemmas.Bool.Decides.{nat_tests}
use Rattle.metering_model.specs.NumberText.{spelling, is_digit, value_limit}
use Rattle.metering_model.specs.Dates.{IsStampText}
use Rattle.metering_model.specs.Batch.{Kind, Usage, Purchase, Credit, Tax, Adjustment, kind_text, Tag, tag_text, tags_text, is_text, is_text_byte, is_field, lacks, is_tag}
use Rattle.metering_model.proofs.NumberLaws.{spelling_bytes, decimal_bytes}
use Rattle.metering_model.proofs.DateLaws.{is_stamp_byte, stamp_bytes}
use Rattle.metering_model.proofs.Splitting.{list_all_weaker, list_all_both, join_passes}
use Rattle.metering_model.proofs.FieldLaws.{value_fits}
use Rattle.metering_model.proofs.TagLaws.{tag_parts, tag_bytes}

-- a byte at which nothing is cut but tags
abbrev pub is_inner : ℕ → Bool
is_inner c = not (c == 124) && not (c == 10)

-- ---- the test of each field's bytes is a stronger one

text_inner : (c : ℕ) → is_text_byte c ≡ true → not (c == 124) ≡ true → is_inner c ≡ true
text_inner c h k = grind (arith, nat_tests)

stamp_inner : (c : ℕ) → is_stamp_byte c ≡ true → is_inner c ≡ true
stamp_inner c h = grind (arith, nat_tests)

spelling_inner : (c : ℕ) → (nat_le 45 c && nat_le c 57 && not (c == 47)) ≡ true → is_inner c ≡ true
spelling_inner c h = grind (arith, nat_tests)

digit_inner : (c : ℕ) → is_digit c ≡ true → is_inner c ≡ true
digit_inner c h = grind (arith, nat_tests)

inner_no_bar : (c : ℕ) → is_inner c ≡ true → not (c == 124) ≡ true
inner_no_bar c h = (and_parts _ _ h).0

inner_no_feed : (c : ℕ) → is_inner c ≡ true → not (c == 10) ≡ true
inner_no_feed c h = (and_parts _ _ h).1

-- ---- the bytes of each field

field_bytes : (t : List ℕ) → is_text t ≡ true → lacks 124 t ≡ true → list_all is_inner t ≡ true
field_bytes [] h k = refl
field_bytes (c ∷ cs) h k =
    let text = and_parts (is_text_byte c) (is_text cs) h in
    let bars = and_parts (not (c == 124)) (lacks 124 cs) k in
    and_from _ _ (text_inner c text.0 bars.0) (field_bytes cs text.1 bars.1)

pub field_is_inner : (t : List ℕ) → is_field t ≡ true → list_all is_inner t ≡ true
field_is_inner t h = field_bytes t (and_parts (is_text t) (lacks 124 t) h).0 (and_parts (is_text t) (lacks 124 t) h).1

pub kind_is_inner : (k : Kind) → list_all is_inner (kind_text k) ≡ true
kind_is_inner Usage = refl
kind_is_inner Purchase = refl
kind_is_inner Credit = refl
kind_is_inner Tax = refl
kind_is_inner Adjustment = refl

pub stamp_is_inner : (t : List ℕ) (n : ℤ) → IsStampText t n → list_all is_inner t ≡ true
stamp_is_inner t n h = list_all_weaker is_stamp_byte is_inner stamp_inner t (stamp_bytes t n h)

pub value_is_inner : (v : ℤ) → unsigned_abs v < value_limit → list_all is_inner (spelling 6 v) ≡ true
value_is_inner v h =
    list_all_weaker (λ c. nat_le 45 c && nat_le c 57 && not (c == 47)) is_inner spelling_inner (spelling 6 v) (spelling_bytes 6 v (value_fits v h))

pub decimal_is_inner : (n : ℕ) → n < 10 ^ 64 → list_all is_inner (decimal n) ≡ true
decimal_is_inner n h = list_all_weaker is_digit is_inner digit_inner (decimal n) (decimal_bytes n h)

tag_texts_are_inner : (ts : List Tag) → list_all is_tag ts ≡ true → list_all (list_all is_inner) (map tag_text ts) ≡ true
tag_texts_are_inner [] h = refl
tag_texts_are_inner (g ∷ gs) h =
    let both = and_parts (is_tag g) (list_all is_tag gs) h in
    let p = tag_parts g both.0 in
    and_from _ _
    (ap (list_all is_inner) (tag_bytes g) ∙ list_all_both is_inner g.key (61 ∷ g.value) (field_is_inner g.key p.key) (and_from _ _ refl (field_is_inner g.value p.value)))
    (tag_texts_are_inner gs both.1)

pub tags_are_inner : (ts : List Tag) → list_all is_tag ts ≡ true → list_all is_inner (tags_text ts) ≡ true
tags_are_inner ts h = join_passes is_inner 59 (map tag_text ts) refl (tag_texts_are_inner ts h)

-- ---- fields and lines

pub inner_lacks_bar : (t : List ℕ) → list_all is_inner t ≡ true → lacks 124 t ≡ true
inner_lacks_bar t h = list_all_weaker is_inner (λ c. not (c == 124)) inner_no_bar t h

pub inner_lacks_feed : (t : List ℕ) → list_all is_inner t ≡ true → lacks 10 t ≡ true
inner_lacks_feed t h = list_all_weaker is_inner (λ c. not (c == 10)) inner_no_feed t h
