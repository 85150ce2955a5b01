-- A line whose spans are known has its fields there, and a line that was read has its record.
use Rattle.std.proofs.Common.{◌≡◌, ℕ, zero, suc, ◌+◌, ◌<◌, ◌≤◌, List, [], ◌∷◌, length, take, drop, map, All, get_or, Ok, Option, Some, None, is_some, true, slice_range, refl, sym, ap, subst, ◌∙◌, arith}
use Rattle.std.specs.List.{slice_get}
use Rattle.std.specs.Option.{option_map, option_to_list}
use Rattle.std.proofs.lemmas.Bool.{false≢true}
use Rattle.std.proofs.lemmas.Option.{none-some, same_Some, slice_get_within, get_or_from_slice_get}
use Rattle.std.proofs.lemmas.List.{get_or-take, length-take-le}
use Rattle.metering_model.specs.Batch as model
use Rattle.metering_model.specs.Batch.{record_fields, is_region_of}
use Rattle.metering_model.specs.declared.Version.{Version}
use Rattle.metering_model.specs.declared.Version.TheVariants.{B1, B2}
use Rattle.metering_model.specs.BatchReading.{record_in, fields_in, tags_in}
use Rattle.metering_model.proofs.TagLaws.{tags_written}
use Rattle.metering_model.proofs.RecordLaws.{record_read}
use Rattle.metering_model.proofs.Splitting.{parts_lack}
use Rattle.record_view.specs.declared.fields.Span.{Span}
use Rattle.record_view.specs.declared.records.Reading.{Reading}
use Rattle.record_view.specs.declared.records.Record as lent_record
use Rattle.record_view.specs.Parts.{LentText, lent, AreLentApart}
use Rattle.record_view.specs.TagTexts.{tag_of, tags_at}
use Rattle.record_view.specs.Inner.TagParts.{are_tags}
use Rattle.record_view.specs.Inner.Placed.{texts_of}
use Rattle.record_view.specs.Inner.KeptFields.{LiesWithin, StandsAt, HasTags, MayHaveRegion, HasRegion, IsLentAtSpans}
use Rattle.record_view.specs.declared.fields.Field.{Field}
use Rattle.record_view.specs.declared.kept.Numbers.{Numbers}
use Rattle.record_view.specs.Lent.{fields_at, text_at, lent_texts, lent_fields, reading_tags, reading_region, model_reading}
use Rattle.record_view.specs.Spans.{span_of, spans_at, reading_fields, IsReadingAt, IsRecordAt}
use Rattle.record_view.proofs.TagLaws.{texts_of_parts, tags_read}
use Rattle.record_view.proofs.LentLaws.{lent_rest, tags_then}
use Rattle.record_view.proofs.SpanLaws.{behind_tags, fields_lie_apart}

within_of : (source : List ℕ) (from to : ℕ) (ts : List LentText) → AreLentApart source from to ts → (k : ℕ) (d : Span) → k < length (map span_of ts)
    → LiesWithin source (get_or (map span_of ts) k d)
within_of source from to [] h k d short = absurd (omega (arith, short))
within_of source from to (t ∷ ts) h zero d short = (h.0.ordered, h.0.within)
within_of source from to (t ∷ ts) h (suc k) d short = within_of source (t.to + 1) to ts h.3 k d (omega (arith, short))

-- the spans of a line's fields lie in the source
pub spans_within : (source : List ℕ) (line : Span) → line.from ≤ line.to → line.to ≤ length source → All (LiesWithin source) (spans_at source line)
spans_within source line ordered within = within_of source line.from line.to (fields_at source line) (fields_lie_apart source line ordered within)

-- where the span of a field is known, so is the field
text_of : (source : List ℕ) (from to : ℕ) (ts : List LentText) → AreLentApart source from to ts → (k : ℕ) (s : Span) → slice_get (map span_of ts) k ≡ Some s
    → slice_get ts k ≡ Some (text_at source s)
text_of source from to [] h k s e = absurd (cc)
text_of source from to (t ∷ ts) h zero s e =
    let same : span_of t ≡ s = cc in
    let text : t ≡ text_at source (span_of t) = ap (λ x. record { text = x; from = t.from; to = t.to }) h.0.text in
    ap Some (text ∙ ap (text_at source) same)
text_of source from to (t ∷ ts) h (suc k) s e = text_of source (t.to + 1) to ts h.3 k s e

-- a field that was lent at the span of a line's field is that field
pub kept_text : (source : List ℕ) (line : Span) (k : ℕ) (t : LentText) → line.from ≤ line.to → line.to ≤ length source
    → slice_get (spans_at source line) k ≡ Some (span_of t) → t.text ≡ slice_range source t.from t.to → slice_get (fields_at source line) k ≡ Some t
kept_text source line k t ordered within span text =
    text_of source line.from line.to (fields_at source line) (fields_lie_apart source line ordered within) k (span_of t) span
    ∙ ap (λ x. Some (record { text = x; from = t.from; to = t.to })) (sym text)

-- ---- spans among more of them

-- a span among the first
pub among_first : (n : ℕ) (spans : List Span) (k : ℕ) (s : Span) → k < n → slice_get spans k ≡ Some s → slice_get (take n spans) k ≡ Some s
among_first zero spans k s below is = absurd (omega arith)
among_first (suc n) [] k s below is = is
among_first (suc n) (x ∷ xs) zero s below is = is
among_first (suc n) (x ∷ xs) (suc k) s below is = among_first n xs k s (omega arith) is

nine_at_least : (version : Version) → 9 ≤ reading_fields version
nine_at_least B1 = omega arith
nine_at_least B2 = omega arith

-- the first nine of the spans of a line
pub nine_within : (version : Version) (source : List ℕ) (line : Span) (spans : List Span) → line.from ≤ line.to → line.to ≤ length source
    → take (reading_fields version) spans ≡ spans_at source line → 10 ≤ length spans → All (LiesWithin source) (take 9 spans)
nine_within version source line spans ordered within are many = λ k d short.
    let at_least = nine_at_least version in
    let long = length-take-le 9 spans (omega arith) in
    let all = length-take-le (reading_fields version) spans (by_version version) in
    let same : get_or (take 9 spans) k d ≡ get_or (spans_at source line) k d =
    get_or-take 9 spans k d (omega (arith, short, long)) ∙ sym (get_or-take (reading_fields version) spans k d (omega (arith, short, long, at_least)))
    ∙ ap (λ ss. get_or ss k d) are in
    subst (LiesWithin source) (sym same) (spans_within source line ordered within k d (omega (arith, short, long, all, at_least, ap length are)))
  where
    by_version : (v : Version) → reading_fields v ≤ length spans
    by_version B1 = omega (arith, many)
    by_version B2 = many

pub region_within : (version : Version) (source : List ℕ) (line : Span) (spans : List Span) → line.from ≤ line.to → line.to ≤ length source
    → take (reading_fields version) spans ≡ spans_at source line → MayHaveRegion version source spans
region_within B1 source line spans ordered within are = tt
region_within B2 source line spans ordered within are = λ s is.
    let got : slice_get (spans_at source line) 9 ≡ Some s = sym (ap (λ ss. slice_get ss 9) are) ∙ among_first 10 spans 9 s (omega arith) is in
    subst (LiesWithin source) (get_or_from_slice_get (spans_at source line) 9 s s got)
    (spans_within source line ordered within 9 s (slice_get_within (spans_at source line) 9 s got))

-- ---- the fields of a reading, by their places

-- The seven fields that a reading lends, and its tags, stand at their places among these.
pub record AreFieldsOf (ts : List LentText) (start end account resource key commitment tags : LentText) : Type 0 where
  pub start_is : slice_get ts 1 ≡ Some start
  pub end_is : slice_get ts 2 ≡ Some end
  pub account_is : slice_get ts 3 ≡ Some account
  pub resource_is : slice_get ts 4 ≡ Some resource
  pub key_is : slice_get ts 5 ≡ Some key
  pub commitment_is : slice_get ts 7 ≡ Some commitment
  pub tags_is : slice_get ts 8 ≡ Some tags

-- the field behind the nine is the region
abbrev HasRegionAt : Version → List LentText → Option Field → Type 0
HasRegionAt B1 ts region = region ≡ None
HasRegionAt B2 ts region = (f : Field) × (region ≡ Some f) × (slice_get ts 9 ≡ Some (lent f))

record Nine (ts : List LentText) (start end account resource key commitment tags : LentText) (region : Option Field) (m : model.Reading) : Type 0 where
  pub letter : LentText
  pub value : LentText
  pub are : ts ≡ letter ∷ start ∷ end ∷ account ∷ resource ∷ key ∷ value ∷ commitment ∷ tags ∷ behind_tags region
  pub start_is : m.start_text ≡ start.text
  pub end_is : m.end_text ≡ end.text
  pub account_is : m.account ≡ account.text
  pub resource_is : m.resource ≡ resource.text
  pub key_is : m.key ≡ key.text
  pub commitment_is : m.commitment ≡ commitment.text
  pub tags_are : tags_in tags.text ≡ Some m.tags
  pub region_is : m.region ≡ option_map (λ f. f.text.now) region

-- what stands behind the nine, and what the model's region is
region_of : (version : Version) (rest : List LentText) (known : Option (List ℕ)) (region : Option Field) → texts_of rest ≡ option_to_list known
    → is_region_of version known ≡ true → (version ≡ B1 → region ≡ None) → (version ≡ B2 → (f : Field) × (region ≡ Some f) × (slice_get rest 0 ≡ Some (lent f)))
    → (rest ≡ behind_tags region) × (known ≡ option_map (λ f. f.text.now) region)
region_of B1 [] None region same fits none some = (sym (ap behind_tags (none refl)), sym (ap (option_map (λ f. f.text.now)) (none refl)))
region_of B1 (y ∷ ys) None region same fits none some = absurd (cc)
region_of B1 rest (Some t) region same fits none some = absurd (false≢true fits)
region_of B2 rest None region same fits none some = absurd (false≢true fits)
region_of B2 [] (Some t) region same fits none some = absurd (cc)
region_of B2 (y ∷ []) (Some t) region same fits none some =
    let f = some refl in
    let is : y ≡ lent f.0 = let got = f.2 in cc in
    let text : y.text ≡ t = cc in
    (ap (λ x. x ∷ []) is ∙ sym (ap behind_tags f.1), ap Some (sym text ∙ ap (λ x. x.text) is) ∙ sym (ap (option_map (λ x. x.text.now)) f.1))
region_of B2 (y ∷ z ∷ zs) (Some t) region same fits none some = absurd (cc)

none_in : (version : Version) (ts : List LentText) (region : Option Field) → HasRegionAt version ts region → version ≡ B1 → region ≡ None
none_in B1 ts region has is = has
none_in B2 ts region has is = absurd (cc)

some_in : (version : Version) (ts : List LentText) (region : Option Field) → HasRegionAt version ts region → version ≡ B2 → (f : Field) × (region ≡ Some f) × (slice_get ts 9 ≡ Some (lent f))
some_in B1 ts region has is = absurd (cc)
some_in B2 ts region has is = has

nine : (version : Version) (ts : List LentText) (start end account resource key commitment tags : LentText) (region : Option Field) (m : model.Reading)
    → AreFieldsOf ts start end account resource key commitment tags → HasRegionAt version ts region → texts_of ts ≡ record_fields (model.Reads m) → model.IsReading m
    → is_region_of version m.region ≡ true → Nine ts start end account resource key commitment tags region m
nine version [] s e a r k c t g m are has same is fits = absurd (none-some t are.tags_is)
nine version (x0 ∷ []) s e a r k c t g m are has same is fits = absurd (none-some t are.tags_is)
nine version (x0 ∷ x1 ∷ []) s e a r k c t g m are has same is fits = absurd (none-some t are.tags_is)
nine version (x0 ∷ x1 ∷ x2 ∷ []) s e a r k c t g m are has same is fits = absurd (none-some t are.tags_is)
nine version (x0 ∷ x1 ∷ x2 ∷ x3 ∷ []) s e a r k c t g m are has same is fits = absurd (none-some t are.tags_is)
nine version (x0 ∷ x1 ∷ x2 ∷ x3 ∷ x4 ∷ []) s e a r k c t g m are has same is fits = absurd (none-some t are.tags_is)
nine version (x0 ∷ x1 ∷ x2 ∷ x3 ∷ x4 ∷ x5 ∷ []) s e a r k c t g m are has same is fits = absurd (none-some t are.tags_is)
nine version (x0 ∷ x1 ∷ x2 ∷ x3 ∷ x4 ∷ x5 ∷ x6 ∷ []) s e a r k c t g m are has same is fits = absurd (none-some t are.tags_is)
nine version (x0 ∷ x1 ∷ x2 ∷ x3 ∷ x4 ∷ x5 ∷ x6 ∷ x7 ∷ []) s e a r k c t g m are has same is fits = absurd (none-some t are.tags_is)
nine version (x0 ∷ x1 ∷ x2 ∷ x3 ∷ x4 ∷ x5 ∷ x6 ∷ x7 ∷ x8 ∷ rest) s e a r k c t g m are has same is fits =
    let e1 : x1 ≡ s = same_Some x1 s are.start_is in
    let e2 : x2 ≡ e = same_Some x2 e are.end_is in
    let e3 : x3 ≡ a = same_Some x3 a are.account_is in
    let e4 : x4 ≡ r = same_Some x4 r are.resource_is in
    let e5 : x5 ≡ k = same_Some x5 k are.key_is in
    let e7 : x7 ≡ c = same_Some x7 c are.commitment_is in
    let e8 : x8 ≡ t = same_Some x8 t are.tags_is in
    let all = x0 ∷ x1 ∷ x2 ∷ x3 ∷ x4 ∷ x5 ∷ x6 ∷ x7 ∷ x8 ∷ rest in
    let behind = region_of version rest m.region g (ap (drop 9) same) fits (none_in version all g has) (some_in version all g has) in
    let last : rest ≡ behind_tags g = behind.0 in
    record {
      letter = x0;
      value = x6;
      are = cc;
      start_is = sym (at 1 same) ∙ ap (λ x. x.text) e1;
      end_is = sym (at 2 same) ∙ ap (λ x. x.text) e2;
      account_is = sym (at 3 same) ∙ ap (λ x. x.text) e3;
      resource_is = sym (at 4 same) ∙ ap (λ x. x.text) e4;
      key_is = sym (at 5 same) ∙ ap (λ x. x.text) e5;
      commitment_is = sym (at 7 same) ∙ ap (λ x. x.text) e7;
      tags_are = ap tags_in (sym (ap (λ x. x.text) e8) ∙ at 8 same) ∙ tags_written m.tags is.tags;
      region_is = behind.1;
    }
  where
    at : {xs ys : List (List ℕ)} (n : ℕ) → xs ≡ ys → get_or xs n [] ≡ get_or ys n []
    at n e = ap (λ zs. get_or zs n []) e

-- the ninth field of a line that is read as a reading is tags
tags_of_ninth : (ts : List LentText) (t : LentText) (m : model.Reading) → slice_get ts 8 ≡ Some t → texts_of ts ≡ record_fields (model.Reads m) → model.IsReading m
    → tags_in t.text ≡ Some m.tags
tags_of_ninth ts t m got same is =
    let text : t.text ≡ model.tags_text m.tags = ninth ts got same in
    ap tags_in text ∙ tags_written m.tags is.tags
  where
    ninth : (us : List LentText) → slice_get us 8 ≡ Some t → texts_of us ≡ record_fields (model.Reads m) → t.text ≡ model.tags_text m.tags
    ninth [] got same = absurd (none-some t got)
    ninth (x0 ∷ []) got same = absurd (none-some t got)
    ninth (x0 ∷ x1 ∷ []) got same = absurd (none-some t got)
    ninth (x0 ∷ x1 ∷ x2 ∷ []) got same = absurd (none-some t got)
    ninth (x0 ∷ x1 ∷ x2 ∷ x3 ∷ []) got same = absurd (none-some t got)
    ninth (x0 ∷ x1 ∷ x2 ∷ x3 ∷ x4 ∷ []) got same = absurd (none-some t got)
    ninth (x0 ∷ x1 ∷ x2 ∷ x3 ∷ x4 ∷ x5 ∷ []) got same = absurd (none-some t got)
    ninth (x0 ∷ x1 ∷ x2 ∷ x3 ∷ x4 ∷ x5 ∷ x6 ∷ []) got same = absurd (none-some t got)
    ninth (x0 ∷ x1 ∷ x2 ∷ x3 ∷ x4 ∷ x5 ∷ x6 ∷ x7 ∷ []) got same = absurd (none-some t got)
    ninth (x0 ∷ x1 ∷ x2 ∷ x3 ∷ x4 ∷ x5 ∷ x6 ∷ x7 ∷ x8 ∷ us) got same =
        let last : x8 ≡ t = cc in
        sym (ap (λ x. x.text) last) ∙ ap (λ zs. get_or zs 8 []) same

-- ---- what the reading is, and what it lends

-- what the fields of a reading lend, of which the tags are tags
apart_of : (source : List ℕ) (from to : ℕ) (a b c d f g h i j : LentText) (region : Option LentText) → are_tags j.text ≡ true
    → AreLentApart source from to (a ∷ b ∷ c ∷ d ∷ f ∷ g ∷ h ∷ i ∷ j ∷ option_to_list region)
    → AreLentApart source from to (lent_texts b c d f g i (tags_at j) region)
apart_of source from to a b c d f g h i j region ok all =
    let x = lent_rest source from to a (b ∷ c ∷ d ∷ f ∷ g ∷ h ∷ i ∷ j ∷ option_to_list region) all in
    let x2 = x.3 in
    let x3 = x2.3 in
    let x4 = x3.3 in
    let x5 = x4.3 in
    let x6 = lent_rest source (g.to + 1) to h (i ∷ j ∷ option_to_list region) x5.3 in
    let tags = tags_then source (i.to + 1) to j region ok x6.3 in
    (x.0, x.1, x.2, (x2.0, x2.1, x2.2, (x3.0, x3.1, x3.2, (x4.0, x4.1, x4.2, (x5.0, x5.1, x5.2, (x6.0, x6.1, x6.2, tags))))))

-- the line is read as a reading, whose fields it has
record ReadsAs (version : Version) (source : List ℕ) (line : Span) (m : model.Reading) : Type 0 where
  pub texts : texts_of (fields_at source line) ≡ record_fields (model.Reads m)
  pub rules : model.IsReading m
  pub fits : is_region_of version m.region ≡ true

reads_as : (version : Version) (source : List ℕ) (line : Span) (m : model.Reading) → record_in version (fields_in (slice_range source line.from line.to)) ≡ Ok (model.Reads m)
    → ReadsAs version source line m
reads_as version source line m read =
    let text = slice_range source line.from line.to in
    let is = record_read version (fields_in text) (model.Reads m) read (parts_lack 124 text) in
    record { texts = texts_of_parts 124 (text_at source line) ∙ is.0; rules = is.1; fits = is.2 }

stands_text : (version : Version) (source : List ℕ) (line : Span) (spans : List Span) (k : ℕ) (f : Field) → line.from ≤ line.to → line.to ≤ length source
    → take (reading_fields version) spans ≡ spans_at source line → k < reading_fields version → StandsAt source spans k f → slice_get (fields_at source line) k ≡ Some (lent f)
stands_text version source line spans k f ordered within are below stands =
    kept_text source line k (lent f) ordered within
    (sym (ap (λ ss. slice_get ss k) are) ∙ among_first (reading_fields version) spans k f.span below stands.span) stands.text

below_nine : (version : Version) (k : ℕ) → k < 9 → k < reading_fields version
below_nine version k h = omega (arith, nine_at_least version)

-- the ninth field of a line that is read as a reading is tags
pub tags_known : (version : Version) (source : List ℕ) (line : Span) (spans : List Span) (m : model.Reading) → line.from ≤ line.to → line.to ≤ length source
    → take (reading_fields version) spans ≡ spans_at source line
    → record_in version (fields_in (slice_range source line.from line.to)) ≡ Ok (model.Reads m) → HasTags source spans
unfolding are_tags
tags_known version source line spans m ordered within are read = λ s is.
    let got = sym (ap (λ ss. slice_get ss 8) are) ∙ among_first (reading_fields version) spans 8 s (below_nine version 8 (omega arith)) is in
    let ninth = text_of source line.from line.to (fields_at source line) (fields_lie_apart source line ordered within) 8 s got in
    let as_read = reads_as version source line m read in
    ap is_some (tags_of_ninth (fields_at source line) (text_at source s) m ninth as_read.texts as_read.rules)

tags_ok : (t : LentText) (m : model.Reading) → tags_in t.text ≡ Some m.tags → are_tags t.text ≡ true
unfolding are_tags
tags_ok t m e = ap is_some e

region_at : (version : Version) (source : List ℕ) (line : Span) (spans : List Span) (region : Option Field) → line.from ≤ line.to → line.to ≤ length source
    → take (reading_fields version) spans ≡ spans_at source line → HasRegion version source spans region → HasRegionAt version (fields_at source line) region
region_at B1 source line spans region ordered within are has = has
region_at B2 source line spans region ordered within are has =
    (has.field, has.is, stands_text B2 source line spans 9 has.field ordered within are (omega arith) has.stands)

pub kept : (version : Version) (source : List ℕ) (line : Span) (spans : List Span) (n : Numbers) (r : Reading) → line.from ≤ line.to → line.to ≤ length source
    → take (reading_fields version) spans ≡ spans_at source line → IsReadingAt version source line n.kind n.start n.end n.value → IsLentAtSpans version source spans n r
    → IsRecordAt version source line (lent_record.TheVariants.Reading r)
kept version source line spans n r ordered within are at made =
    let m = at.reading in
    let stands : (k : ℕ) (f : Field) → k < 9 → StandsAt source spans k f → slice_get (fields_at source line) k ≡ Some (lent f) =
    λ k f below is. stands_text version source line spans k f ordered within are (below_nine version k below) is in
    let fields : AreFieldsOf (fields_at source line) (lent r.start_text) (lent r.end_text) (lent r.account) (lent r.resource) (lent r.key) (lent r.commitment) (lent made.tags_field) = record {
      start_is = stands 1 r.start_text (omega arith) made.start_text;
      end_is = stands 2 r.end_text (omega arith) made.end_text;
      account_is = stands 3 r.account (omega arith) made.account;
      resource_is = stands 4 r.resource (omega arith) made.resource;
      key_is = stands 5 r.key (omega arith) made.key;
      commitment_is = stands 7 r.commitment (omega arith) made.commitment;
      tags_is = stands 8 made.tags_field (omega arith) made.tags_text;
    } in
    let as_read = reads_as version source line m at.read in
    let region = region_at version source line spans (reading_region r) ordered within are made.region_is in
    let x = nine version (fields_at source line) _ _ _ _ _ _ _ (reading_region r) m fields region as_read.texts as_read.rules as_read.fits in
    let ok : are_tags made.tags_field.text.now ≡ true = tags_ok (lent made.tags_field) m x.tags_are in
    let read = tags_read (lent made.tags_field) ok in
    let tags : m.tags ≡ map tag_of (reading_tags r) = let e = x.tags_are in let same : m.tags ≡ map tag_of (tags_at (lent made.tags_field)) = cc in same ∙ ap (map tag_of) (sym made.tags_are) in
    let all = subst (AreLentApart source line.from line.to) x.are (fields_lie_apart source line ordered within) in
    let apart = apart_of source line.from line.to x.letter _ _ _ _ _ x.value _ (lent made.tags_field) (option_map lent (reading_region r)) ok all in
    record {
      read = at.read ∙ ap (λ y. Ok (model.Reads y)) {y = model_reading r} (same_reading tags x.start_is x.end_is x.account_is x.resource_is x.key_is x.commitment_is x.region_is (made.kind_is ∙ at.kind_is) (made.start_is ∙ at.start_is) (made.end_is ∙ at.end_is) (made.value_is ∙ at.value_is));
      lent = record {
        apart = rw made.tags_are apart;
        places = rw made.tags_are (sym (lent_of (fields_at source line) x.letter _ _ _ _ _ x.value _ (lent made.tags_field) (option_map lent (reading_region r)) x.are));
      };
    }
  where
    lent_of : (ts : List LentText) (a b c d f g h i j : LentText) (region : Option LentText) → ts ≡ a ∷ b ∷ c ∷ d ∷ f ∷ g ∷ h ∷ i ∷ j ∷ option_to_list region
        → lent_fields ts ≡ lent_texts b c d f g i (tags_at j) region
    lent_of ts a b c d f g h i j None e = ap lent_fields e
    lent_of ts a b c d f g h i j (Some q) e = ap lent_fields e

    same_reading : {m : model.Reading} → m.tags ≡ map tag_of (reading_tags r) → m.start_text ≡ r.start_text.text.now → m.end_text ≡ r.end_text.text.now
        → m.account ≡ r.account.text.now → m.resource ≡ r.resource.text.now → m.key ≡ r.key.text.now → m.commitment ≡ r.commitment.text.now
        → m.region ≡ option_map (λ f. f.text.now) (reading_region r)
        → r.kind ≡ m.kind → r.start ≡ m.start → r.end ≡ m.end → r.value ≡ m.value → m ≡ model_reading r
    same_reading tags start end account resource key commitment region kind from to value =
        rw (← tags, ← start, ← end, ← account, ← resource, ← key, ← commitment, ← region, kind, from, to, value) refl
