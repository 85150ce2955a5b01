-- The fields of a line adjoin, so those that a record lends tell where the others stand.
use Rattle.std.proofs.Common.{◌≡◌, ℕ, suc, ◌+◌, ◌-◌, ◌<◌, ◌≤◌, ◌==◌, Bool, true, false, cond, List, [], ◌∷◌, ◌++◌, length, take, map, Option, Some, None, MatchOption, IfSome, Ok, slice_range, refl, sym, ap, ap₂, subst, ◌∙◌, arith, ℤ}
use Rattle.std.specs.List.{slice_split, onto_first, flat_map, last_or}
use Rattle.std.specs.Option.{option_map, option_to_list}
use Rattle.std.proofs.lemmas.Bool.{false≢true}
use Rattle.std.proofs.lemmas.Option.{same_Some}
use Rattle.std.proofs.lemmas.List.{length-map}
use Rattle.std.proofs.lemmas.List.Splits.{length-slice_split}
use Rattle.metering_model.specs.Batch as model
use Rattle.metering_model.specs.Batch.{record_fields, is_region_of}
use Rattle.metering_model.specs.declared.Version.{Version}
use Rattle.metering_model.specs.declared.Version.TheVariants.{B1, B2}
use Rattle.metering_model.specs.BatchReading.{record_in, fields_in}
use Rattle.metering_model.proofs.RecordLaws.{record_read}
use Rattle.metering_model.proofs.Splitting.{parts_lack}
use Rattle.record_view.specs.declared.fields.Span.{Span}
use Rattle.record_view.specs.declared.records.Reading.{Reading}
use Rattle.record_view.specs.declared.fields.Field.{Field}
use Rattle.record_view.specs.TagTexts.{LentTag, tags_at}
use Rattle.record_view.specs.Parts.{LentText, lent, IsLent, AreLentApart, placed_from, parts_at}
use Rattle.record_view.specs.Inner.Placed.{IsPlaced}
use Rattle.record_view.specs.Lent.{fields_at, text_at, tag_texts, lent_texts, lent_fields, reading_texts, reading_region, model_reading}
use Rattle.record_view.specs.Spans.{span_of, spans_at, reading_fields}
use Rattle.record_view.proofs.TagLaws.{texts_of_parts}
use Rattle.record_view.proofs.LentLaws.{lent_placed, parts_lent}

-- where the texts end that stand from there on, one byte apart
abbrev pub end_of : ℕ → List (List ℕ) → ℕ
end_of from [] = from
end_of from (t ∷ []) = from + length t
end_of from (t ∷ u ∷ ts) = end_of (from + length t + 1) (u ∷ ts)

-- The texts stand from the one place to the other, one byte apart.
abbrev pub Adjoin : ℕ → ℕ → List LentText → Type 0
Adjoin from to [] = Unit {0}
Adjoin from to (t ∷ []) = (t.from ≡ from) × (t.to ≡ to)
Adjoin from to (t ∷ u ∷ ts) = (t.from ≡ from) × Adjoin (t.to + 1) to (u ∷ ts)

placed_adjoin : (from : ℕ) (ts : List (List ℕ)) → Adjoin from (end_of from ts) (placed_from from ts)
placed_adjoin from [] = tt
placed_adjoin from (t ∷ []) = (refl, refl)
placed_adjoin from (t ∷ u ∷ ts) = (refl, placed_adjoin (from + length t + 1) (u ∷ ts))

-- one byte more before the first text
end_of-onto : (from x : ℕ) (ts : List (List ℕ)) → 0 < length ts → end_of from (onto_first x ts) ≡ end_of (from + 1) ts
end_of-onto from x [] some = absurd (omega arith)
end_of-onto from x (t ∷ []) some = omega arith
end_of-onto from x (t ∷ u ∷ ts) some =
    let same : from + suc (length t) + 1 ≡ from + 1 + length t + 1 = omega arith in
    ap (λ n. end_of n (u ∷ ts)) same

-- the parts of a text end where it ends
pub end_of-parts : (p : ℕ → Bool) (from : ℕ) (xs : List ℕ) → end_of from (slice_split p xs) ≡ from + length xs
end_of-parts p from [] = refl
end_of-parts p from (x ∷ xs) = at_byte (p x) (end_of-parts p (from + 1) xs)
  where
    some : 0 < length (slice_split p xs)
    some = omega (arith, length-slice_split p xs)

    behind : (ts : List (List ℕ)) → 0 < length ts → end_of from ([] ∷ ts) ≡ end_of (from + 1) ts
    behind [] none = absurd (omega arith)
    behind (t ∷ ts) none = ap (λ n. end_of n (t ∷ ts)) (omega arith)

    at_byte : (b : Bool) → end_of (from + 1) (slice_split p xs) ≡ from + 1 + length xs
        → end_of from (cond b ([] ∷ slice_split p xs) (onto_first x (slice_split p xs))) ≡ from + suc (length xs)
    at_byte true e = behind (slice_split p xs) some ∙ e ∙ omega arith
    at_byte false e = end_of-onto from x (slice_split p xs) some ∙ e ∙ omega arith

parts_adjoin : (byte : ℕ) (t : LentText) → IsPlaced t → Adjoin t.from t.to (parts_at byte t)
unfolding parts_at
parts_adjoin byte t placed =
    let end : end_of t.from (slice_split (λ c. c == byte) t.text) ≡ t.to = end_of-parts (λ c. c == byte) t.from t.text ∙ sym placed.fits in
    subst (λ to. Adjoin t.from to (placed_from t.from (slice_split (λ c. c == byte) t.text))) end (placed_adjoin t.from (slice_split (λ c. c == byte) t.text))

whole_line : (source : List ℕ) (line : Span) → line.from ≤ line.to → line.to ≤ length source → IsLent source (text_at source line)
whole_line source line ordered within = record { ordered = ordered; within = within; text = refl }

pub fields_adjoin : (source : List ℕ) (line : Span) → line.from ≤ line.to → line.to ≤ length source → Adjoin line.from line.to (fields_at source line)
fields_adjoin source line ordered within = parts_adjoin 124 (text_at source line) (lent_placed source (text_at source line) (whole_line source line ordered within))

pub fields_lie_apart : (source : List ℕ) (line : Span) → line.from ≤ line.to → line.to ≤ length source → AreLentApart source line.from line.to (fields_at source line)
fields_lie_apart source line ordered within = parts_lent source 124 (text_at source line) (whole_line source line ordered within)

-- ---- how many fields a line has

-- the fields of a line that is read as a record are that record's
pub fields_read : (version : Version) (source : List ℕ) (line : Span) (r : model.Record) → record_in version (fields_in (slice_range source line.from line.to)) ≡ Ok r
    → length (fields_at source line) ≡ length (record_fields r)
fields_read version source line r read =
    let text = slice_range source line.from line.to in
    sym (length-map (fields_at source line) (λ t. t.text)) ∙ ap length (texts_of_parts 124 (text_at source line))
    ∙ ap length (record_read version (fields_in text) r read (parts_lack 124 text)).0

pub region_fits : (version : Version) (source : List ℕ) (line : Span) (r : model.Reading) → record_in version (fields_in (slice_range source line.from line.to)) ≡ Ok (model.Reads r)
    → is_region_of version r.region ≡ true
region_fits version source line r read =
    let text = slice_range source line.from line.to in
    (record_read version (fields_in text) (model.Reads r) read (parts_lack 124 text)).2

pub four_fields_of : (version : Version) (source : List ℕ) (line : Span) (seq index : ℕ) (value : ℤ)
    → record_in version (fields_in (slice_range source line.from line.to)) ≡ Ok (model.Amends seq index value) → length (fields_at source line) ≡ 4
four_fields_of version source line seq index value read = fields_read version source line (model.Amends seq index value) read

-- ---- the fields of a reading

-- the text behind the tags, if there is one
abbrev pub behind_tags : Option Field → List LentText
behind_tags region = option_to_list (option_map lent region)

-- The fields of a line, of which the reading lends all but three as they stand.
pub record NineFields (source : List ℕ) (line : Span) (r : Reading) : Type 0 where
  pub letter : LentText
  pub value : LentText
  pub tags : LentText
  pub are : fields_at source line
      ≡ letter ∷ lent r.start_text ∷ lent r.end_text ∷ lent r.account ∷ lent r.resource ∷ lent r.key ∷ value ∷ lent r.commitment ∷ tags
      ∷ behind_tags (reading_region r)

same_last : (xs ys : List LentText) (a b : LentText) → xs ++ a ∷ [] ≡ ys ++ b ∷ [] → a ≡ b
same_last xs ys a b e =
    let some : Some a ≡ Some b = sym (last_is None xs a) ∙ ap (last_or None) e ∙ last_is None ys b in
    same_Some a b some
  where
    last_is : (o : Option LentText) (zs : List LentText) (z : LentText) → last_or o (zs ++ z ∷ []) ≡ Some z
    last_is o [] z = refl
    last_is o (x ∷ xs) z = last_is (Some x) xs z

nine_of : (s e a r k c : LentText) (ts : List LentTag) (region : Option LentText) (ps : List LentText) → lent_texts s e a r k c ts region ≡ lent_fields ps
    → length ps ≡ 9 + length (option_to_list region)
    → (letter : LentText) × (value : LentText) × (tags : LentText) × (ps ≡ letter ∷ s ∷ e ∷ a ∷ r ∷ k ∷ value ∷ c ∷ tags ∷ option_to_list region)
nine_of s e a r k c ts region [] texts many = absurd (cc)
nine_of s e a r k c ts region (x0 ∷ []) texts many = absurd (cc)
nine_of s e a r k c ts region (x0 ∷ x1 ∷ []) texts many = absurd (cc)
nine_of s e a r k c ts region (x0 ∷ x1 ∷ x2 ∷ []) texts many = absurd (cc)
nine_of s e a r k c ts region (x0 ∷ x1 ∷ x2 ∷ x3 ∷ []) texts many = absurd (cc)
nine_of s e a r k c ts region (x0 ∷ x1 ∷ x2 ∷ x3 ∷ x4 ∷ []) texts many = absurd (cc)
nine_of s e a r k c ts region (x0 ∷ x1 ∷ x2 ∷ x3 ∷ x4 ∷ x5 ∷ []) texts many = absurd (cc)
nine_of s e a r k c ts region (x0 ∷ x1 ∷ x2 ∷ x3 ∷ x4 ∷ x5 ∷ x6 ∷ []) texts many = absurd (cc)
nine_of s e a r k c ts region (x0 ∷ x1 ∷ x2 ∷ x3 ∷ x4 ∷ x5 ∷ x6 ∷ x7 ∷ []) texts many = absurd (cc)
nine_of s e a r k c ts None (x0 ∷ x1 ∷ x2 ∷ x3 ∷ x4 ∷ x5 ∷ x6 ∷ x7 ∷ x8 ∷ []) texts many = (x0, x6, x8, cc)
nine_of s e a r k c ts (Some q) (x0 ∷ x1 ∷ x2 ∷ x3 ∷ x4 ∷ x5 ∷ x6 ∷ x7 ∷ x8 ∷ []) texts many = absurd (omega (arith, many))
nine_of s e a r k c ts None (x0 ∷ x1 ∷ x2 ∷ x3 ∷ x4 ∷ x5 ∷ x6 ∷ x7 ∷ x8 ∷ x9 ∷ ps) texts many = absurd (omega (arith, many))
nine_of s e a r k c ts (Some q) (x0 ∷ x1 ∷ x2 ∷ x3 ∷ x4 ∷ x5 ∷ x6 ∷ x7 ∷ x8 ∷ x9 ∷ []) texts many =
    let ends : flat_map tag_texts ts ++ q ∷ [] ≡ flat_map tag_texts (tags_at x8) ++ x9 ∷ [] = cc in
    let last : q ≡ x9 = same_last _ _ q x9 ends in
    (x0, x6, x8, cc)
nine_of s e a r k c ts (Some q) (x0 ∷ x1 ∷ x2 ∷ x3 ∷ x4 ∷ x5 ∷ x6 ∷ x7 ∷ x8 ∷ x9 ∷ x10 ∷ ps) texts many = absurd (omega (arith, many))

many_of : (region : Option Field) → length (option_to_list (option_map (λ f. f.text.now) region)) ≡ length (behind_tags region)
many_of None = refl
many_of (Some f) = refl

pub nine_fields_of : (version : Version) (source : List ℕ) (line : Span) (r : Reading) → record_in version (fields_in (slice_range source line.from line.to)) ≡ Ok (model.Reads (model_reading r))
    → reading_texts r ≡ lent_fields (fields_at source line) → NineFields source line r
nine_fields_of version source line r read texts =
    let many = fields_read version source line (model.Reads (model_reading r)) read in
    let n = nine_of _ _ _ _ _ _ _ (option_map lent (reading_region r)) (fields_at source line) texts (omega (arith, many, many_of (reading_region r))) in
    record { letter = n.0; value = n.1; tags = n.2; are = n.3 }

-- where the tags end, and the spans behind them
abbrev pub tags_end : ℕ → Option Field → ℕ
tags_end to None = to
tags_end to (Some f) = f.span.from - 1

abbrev pub last_span : Option Field → List Span
last_span region = option_to_list (option_map (λ f. f.span) region)

record LastPlaces (from to : ℕ) (tags : LentText) (region : Option Field) : Type 0 where
  pub begins : tags.from ≡ from
  pub ends : tags.to ≡ tags_end to region
  pub within : from ≤ to
  pub behind : IfSome region (λ f. 0 < f.span.from)
  pub spans : map span_of (tags ∷ behind_tags region) ≡ record { from = from; to = tags_end to region } ∷ last_span region

last_places : (source : List ℕ) (low from to : ℕ) (tags : LentText) (region : Option Field) → Adjoin from to (tags ∷ behind_tags region)
    → AreLentApart source low to (tags ∷ behind_tags region) → LastPlaces from to tags region
last_places source low from to tags None adjoin h = record {
  begins = adjoin.0;
  ends = adjoin.1;
  within = omega (arith, adjoin.0, h.0.ordered, h.2);
  behind = tt;
  spans = ap₂ (λ a b. record { from = a; to = b } ∷ []) adjoin.0 adjoin.1;
}
last_places source low from to tags (Some f) adjoin h =
    let next = adjoin.1 in
    let ends : tags.to ≡ f.span.from - 1 = omega (arith, next.0) in
    record {
      begins = adjoin.0;
      ends = ends;
      within = omega (arith, adjoin.0, h.0.ordered, h.2);
      behind = omega (arith, next.0);
      spans = ap₂ (λ a b. record { from = a; to = b } ∷ f.span ∷ []) adjoin.0 ends;
    }

-- Where they stand.
pub record NineSpans (source : List ℕ) (line : Span) (r : Reading) : Type 0 where
  pub start_behind : line.from < r.start_text.span.from
  pub commitment_behind : 0 < r.commitment.span.from
  pub key_within : r.key.span.to < line.to
  pub commitment_within : r.commitment.span.to < line.to
  pub region_behind : IfSome (reading_region r) (λ f. 0 < f.span.from)
  pub are : spans_at source line
      ≡ record { from = line.from; to = r.start_text.span.from - 1 } ∷ r.start_text.span ∷ r.end_text.span ∷ r.account.span
      ∷ r.resource.span ∷ r.key.span ∷ record { from = r.key.span.to + 1; to = r.commitment.span.from - 1 } ∷ r.commitment.span
      ∷ record { from = r.commitment.span.to + 1; to = tags_end line.to (reading_region r) } ∷ last_span (reading_region r)

pub nine_spans : (version : Version) (source : List ℕ) (line : Span) (r : Reading) → line.from ≤ line.to → line.to ≤ length source
    → record_in version (fields_in (slice_range source line.from line.to)) ≡ Ok (model.Reads (model_reading r)) → reading_texts r ≡ lent_fields (fields_at source line) → NineSpans source line r
nine_spans version source line r ordered within read places =
    let n = nine_fields_of version source line r read places in
    let lent_all = subst (AreLentApart source line.from line.to) n.are (fields_lie_apart source line ordered within) in
    let adjoin = subst (Adjoin line.from line.to) n.are (fields_adjoin source line ordered within) in
    let start = adjoin.1.0 in
    let value = adjoin.1.1.1.1.1.1.0 in
    let commitment = adjoin.1.1.1.1.1.1.1.0 in
    let later = lent_all.3.3.3.3.3.3 in
    let last = last_places source (r.commitment.span.to + 1) (r.commitment.span.to + 1) line.to n.tags (reading_region r) adjoin.1.1.1.1.1.1.1.1 later.3.3 in
    let letter_ends : n.letter.to ≡ r.start_text.span.from - 1 = omega (arith, start) in
    let value_ends : n.value.to ≡ r.commitment.span.from - 1 = omega (arith, commitment) in
    record {
      start_behind = omega (arith, adjoin.0, start, lent_all.0.ordered);
      commitment_behind = omega (arith, commitment);
      key_within = omega (arith, value, later.0.ordered, later.2);
      commitment_within = omega (arith, last.within);
      region_behind = last.behind;
      are = ap (map span_of) n.are
          ∙ ap₂ (λ a b. record { from = a; to = b } ∷ others n) adjoin.0 letter_ends
          ∙ ap₂ (λ a b. first ∷ r.start_text.span ∷ r.end_text.span ∷ r.account.span ∷ r.resource.span ∷ r.key.span
          ∷ record { from = a; to = b } ∷ r.commitment.span ∷ map span_of (n.tags ∷ behind_tags (reading_region r))) value value_ends
          ∙ ap (λ ts. first ∷ r.start_text.span ∷ r.end_text.span ∷ r.account.span ∷ r.resource.span ∷ r.key.span
          ∷ record { from = r.key.span.to + 1; to = r.commitment.span.from - 1 } ∷ r.commitment.span ∷ ts) last.spans;
    }
  where
    first : Span
    first = record { from = line.from; to = r.start_text.span.from - 1 }

    others : NineFields source line r → List Span
    others n =
        r.start_text.span ∷ r.end_text.span ∷ r.account.span ∷ r.resource.span ∷ r.key.span ∷ span_of n.value
        ∷ r.commitment.span ∷ map span_of (n.tags ∷ behind_tags (reading_region r))

-- the first nine or ten of the spans that are put together
pub spans_taken : (version : Version) (region : Option Field) (a b c d e f g h nowhere last : Span) (from to tags_to : ℕ)
    → is_region_of version (option_map (λ x. x.text.now) region) ≡ true
    → MatchOption region ((tags_to ≡ to) × (last ≡ nowhere)) (λ x. (tags_to ≡ x.span.from - 1) × (last ≡ x.span))
    → take (reading_fields version) (a ∷ b ∷ c ∷ d ∷ e ∷ f ∷ g ∷ h ∷ record { from = from; to = tags_to } ∷ last ∷ [])
    ≡ a ∷ b ∷ c ∷ d ∷ e ∷ f ∷ g ∷ h ∷ record { from = from; to = tags_end to region } ∷ last_span region
spans_taken B1 None a b c d e f g h nowhere last from to tags_to fits are =
    ap (λ n. a ∷ b ∷ c ∷ d ∷ e ∷ f ∷ g ∷ h ∷ record { from = from; to = n } ∷ []) are.0
spans_taken B1 (Some x) a b c d e f g h nowhere last from to tags_to fits are = absurd (false≢true fits)
spans_taken B2 None a b c d e f g h nowhere last from to tags_to fits are = absurd (false≢true fits)
spans_taken B2 (Some x) a b c d e f g h nowhere last from to tags_to fits are =
    ap₂ (λ n s. a ∷ b ∷ c ∷ d ∷ e ∷ f ∷ g ∷ h ∷ record { from = from; to = n } ∷ s ∷ []) are.0 are.1
