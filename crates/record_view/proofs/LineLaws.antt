-- What a line gives, from what its fields give.
use Rattle.std.proofs.Common.{◌≡◌, ◌≢◌, ℕ, ◌≤◌, true, false, List, [], ◌∷◌, length, Result, Ok, Err, IfOk, IfErr, OnOk, slice_range, sym, ap, subst, ◌∙◌, codes}
use Rattle.std.proofs.lemmas.List.{length-map}
use Rattle.metering_model.specs.Batch as model
use Rattle.metering_model.specs.declared.Version.{Version}
use Rattle.metering_model.specs.declared.Version.TheVariants.{B1, B2}
use Rattle.metering_model.specs.declared.BatchCode.{BatchCode}
use Rattle.metering_model.specs.declared.BatchCode.TheVariants.{Fields}
use Rattle.metering_model.specs.BatchReading.{is_same, record_in, fields_in}
use Rattle.record_view.specs.declared.exact.ReadingFields.{ReadingFields}
use Rattle.record_view.specs.declared.exact.AmendmentFields.{AmendmentFields}
use Rattle.record_view.specs.declared.records.Record.{Record}
use Rattle.record_view.specs.declared.fields.Field.{Field}
use Rattle.record_view.specs.declared.fields.Span.{Span}
use Rattle.record_view.specs.Parts.{LentText, lent, IsLent, AreLentApart, parts_at}
use Rattle.record_view.specs.Inner.Placed.{texts_of}
use Rattle.record_view.specs.Inner.TagParts.{are_tags}
use Rattle.record_view.specs.Lent.{record_of, record_texts, IsLentRecord, fields_at, lent_fields}
use Rattle.record_view.specs.Inner.LineFields.{reading_parts, amendment_parts, field_texts, record_of_reading, record_of_amendment}
use Rattle.record_view.proofs.TagLaws.{texts_of_parts}
use Rattle.record_view.proofs.LentLaws.{parts_lent, lent_rest, fields_lent}
use Rattle.record_view.proofs.RecordLaws.{nine_fields, four_fields, amended, no_amendment, no_reading}

abbrev ModelRecord : Type 0
ModelRecord = Result model.Record BatchCode

-- the same record, read otherwise
pub ok_along : (r : Result Record BatchCode) (a b : ModelRecord) → a ≡ b → IfOk r (λ x. a ≡ Ok (record_of x)) → IfOk r (λ x. b ≡ Ok (record_of x))
ok_along r a b e h = subst (λ m. IfOk r (λ x. m ≡ Ok (record_of x))) e h

pub err_along : (r : Result Record BatchCode) (a b : ModelRecord) → a ≡ b → IfErr r (λ e. a ≡ Err e) → IfErr r (λ e. b ≡ Err e)
err_along r a b e h = subst (λ m. IfErr r (λ code. m ≡ Err code)) e h

-- the same in either format
pub all_ok : (r : Result Record BatchCode) (a : ModelRecord) (b : Version → ModelRecord) → ((version : Version) → a ≡ b version) → IfOk r (λ x. a ≡ Ok (record_of x))
    → IfOk r (λ x. (version : Version) → b version ≡ Ok (record_of x))
all_ok (Ok x) a b e h = λ version. sym (e version) ∙ h
all_ok (Err code) a b e h = tt

pub all_err : (r : Result Record BatchCode) (a : ModelRecord) (b : Version → ModelRecord) → ((version : Version) → a ≡ b version) → IfErr r (λ e. a ≡ Err e)
    → IfErr r (λ e. (version : Version) → b version ≡ Err e)
all_err (Ok x) a b e h = tt
all_err (Err code) a b e h = λ version. sym (e version) ∙ h

pub ok_of : (version : Version) (r : Result Record BatchCode) (b : Version → ModelRecord) → IfOk r (λ x. (version : Version) → b version ≡ Ok (record_of x)) → IfOk r (λ x. b version ≡ Ok (record_of x))
ok_of version (Ok x) b h = h version
ok_of version (Err code) b h = tt

pub err_of : (version : Version) (r : Result Record BatchCode) (b : Version → ModelRecord) → IfErr r (λ e. (version : Version) → b version ≡ Err e) → IfErr r (λ e. b version ≡ Err e)
err_of version (Ok x) b h = tt
err_of version (Err code) b h = h version

-- ---- behind the letter

pub amendment_line : (version : Version) (letter : List ℕ) (rest : LentText) (f : AmendmentFields) → is_same letter (codes "X") ≡ true → parts_at 124 rest ≡ amendment_parts f
    → record_of_amendment f ≡ record_in version (letter ∷ texts_of (parts_at 124 rest))
amendment_line version letter rest f h e =
    sym (four_fields letter f.seq.text.now f.index.text.now f.value.text.now h)
    ∙ (amended version letter (texts_of (amendment_parts f)) h ∙ ap (λ ps. record_in version (letter ∷ texts_of ps)) (sym e))

pub reading_line : (letter : List ℕ) (rest : LentText) (f : ReadingFields) → parts_at 124 rest ≡ reading_parts f
    → record_of_reading letter f ≡ record_in B1 (letter ∷ texts_of (parts_at 124 rest))
reading_line letter rest f e =
    sym (nine_fields letter f.start.text.now f.end.text.now f.account.text.now f.resource.text.now f.key.text.now f.value.text.now f.commitment.text.now f.tags.text.now)
    ∙ ap (λ ps. record_in B1 (letter ∷ texts_of ps)) (sym e)

pub no_amendment_line : (version : Version) (letter : List ℕ) (rest : LentText) → is_same letter (codes "X") ≡ true → length (parts_at 124 rest) ≢ 3
    → record_in version (letter ∷ texts_of (parts_at 124 rest)) ≡ Err Fields
no_amendment_line version letter rest h ne =
    sym (amended version letter (texts_of (parts_at 124 rest)) h)
    ∙ no_amendment letter (texts_of (parts_at 124 rest)) h (λ e. ne (sym (length-map (parts_at 124 rest) (λ t. t.text)) ∙ e))

pub no_reading_line : (letter : List ℕ) (rest : LentText) → is_same letter (codes "X") ≡ false → length (parts_at 124 rest) ≢ 8
    → record_in B1 (letter ∷ texts_of (parts_at 124 rest)) ≡ Err Fields
no_reading_line letter rest h ne = no_reading letter (texts_of (parts_at 124 rest)) h (λ e. ne (sym (length-map (parts_at 124 rest) (λ t. t.text)) ∙ e))

-- what the parts lend, the record lends
abbrev pub LendsOn : LentText → Record → Type 0
LendsOn rest r = (source : List ℕ) (from to : ℕ) → AreLentApart source from to (parts_at 124 rest) → AreLentApart source from to (record_texts r)

pub reading_lends : (rest : LentText) (f : ReadingFields) (r : Result Record BatchCode) → parts_at 124 rest ≡ reading_parts f
    → IfOk r (λ x. record_texts x ≡ field_texts f) → OnOk r (are_tags f.tags.text.now ≡ true) → IfOk r (LendsOn rest)
reading_lends rest f (Ok x) e texts tags = λ source from to h.
    subst (AreLentApart source from to) (sym texts) (fields_lent source from to f tags (subst (AreLentApart source from to) e h))
reading_lends rest f (Err code) e texts tags = tt

-- ---- the whole line

pub line_fields : (whole letter rest : LentText) → parts_at 124 whole ≡ letter ∷ parts_at 124 rest → letter.text ∷ texts_of (parts_at 124 rest) ≡ fields_in whole.text
line_fields whole letter rest e = sym (ap texts_of e) ∙ texts_of_parts 124 whole

pub one_field : (version : Version) (whole : LentText) → parts_at 124 whole ≡ whole ∷ [] → record_in version (fields_in whole.text) ≡ Err Fields
one_field B1 whole e = ap (record_in B1) (sym (texts_of_parts 124 whole) ∙ ap texts_of e)
one_field B2 whole e = ap (record_in B2) (sym (texts_of_parts 124 whole) ∙ ap texts_of e)

-- what stands behind the letter lies in the line
pub behind_letter : (source : List ℕ) (whole letter rest : LentText) → IsLent source whole → parts_at 124 whole ≡ letter ∷ parts_at 124 rest
    → AreLentApart source whole.from whole.to (parts_at 124 rest)
behind_letter source whole letter rest h e =
    lent_rest source whole.from whole.to letter (parts_at 124 rest) (subst (AreLentApart source whole.from whole.to) e (parts_lent source 124 whole h))

-- the field of a line is lent
pub line_lent : (source : List ℕ) (span : Span) (whole : Field) → span.from ≤ span.to → span.to ≤ length source
    → whole.text.now ≡ slice_range source span.from span.to → whole.span ≡ span → IsLent source (lent whole)
line_lent source span whole ordered within text place =
    subst (λ s. IsLent source (record { text = whole.text.now; from = s.from; to = s.to })) (sym place) (record { ordered = ordered; within = within; text = text })

-- each text of the record is lent, in order and apart
abbrev IsApart : List ℕ → Span → Record → Type 0
IsApart source span r = AreLentApart source span.from span.to (record_texts r)

-- what stands behind the letter of a line lends what the record lends
pub record_apart : (source : List ℕ) (span : Span) (whole : Field) (letter rest : LentText) (r : Result Record BatchCode) → whole.span ≡ span
    → IsLent source (lent whole) → parts_at 124 (lent whole) ≡ letter ∷ parts_at 124 rest → IfOk r (LendsOn rest) → IfOk r (IsApart source span)
record_apart source span whole letter rest (Ok x) place h e lends =
    subst (λ s. IsApart source s x) place (lends source whole.span.from whole.span.to (behind_letter source (lent whole) letter rest h e))
record_apart source span whole letter rest (Err code) place h e lends = tt

pub none_apart : (source : List ℕ) (span : Span) (r : Result Record BatchCode) → IfOk r (λ x. record_texts x ≡ []) → IfOk r (IsApart source span)
none_apart source span (Ok x) none = subst (AreLentApart source span.from span.to) (sym none) tt
none_apart source span (Err code) none = tt

-- ---- which parts it lends

-- whatever the letter is
abbrev pub LendsParts : LentText → Record → Type 0
LendsParts rest r = (letter : LentText) → record_texts r ≡ lent_fields (letter ∷ parts_at 124 rest)

pub reading_parts_lent : (rest : LentText) (f : ReadingFields) (r : Result Record BatchCode) → parts_at 124 rest ≡ reading_parts f
    → IfOk r (λ x. record_texts x ≡ field_texts f) → IfOk r (LendsParts rest)
reading_parts_lent rest f (Ok x) e h = λ letter. h ∙ ap (λ ps. lent_fields (letter ∷ ps)) (sym e)
reading_parts_lent rest f (Err code) e h = tt

pub amendment_parts_lent : (rest : LentText) (f : AmendmentFields) (r : Result Record BatchCode) → parts_at 124 rest ≡ amendment_parts f
    → IfOk r (λ x. record_texts x ≡ []) → IfOk r (LendsParts rest)
amendment_parts_lent rest f (Ok x) e h = λ letter. h ∙ ap (λ ps. lent_fields (letter ∷ ps)) (sym e)
amendment_parts_lent rest f (Err code) e h = tt

-- the line's fields are its letter and those behind it
pub record_placed : (source : List ℕ) (span : Span) (whole : Field) (letter rest : LentText) (r : Result Record BatchCode)
    → whole.text.now ≡ slice_range source span.from span.to → whole.span ≡ span → parts_at 124 (lent whole) ≡ letter ∷ parts_at 124 rest
    → IfOk r (LendsParts rest) → IfOk r (λ x. record_texts x ≡ lent_fields (fields_at source span))
record_placed source span whole letter rest (Ok x) text place e h =
    h letter ∙ ap lent_fields (sym e)
    ∙ ap (λ t. lent_fields (parts_at 124 (record { text = t; from = whole.span.from; to = whole.span.to }))) text
    ∙ ap (λ s. lent_fields (parts_at 124 (record { text = slice_range source span.from span.to; from = s.from; to = s.to }))) place
record_placed source span whole letter rest (Err code) text place e h = tt

pub record_lent : (source : List ℕ) (span : Span) (r : Result Record BatchCode) → IfOk r (IsApart source span)
    → IfOk r (λ x. record_texts x ≡ lent_fields (fields_at source span)) → IfOk r (IsLentRecord source span)
record_lent source span (Ok x) apart places = record { apart = apart; places = places }
record_lent source span (Err code) apart places = tt
