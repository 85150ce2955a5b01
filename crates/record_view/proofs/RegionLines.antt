-- A line of format B2 gives what stands before its last bar gives, with the region behind it.
use Rattle.std.proofs.Common.{◌≡◌, ℕ, ◌+◌, false, List, [], ◌∷◌, ◌++◌, length, Option, Some, None, Result, Ok, Err, IfOk, MatchResult, refl, sym, ap, subst, ◌∙◌, codes, arith}
use Rattle.std.specs.Option.{option_map}
use Rattle.std.specs.List.{flat_map}
use Rattle.std.proofs.lemmas.List.{append-nil, map-append}
use Rattle.metering_model.specs.FirstFailure.{◌>>=◌}
use Rattle.metering_model.specs.Batch as model
use Rattle.metering_model.specs.declared.Version.TheVariants.{B1, B2}
use Rattle.metering_model.specs.declared.BatchCode.{BatchCode}
use Rattle.metering_model.specs.BatchReading.{is_same, record_in}
use Rattle.metering_model.proofs.ReadingLaws.{taken_apart}
use Rattle.metering_model.proofs.RegionLaws as region_laws
use Rattle.record_view.specs.declared.fields.Field.{Field}
use Rattle.record_view.specs.declared.records.Record.{Record}
use Rattle.record_view.specs.declared.records.Record as lent_record
use Rattle.record_view.specs.Parts.{LentText, lent, AreLentApart, parts_at}
use Rattle.record_view.specs.TagTexts.{LentTag, tags_at}
use Rattle.record_view.specs.Inner.Placed.{texts_of}
use Rattle.record_view.specs.Inner.RecordSteps.{text_step}
use Rattle.record_view.specs.Inner.LineFields.{in_region, first_fault}
use Rattle.record_view.specs.Lent.{record_of, record_texts, reading_region, lent_fields, lent_texts, tag_texts}
use Rattle.record_view.proofs.RecordLaws.{four_others}
use Rattle.record_view.proofs.LentLaws.{with_last, without_last}
use Rattle.record_view.proofs.LineLaws.{LendsOn, LendsParts}

-- what putting the region behind a record answers
abbrev pub InRegion : Field → Record → Result Record BatchCode → Type 0
InRegion region what r =
    MatchResult r (λ x. (text_step region.text.now ≡ Ok tt) × (x ≡ in_region region what)) (λ e. text_step region.text.now ≡ Err e)

-- ---- the record

pub region_line : (letter : List ℕ) (front rest : LentText) (region : Field) → is_same letter (codes "X") ≡ false → parts_at 124 rest ≡ parts_at 124 front ++ lent region ∷ []
    → record_in B2 (letter ∷ texts_of (parts_at 124 rest)) ≡ (record_in B1 (letter ∷ texts_of (parts_at 124 front)) >>= region_laws.region_behind region.text.now)
region_line letter front rest region other parts =
    ap (λ ps. record_in B2 (letter ∷ texts_of ps)) parts
    ∙ (ap (λ ts. record_in B2 (letter ∷ ts)) (map-append (λ t. t.text) (parts_at 124 front) (lent region ∷ []))
    ∙ region_laws.read_in_region letter (texts_of (parts_at 124 front)) region.text.now other)

same_record : (region : Field) (what : Record) → region_laws.in_region region.text.now (record_of what) ≡ record_of (in_region region what)
same_record region (lent_record.TheVariants.Reading r) = refl
same_record region (lent_record.TheVariants.Amend s i v) = refl

behind_ok : (region : Field) (what x : Record) → text_step region.text.now ≡ Ok tt → x ≡ in_region region what
    → region_laws.region_behind region.text.now (record_of what) ≡ Ok (record_of x)
unfolding text_step
behind_ok region what x met is =
    ap (λ s. s >>= (λ _. Ok (region_laws.in_region region.text.now (record_of what)))) met
    ∙ ap Ok (same_record region what ∙ ap record_of (sym is))

pub region_ok : (letter : List ℕ) (front rest : LentText) (region : Field) (what : Record) (r : Result Record BatchCode) → is_same letter (codes "X") ≡ false
    → parts_at 124 rest ≡ parts_at 124 front ++ lent region ∷ [] → record_in B1 (letter ∷ texts_of (parts_at 124 front)) ≡ Ok (record_of what) → InRegion region what r
    → IfOk r (λ x. record_in B2 (letter ∷ texts_of (parts_at 124 rest)) ≡ Ok (record_of x))
region_ok letter front rest region what (Ok x) other parts read put =
    region_line letter front rest region other parts
    ∙ (ap (λ m. m >>= region_laws.region_behind region.text.now) read ∙ behind_ok region what x put.0 put.1)
region_ok letter front rest region what (Err e) other parts read put = tt

-- a fault before the region
pub front_err : (letter : List ℕ) (front rest : LentText) (region : Field) (e : BatchCode) → is_same letter (codes "X") ≡ false
    → parts_at 124 rest ≡ parts_at 124 front ++ lent region ∷ [] → record_in B1 (letter ∷ texts_of (parts_at 124 front)) ≡ Err e
    → record_in B2 (letter ∷ texts_of (parts_at 124 rest)) ≡ Err e
front_err letter front rest region e other parts broken =
    region_line letter front rest region other parts ∙ ap (λ m. m >>= region_laws.region_behind region.text.now) broken

-- a region that breaks its rule
pub broken_region : (letter : List ℕ) (front rest : LentText) (region : Field) (e : BatchCode) → is_same letter (codes "X") ≡ false
    → parts_at 124 rest ≡ parts_at 124 front ++ lent region ∷ [] → text_step region.text.now ≡ Err e
    → record_in B2 (letter ∷ texts_of (parts_at 124 rest)) ≡ Err (first_fault (record_in B1 (letter ∷ texts_of (parts_at 124 front))) e)
unfolding text_step
broken_region letter front rest region e other parts broken =
    region_line letter front rest region other parts ∙ whichever (record_in B1 (letter ∷ texts_of (parts_at 124 front)))
  where
    whichever : (m : Result model.Record BatchCode) → (m >>= region_laws.region_behind region.text.now) ≡ Err (first_fault m e)
    whichever (Ok x) = ap (λ s. s >>= (λ _. Ok (region_laws.in_region region.text.now x))) broken
    whichever (Err c) = refl

-- ---- what it lends

-- a reading that has no region
abbrev HasNone : Record → Type 0
HasNone (lent_record.TheVariants.Reading r) = reading_region r ≡ None
HasNone (lent_record.TheVariants.Amend s i v) = ⊥

none_mapped : (o : Option Field) → None ≡ option_map (λ f. f.text.now) o → o ≡ None
none_mapped None e = refl
none_mapped (Some f) e = absurd (cc)

has_none : (m : model.Reading) (what : Record) → model.Reads m ≡ record_of what → None ≡ m.region → HasNone what
has_none m (lent_record.TheVariants.Reading r) same none =
    let alike : m.region ≡ option_map (λ f. f.text.now) (reading_region r) = ap region_of same in
    none_mapped (reading_region r) (none ∙ alike)
  where
    region_of : model.Record → Option (List ℕ)
    region_of (model.Reads x) = x.region
    region_of (model.Amends s i v) = None
has_none m (lent_record.TheVariants.Amend s i v) same none = absurd (cc)

-- a line that is read as one of format B1, and is no amendment's, has eight fields behind its letter
eight_fields : (letter : List ℕ) (ps : List LentText) (what : Record) → is_same letter (codes "X") ≡ false → record_in B1 (letter ∷ texts_of ps) ≡ Ok (record_of what)
    → (length ps ≡ 8) × HasNone what
eight_fields letter [] what other read = absurd (cc)
eight_fields letter (a ∷ []) what other read = absurd (cc)
eight_fields letter (a ∷ b ∷ []) what other read = absurd (cc)
eight_fields letter (a ∷ b ∷ c ∷ []) what other read = let none = four_others letter a.text b.text c.text other in absurd (cc)
eight_fields letter (a ∷ b ∷ c ∷ d ∷ []) what other read = absurd (cc)
eight_fields letter (a ∷ b ∷ c ∷ d ∷ f ∷ []) what other read = absurd (cc)
eight_fields letter (a ∷ b ∷ c ∷ d ∷ f ∷ g ∷ []) what other read = absurd (cc)
eight_fields letter (a ∷ b ∷ c ∷ d ∷ f ∷ g ∷ h ∷ []) what other read = absurd (cc)
eight_fields letter (a ∷ b ∷ c ∷ d ∷ f ∷ g ∷ h ∷ i ∷ []) what other read =
    let apart = taken_apart letter a.text b.text c.text d.text f.text g.text h.text i.text None (record_of what) read in
    (refl, has_none apart.0 what apart.1 apart.3)
eight_fields letter (a ∷ b ∷ c ∷ d ∷ f ∷ g ∷ h ∷ i ∷ j ∷ []) what other read = absurd (cc)
eight_fields letter (a ∷ b ∷ c ∷ d ∷ f ∷ g ∷ h ∷ i ∷ j ∷ k ∷ ps) what other read = absurd (cc)

-- the region behind the texts of the others
texts_behind : (start end account resource key commitment : LentText) (tags : List LentTag) (q : LentText)
    → lent_texts start end account resource key commitment tags None ++ q ∷ [] ≡ lent_texts start end account resource key commitment tags (Some q)
texts_behind start end account resource key commitment tags q =
    ap (λ ts. start ∷ end ∷ account ∷ resource ∷ key ∷ commitment ∷ ts ++ q ∷ []) (append-nil (flat_map tag_texts tags))

fields_behind : (letter : LentText) (ps : List LentText) (q : LentText) → length ps ≡ 8 → lent_fields (letter ∷ ps) ++ q ∷ [] ≡ lent_fields (letter ∷ ps ++ q ∷ [])
fields_behind letter [] q many = absurd (omega (arith, many))
fields_behind letter (a ∷ []) q many = absurd (omega (arith, many))
fields_behind letter (a ∷ b ∷ []) q many = absurd (omega (arith, many))
fields_behind letter (a ∷ b ∷ c ∷ []) q many = absurd (omega (arith, many))
fields_behind letter (a ∷ b ∷ c ∷ d ∷ []) q many = absurd (omega (arith, many))
fields_behind letter (a ∷ b ∷ c ∷ d ∷ f ∷ []) q many = absurd (omega (arith, many))
fields_behind letter (a ∷ b ∷ c ∷ d ∷ f ∷ g ∷ []) q many = absurd (omega (arith, many))
fields_behind letter (a ∷ b ∷ c ∷ d ∷ f ∷ g ∷ h ∷ []) q many = absurd (omega (arith, many))
fields_behind letter (a ∷ b ∷ c ∷ d ∷ f ∷ g ∷ h ∷ i ∷ []) q many = texts_behind a b c d f h _ q
fields_behind letter (a ∷ b ∷ c ∷ d ∷ f ∷ g ∷ h ∷ i ∷ j ∷ ps) q many = absurd (omega (arith, many))

record_behind : (region : Field) (what x : Record) → HasNone what → x ≡ in_region region what → record_texts what ++ lent region ∷ [] ≡ record_texts x
record_behind region (lent_record.TheVariants.Reading r) x none is =
    ap (λ o. lent_texts (lent r.start_text) (lent r.end_text) (lent r.account) (lent r.resource) (lent r.key) (lent r.commitment) (tags_at (lent r.tags.rest)) (option_map lent o) ++ lent region ∷ []) none
    ∙ (texts_behind (lent r.start_text) (lent r.end_text) (lent r.account) (lent r.resource) (lent r.key) (lent r.commitment) (tags_at (lent r.tags.rest)) (lent region)
    ∙ ap record_texts (sym is))
record_behind region (lent_record.TheVariants.Amend s i v) x none is = absurd none

pub region_places : (letter : List ℕ) (front rest : LentText) (region : Field) (what : Record) (r : Result Record BatchCode) → is_same letter (codes "X") ≡ false
    → parts_at 124 rest ≡ parts_at 124 front ++ lent region ∷ [] → record_in B1 (letter ∷ texts_of (parts_at 124 front)) ≡ Ok (record_of what) → LendsParts front what
    → InRegion region what r → IfOk r (LendsParts rest)
region_places letter front rest region what (Ok x) other parts read places put = λ first.
    let eight = eight_fields letter (parts_at 124 front) what other read in
    sym (record_behind region what x eight.1 put.1)
    ∙ (ap (λ ts. ts ++ lent region ∷ []) (places first)
    ∙ (fields_behind first (parts_at 124 front) (lent region) eight.0
    ∙ ap (λ ps. lent_fields (first ∷ ps)) (sym parts)))
region_places letter front rest region what (Err e) other parts read places put = tt

pub region_lends : (letter : List ℕ) (front rest : LentText) (region : Field) (what : Record) (r : Result Record BatchCode) → is_same letter (codes "X") ≡ false
    → parts_at 124 rest ≡ parts_at 124 front ++ lent region ∷ [] → region.span.from ≡ front.to + 1 → record_in B1 (letter ∷ texts_of (parts_at 124 front)) ≡ Ok (record_of what)
    → LendsOn front what → InRegion region what r → IfOk r (LendsOn rest)
region_lends letter front rest region what (Ok x) other parts adjoin read lends put = λ source from to h.
    let eight = eight_fields letter (parts_at 124 front) what other read in
    let split = without_last source from front.to to (parts_at 124 front) (lent region) (sym adjoin) (subst (AreLentApart source from to) parts h) in
    subst (AreLentApart source from to) (record_behind region what x eight.1 put.1)
    (with_last source from front.to to (record_texts what) (lent region) split.low (omega (arith, adjoin)) (lends source from front.to split.others) split.last split.ends)
region_lends letter front rest region what (Err e) other parts adjoin read lends put = tt
