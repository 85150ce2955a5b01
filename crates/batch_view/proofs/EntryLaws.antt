-- What the entries say of the records of a batch.
use Rattle.std.proofs.Common.{◌≡◌, ℕ, suc, ◌+◌, ◌≤◌, ◌==◌, ◌&&◌, ◌||◌, nat_lt, Bool, true, false, List, [], ◌∷◌, length, take, Option, Some, None, ℤ, int_lt, All, get_or, refl, sym, ap, ap₂, subst, ◌∙◌, arith, Ok, slice_range}
use Rattle.std.specs.List.{slice_get, list_all, filter_map, enumerate_from, cons_option}
use Rattle.std.specs.List.Sorted.{IsPermutation, IsSortedBy, IsNonDecreasingBy}
use Rattle.std.proofs.lemmas.Bool.{le-ltb, eqb-true}
use Rattle.std.proofs.lemmas.Option.{slice_get_past, slice_get_within}
use Rattle.std.specs.Option.{option_and_then, option_map}
use Rattle.metering_model.specs.Holding.{reading_of as model_reading}
use Rattle.metering_model.specs.Batch.{Record, Reads, Amends}
use Rattle.metering_model.specs.declared.Kind.{Kind}
use Rattle.metering_model.specs.declared.Version.{Version}
use Rattle.metering_model.specs.BatchReading.{record_in, fields_in}
use Rattle.record_view.specs.declared.fields.Span.{Span}
use Rattle.record_view.specs.declared.kept.Numbers.{Numbers}
use Rattle.record_view.specs.declared.records.Record as lent_record
use Rattle.record_view.specs.Parts.{LentText}
use Rattle.record_view.specs.Lent.{record_of, fields_at, lent_fields}
use Rattle.record_view.specs.Spans.{IsReadingAt, IsReadingOn, IsRecordAt}
use Rattle.record_view.proofs.SpanLaws.{four_fields_of}
use Rattle.metering_model.specs.Front.{starts_before}
use Rattle.batch_view.specs.Batches.{batch_of, IsLentAt}
use Rattle.batch_view.specs.Kept.{AreFieldSpans, amendment_of, amendments_in, comes_before, kind_in}
use Rattle.batch_view.specs.Inner.Entries.{field_total, FitsRecord, IsEntryAt, IsEntry}
use Rattle.batch_view.specs.Inner.Kept.{is_before, KeepsBatch, KeepsParts}
use Rattle.batch_view.specs.Inner.Given.{HasReading, LacksReading, kind_found}
use Rattle.batch_view.specs.Inner.Amended.{amendment_found, amendments_kept, found_before, entry_before, rank, IsSmall}
use Rattle.batch_view.specs.declared.entries.Found.{Found}
use Rattle.batch_view.specs.declared.entries.Found.TheVariants.{Reading, Amend}
use Rattle.batch_view.specs.declared.entries.Entry.{Entry}
use Rattle.batch_view.specs.declared.head.Head.{Head}
use Rattle.batch_view.specs.declared.owned.Amendment.{Amendment}
use Rattle.batch_view.proofs.BatchLemmas.{there}

-- ---- each entry fits the record at its index

-- the record that an entry is of, and the batch's record there
pub record IsOf (version : Version) (bytes : List ℕ) (index : ℕ) (e : Entry) : Type 0 where
  pub entry : IsEntry version bytes index e
  pub got : slice_get (batch_of bytes).records index ≡ Some entry.at.what

pub entry_of : (bytes : List ℕ) (h : Head) (es : List Entry) (index : ℕ) (e : Entry) → KeepsBatch bytes h es → slice_get es index ≡ Some e → IsOf h.version bytes index e
entry_of bytes h es index e kept is =
    let entry = kept.entries.each index e is in
    let within = slice_get_within es index e is in
    let stands = there bytes index kept.head.are (omega (arith, within, kept.entries.many)) in
    let good = stands.read in
    let same : stands.one ≡ entry.at.what = let format = kept.head.version in let read = entry.stands in cc in
    record { entry = entry; got = stands.got ∙ ap Some same }

pub fits_at : (bytes : List ℕ) (h : Head) (es : List Entry) (index : ℕ) (e : Entry) (r : Record) → KeepsBatch bytes h es → slice_get es index ≡ Some e
    → slice_get (batch_of bytes).records index ≡ Some r → FitsRecord e.found e.value r
fits_at bytes h es index e r kept is there_is =
    let of = entry_of bytes h es index e kept is in
    let same : of.entry.at.what ≡ r = let got = of.got in cc in
    subst (FitsRecord e.found e.value) same of.entry.at.fits

-- ---- all of them

abbrev pub AllFit : List Entry → List Record → Type 0
AllFit [] [] = Unit {0}
AllFit [] (r ∷ rs) = ⊥
AllFit (e ∷ es) [] = ⊥
AllFit (e ∷ es) (r ∷ rs) = FitsRecord e.found e.value r × AllFit es rs

all_fit_from : (es : List Entry) (rs : List Record) → length es ≡ length rs
    → ((k : ℕ) (e : Entry) (r : Record) → slice_get es k ≡ Some e → slice_get rs k ≡ Some r → FitsRecord e.found e.value r) → AllFit es rs
all_fit_from [] [] many each = tt
all_fit_from [] (r ∷ rs) many each = absurd (omega arith)
all_fit_from (e ∷ es) [] many each = absurd (omega arith)
all_fit_from (e ∷ es) (r ∷ rs) many each =
    (each 0 e r refl refl, all_fit_from es rs (omega arith) (λ k x y h g. each (suc k) x y h g))

pub all_fit : (bytes : List ℕ) (h : Head) (es : List Entry) → KeepsBatch bytes h es → AllFit es (batch_of bytes).records
all_fit bytes h es kept = all_fit_from es (batch_of bytes).records kept.entries.many (λ k e r is got. fits_at bytes h es k e r kept is got)

-- ---- latest starts

start_alike : (moment : ℤ) (f : Found) (v : ℤ) (r : Record) → FitsRecord f v r → found_before moment f ≡ starts_before moment r
start_alike moment (Reading kind start end) v (Reads r) fits = ap (λ s. int_lt s moment) fits.1
start_alike moment (Reading kind start end) v (Amends seq index value) fits = absurd fits
start_alike moment (Amend seq index) v (Reads r) fits = absurd fits
start_alike moment (Amend seq index) v (Amends s i value) fits = refl

pub starts_alike : (moment : ℤ) (es : List Entry) (rs : List Record) → AllFit es rs → list_all (entry_before moment) es ≡ list_all (starts_before moment) rs
starts_alike moment [] [] fits = refl
starts_alike moment [] (r ∷ rs) fits = absurd fits
starts_alike moment (e ∷ es) [] fits = absurd fits
starts_alike moment (e ∷ es) (r ∷ rs) fits = ap₂ (λ a b. a && b) (start_alike moment e.found e.value r fits.0) (starts_alike moment es rs fits.1)

-- ---- amendments

amendment_alike : (own : ℕ) (f : Found) (v : ℤ) (r : Record) → FitsRecord f v r → amendment_found own v f ≡ amendment_of own r
amendment_alike own (Reading kind start end) v (Reads r) fits = refl
amendment_alike own (Reading kind start end) v (Amends seq index value) fits = absurd fits
amendment_alike own (Amend seq index) v (Reads r) fits = absurd fits
amendment_alike own (Amend seq index) v (Amends s i value) fits = cc

amendments_alike_from : (n : ℕ) (es : List Entry) (rs : List Record) → AllFit es rs
    → filter_map (λ p. amendment_found p.0 p.1.value p.1.found) (enumerate_from n es) ≡ filter_map (λ e. amendment_of e.0 e.1) (enumerate_from n rs)
amendments_alike_from n [] [] fits = refl
amendments_alike_from n [] (r ∷ rs) fits = absurd fits
amendments_alike_from n (e ∷ es) [] fits = absurd fits
amendments_alike_from n (e ∷ es) (r ∷ rs) fits = ap₂ cons_option (amendment_alike n e.found e.value r fits.0) (amendments_alike_from (n + 1) es rs fits.1)

pub amendments_alike : (bytes : List ℕ) (h : Head) (es : List Entry) → KeepsBatch bytes h es → amendments_kept es ≡ amendments_in (batch_of bytes)
amendments_alike bytes h es kept = amendments_alike_from 0 es (batch_of bytes).records (all_fit bytes h es kept)

-- ---- the order of amendments

order_of_ranks : (a b : Amendment) → IsSmall a → IsSmall b → rank b ≤ rank a → comes_before a b ≡ false
order_of_ranks a b small_a small_b up =
    ap (λ t. t || rest) (le-ltb a.seq b.seq (omega (arith, small_a.0, small_a.1, small_b.0, small_b.1))) ∙ by_seq (a.seq == b.seq) refl
  where
    own : Bool
    own = (a.index == b.index) && nat_lt a.own b.own

    rest : Bool
    rest = (a.seq == b.seq) && (nat_lt a.index b.index || own)

    by_index : a.seq ≡ b.seq → (t : Bool) → (a.index == b.index) ≡ t → (t && nat_lt a.own b.own) ≡ false
    by_index same false e = refl
    by_index same true e =
        let index = eqb-true _ _ e in
        le-ltb a.own b.own (omega (arith, same, index))

    by_seq : (t : Bool) → (a.seq == b.seq) ≡ t → (t && (nat_lt a.index b.index || own)) ≡ false
    by_seq false e = refl
    by_seq true e =
        let same = eqb-true _ _ e in
        ap (λ t. t || own) (le-ltb a.index b.index (omega (arith, same, small_a.1, small_b.1))) ∙ by_index same (a.index == b.index) refl

pub sorted_by_rank : (xs : List Amendment) → All IsSmall xs → IsNonDecreasingBy rank xs → IsSortedBy comes_before xs
sorted_by_rank xs small rising = λ k d low within.
    order_of_ranks (get_or xs (k + 1) d) (get_or xs k d) (small (k + 1) d within) (small k d (omega arith)) (rising k (k + 1) d (omega arith) within)

-- ---- what the parts say

pub keeps_parts : (bytes : List ℕ) (h : Head) (es : List Entry) (sorted : List Amendment) (latest : Option ℤ) → KeepsBatch bytes h es
    → IsPermutation (amendments_kept es) sorted → All IsSmall sorted → IsNonDecreasingBy rank sorted
    → ((moment : ℤ) → list_all (entry_before moment) es ≡ is_before moment latest) → KeepsParts bytes h es sorted latest
keeps_parts bytes h es sorted latest kept all small rising starts = record {
  batch = kept;
  amendments = record {
    all = subst (λ xs. IsPermutation xs sorted) (amendments_alike bytes h es kept) all;
    in_order = sorted_by_rank sorted small rising;
  };
  small = small;
  rising = rising;
  starts = λ moment. sym (starts_alike moment es (batch_of bytes).records (all_fit bytes h es kept)) ∙ starts moment;
}

pub field_spans_of : (bytes : List ℕ) (h : Head) (es : List Entry) (index : ℕ) (e : Entry) → KeepsBatch bytes h es → slice_get es index ≡ Some e
    → AreFieldSpans bytes index (take (field_total h.version e.found) e.spans)
field_spans_of bytes h es index e kept is =
    let entry = kept.entries.each index e is in
    record { line = entry.line; is_line = entry.is_line; fields = entry.at.spans }

-- an entry of a reading is that of one, with its value
pub has_reading : (bytes : List ℕ) (h : Head) (es : List Entry) (seq index : ℕ) (e : Entry) (kind : Kind) (start end : ℤ) → KeepsBatch bytes h es
    → seq ≡ h.seq → slice_get es index ≡ Some e → e.found ≡ Reading kind start end → HasReading (batch_of bytes) seq index e.value
has_reading bytes h es seq index e kind start end kept own is found =
    let of = entry_of bytes h es index e kept is in
    by_record of.entry.at.what of.got (subst (λ f. FitsRecord f e.value of.entry.at.what) found of.entry.at.fits)
  where
    by_record : (r : Record) → slice_get (batch_of bytes).records index ≡ Some r → FitsRecord (Reading kind start end) e.value r → HasReading (batch_of bytes) seq index e.value
    by_record (Reads r) got fits = record { reading = r; own = own ∙ kept.head.seq; got = got; value_is = fits.3 }
    by_record (Amends s i v) got fits = absurd fits

pub lacks_reading : (bytes : List ℕ) (h : Head) (es : List Entry) (seq index : ℕ) (e : Entry) (s i : ℕ) → KeepsBatch bytes h es
    → slice_get es index ≡ Some e → e.found ≡ Amend s i → LacksReading (batch_of bytes) seq index
lacks_reading bytes h es seq index e s i kept is found = λ r own got.
    let fits = fits_at bytes h es index e (Reads r) kept is got in
    subst (λ f. FitsRecord f e.value (Reads r)) found fits

-- a batch has no reading of another sequence, and none past its entries
pub lacks_other : (bytes : List ℕ) (h : Head) (es : List Entry) (seq index : ℕ) → KeepsBatch bytes h es → (seq ≡ h.seq → ⊥) → LacksReading (batch_of bytes) seq index
lacks_other bytes h es seq index kept other = λ r own got. other (own ∙ sym kept.head.seq)

pub lacks_past : (bytes : List ℕ) (h : Head) (es : List Entry) (seq index : ℕ) → KeepsBatch bytes h es → length es ≤ index → LacksReading (batch_of bytes) seq index
lacks_past bytes h es seq index kept past = λ r own got.
    let none = slice_get_past (batch_of bytes).records index (omega (arith, kept.entries.many)) in
    absurd (cc)

-- ---- the record of an entry

reading_of : (version : Version) (bytes : List ℕ) (line : Span) (e : Entry) (n : Numbers) → IsEntryAt version bytes line e → e.found ≡ Reading n.kind n.start n.end → n.value ≡ e.value
    → IsReadingAt version bytes line n.kind n.start n.end n.value
reading_of version bytes line e n at found same = by_record at.what at.read (subst (λ f. FitsRecord f e.value at.what) found at.fits)
  where
    by_record : (r : Record) → record_in version (fields_in (slice_range bytes line.from line.to)) ≡ Ok r → FitsRecord (Reading n.kind n.start n.end) e.value r
        → IsReadingAt version bytes line n.kind n.start n.end n.value
    by_record (Reads r) read fits = record { reading = r; read = read; kind_is = fits.0; start_is = fits.1; end_is = fits.2; value_is = same ∙ fits.3 }
    by_record (Amends s i v) read fits = absurd fits

pub reading_on : (version : Version) (bytes : List ℕ) (line : Span) (e : Entry) (n : Numbers) → IsEntryAt version bytes line e → e.found ≡ Reading n.kind n.start n.end → n.value ≡ e.value
    → IsReadingOn version bytes e.spans n line
reading_on version bytes line e n at found same = record {
  ordered = at.ordered;
  within = at.within;
  are = ap (λ f. take (field_total version f) e.spans) (sym found) ∙ at.spans;
  numbers = reading_of version bytes line e n at found same;
}

lends_none : (ps : List LentText) → length ps ≡ 4 → lent_fields ps ≡ []
lends_none [] many = refl
lends_none (a ∷ []) many = refl
lends_none (a ∷ b ∷ []) many = refl
lends_none (a ∷ b ∷ c ∷ []) many = refl
lends_none (a ∷ b ∷ c ∷ d ∷ []) many = refl
lends_none (a ∷ b ∷ c ∷ d ∷ f ∷ ps) many = absurd (omega (arith, many))

pub amendment_on : (version : Version) (bytes : List ℕ) (line : Span) (e : Entry) (s i : ℕ) → IsEntryAt version bytes line e → e.found ≡ Amend s i
    → IsRecordAt version bytes line (lent_record.TheVariants.Amend s i e.value)
amendment_on version bytes line e s i at found = by_record at.what at.read (subst (λ f. FitsRecord f e.value at.what) found at.fits)
  where
    by_record : (r : Record) → record_in version (fields_in (slice_range bytes line.from line.to)) ≡ Ok r → FitsRecord (Amend s i) e.value r
        → IsRecordAt version bytes line (lent_record.TheVariants.Amend s i e.value)
    by_record (Reads r) read fits = absurd fits
    by_record (Amends seq index v) read fits =
        let same : Amends seq index v ≡ Amends s i e.value = let f0 = fits.0 in let f1 = fits.1 in let f2 = fits.2 in cc in
        record {
          read = read ∙ ap Ok same;
          lent = record { apart = tt; places = sym (lends_none (fields_at bytes line) (four_fields_of version bytes line seq index v read)) };
        }

-- What a record that was made of an entry is of the batch.
pub record IsKeptRecord (bytes : List ℕ) (index : ℕ) (r : lent_record.Record) : Type 0 where
  pub got : slice_get (batch_of bytes).records index ≡ Some (record_of r)
  pub lent : IsLentAt bytes index r

pub kept_record_is : (bytes : List ℕ) (h : Head) (es : List Entry) (index : ℕ) (e : Entry) (r : lent_record.Record) → KeepsBatch bytes h es → slice_get es index ≡ Some e
    → ((line : Span) → IsEntryAt h.version bytes line e → IsRecordAt h.version bytes line r) → IsKeptRecord bytes index r
kept_record_is bytes h es index e r kept is made =
    let of = entry_of bytes h es index e kept is in
    let entry = of.entry in
    let at = made entry.line entry.at in
    let same : entry.at.what ≡ record_of r = let one = entry.at.read in let two = at.read in cc in
    record { got = of.got ∙ ap Some same; lent = record { span = entry.line; is_line = entry.is_line; lent = at.lent } }

-- ---- the kind of the reading at an index

kind_alike : (f : Found) (v : ℤ) (r : Record) → FitsRecord f v r → kind_found f ≡ option_map (λ g. g.kind) (model_reading r)
kind_alike (Reading kind start end) v (Reads r) fits = ap Some fits.0
kind_alike (Reading kind start end) v (Amends seq index value) fits = absurd fits
kind_alike (Amend seq index) v (Reads r) fits = absurd fits
kind_alike (Amend seq index) v (Amends s i value) fits = refl

pub kind_there : (bytes : List ℕ) (h : Head) (es : List Entry) (index : ℕ) (e : Entry) → KeepsBatch bytes h es → slice_get es index ≡ Some e
    → kind_found e.found ≡ kind_in (batch_of bytes) index
kind_there bytes h es index e kept is =
    let of = entry_of bytes h es index e kept is in
    kind_alike e.found e.value of.entry.at.what of.entry.at.fits ∙ ap (λ r. option_map (λ g. g.kind) (option_and_then model_reading r)) (sym of.got)

pub no_kind_there : (bytes : List ℕ) (h : Head) (es : List Entry) (index : ℕ) → KeepsBatch bytes h es → length es ≤ index → None ≡ kind_in (batch_of bytes) index
no_kind_there bytes h es index kept past =
    ap (λ r. option_map (λ g. g.kind) (option_and_then model_reading r)) (sym (slice_get_past (batch_of bytes).records index (omega (arith, kept.entries.many))))
