-- What is kept of an entry in few bytes is an entry of the same record.
use Rattle.std.proofs.Common.{◌≡◌, ℕ, suc, zero, ◌+◌, ◌<◌, ◌≤◌, List, [], ◌∷◌, ◌++◌, length, take, map, slice_index_or, refl, sym, ap, ap₂, subst, ◌∙◌, arith, ℤ, true, Ok, Option, Some, None, slice_range}
use Rattle.std.proofs.lemmas.Bool.{false≢true}
use Rattle.metering_model.specs.BatchReading.{record_in, fields_in}
use Rattle.std.proofs.lemmas.List.{length-map}
use Rattle.std.specs.Option.{option_to_list}
use Rattle.metering_model.specs.Limits.{most_batch_bytes}
use Rattle.metering_model.specs.Batch.{Record, Reads, Amends, Reading as ModelReading, is_region_of}
use Rattle.metering_model.specs.declared.Kind.{Kind}
use Rattle.metering_model.specs.declared.Version.{Version}
use Rattle.metering_model.specs.declared.Version.TheVariants.{B1, B2}
use Rattle.record_view.specs.declared.fields.Span.{Span}
use Rattle.record_view.specs.Parts.{LentText, AreLentApart}
use Rattle.record_view.specs.Lent.{fields_at}
use Rattle.record_view.specs.Spans.{span_of, spans_at, reading_fields}
use Rattle.record_view.proofs.SpanLaws.{Adjoin, fields_adjoin, fields_lie_apart, fields_read, region_fits, four_fields_of}
use Rattle.batch_view.specs.Inner.Entries.{field_total, FitsRecord, IsEntryAt}
use Rattle.batch_view.specs.Inner.Packed.{spans_from, ends_of, unpacked, IsShort}
use Rattle.batch_view.specs.declared.entries.Found.TheVariants.{Reading, Amend}
use Rattle.batch_view.specs.declared.entries.Entry.{Entry}
use Rattle.batch_view.specs.declared.packed.Packed as declared

-- ---- the spans of an array one by one

abbrev pub nth : List Span → ℕ → Span
nth xs k = slice_index_or xs k (record { from = 0; to = 0 })

abbrev nths : ℕ → ℕ → List Span → List Span
nths zero k xs = []
nths (suc n) k xs = nth xs k ∷ nths n (suc k) xs

nths_behind : (n k : ℕ) (x : Span) (xs : List Span) → nths n (suc k) (x ∷ xs) ≡ nths n k xs
nths_behind zero k x xs = refl
nths_behind (suc n) k x xs = ap (λ t. nth xs k ∷ t) (nths_behind n (suc k) x xs)

take_nths : (n : ℕ) (xs : List Span) → length (take n xs) ≡ n → take n xs ≡ nths n 0 xs
take_nths zero xs many = refl
take_nths (suc n) [] many = absurd (omega arith)
take_nths (suc n) (x ∷ xs) many = ap (λ t. x ∷ t) (take_nths n xs (omega arith) ∙ sym (nths_behind n 0 x xs))

-- ---- fields that adjoin

adjoin_spans : (from to : ℕ) (ts : List LentText) → Adjoin from to ts → map span_of ts ≡ spans_from from (map (λ s. s.to) (map span_of ts))
adjoin_spans from to [] a = refl
adjoin_spans from to (t ∷ []) a = ap (λ f. record { from = f; to = t.to } ∷ []) a.0
adjoin_spans from to (t ∷ u ∷ ts) a = ap₂ (λ f rest. record { from = f; to = t.to } ∷ rest) a.0 (adjoin_spans (t.to + 1) to (u ∷ ts) a.1)

abbrev AreBelow : ℕ → List Span → Type 0
AreBelow most [] = Unit {0}
AreBelow most (s ∷ ss) = (s.from ≤ most) × (s.to ≤ most) × AreBelow most ss

apart_below : (source : List ℕ) (from to : ℕ) (ts : List LentText) → AreLentApart source from to ts → AreBelow to (map span_of ts)
apart_below source from to [] apart = tt
apart_below source from to (t ∷ ts) apart = (omega (arith, apart.0.ordered, apart.2), apart.2, apart_below source (t.to + 1) to ts apart.3)

-- ---- what is kept of so many spans

-- The line's spans, that they end before the line does, and how many there are.
record LineSpans (bytes : List ℕ) (line : Span) (n : ℕ) : Type 0 where
  adjoin : spans_at bytes line ≡ spans_from line.from (map (λ s. s.to) (spans_at bytes line))
  below : AreBelow line.to (spans_at bytes line)
  many : length (spans_at bytes line) ≡ n

line_spans : (bytes : List ℕ) (line : Span) (n : ℕ) → line.from ≤ line.to → line.to ≤ length bytes → length (fields_at bytes line) ≡ n → LineSpans bytes line n
line_spans bytes line n ordered within many = record {
  adjoin = adjoin_spans line.from line.to (fields_at bytes line) (fields_adjoin bytes line ordered within);
  below = apart_below bytes line.from line.to (fields_at bytes line) (fields_lie_apart bytes line ordered within);
  many = length-map (fields_at bytes line) span_of ∙ many;
}

-- of an array of spans, the first of which are a line's
first_spans : (bytes : List ℕ) (line : Span) (n : ℕ) (xs : List Span) → LineSpans bytes line n → take n xs ≡ spans_at bytes line → nths n 0 xs ≡ spans_at bytes line
first_spans bytes line n xs spans are = sym (take_nths n xs (ap length are ∙ spans.many)) ∙ are

first_from : {s t : Span} {ss ts : List Span} → s ∷ ss ≡ t ∷ ts → s.from ≡ t.from
first_from e = ap (λ xs. (nth xs 0).from) e

four_packed : (bytes : List ℕ) (line : Span) (xs : List Span) (from a b c d : ℕ) → line.to < most_batch_bytes → LineSpans bytes line 4 → take 4 xs ≡ spans_at bytes line
    → IsShort (nth xs 0).from from → IsShort (nth xs 0).to a → IsShort (nth xs 1).to b → IsShort (nth xs 2).to c → IsShort (nth xs 3).to d
    → spans_from from (a ∷ b ∷ c ∷ d ∷ []) ≡ spans_at bytes line
four_packed bytes line xs from a b c d short spans are is_from is_a is_b is_c is_d =
    let each = first_spans bytes line 4 xs spans are in
    let below = subst (AreBelow line.to) (sym each) spans.below in
    let adjoin = subst (λ ss. ss ≡ spans_from line.from (map (λ s. s.to) ss)) (sym each) spans.adjoin in
    let at_from = is_from (omega (arith, below.0, short)) in
    let at_a = is_a (omega (arith, below.1, short)) in
    let at_b = is_b (omega (arith, below.2.1, short)) in
    let at_c = is_c (omega (arith, below.2.2.1, short)) in
    let at_d = is_d (omega (arith, below.2.2.2.1, short)) in
    let ends : a ∷ b ∷ c ∷ d ∷ [] ≡ (nth xs 0).to ∷ (nth xs 1).to ∷ (nth xs 2).to ∷ (nth xs 3).to ∷ [] = cc in
    ap₂ spans_from (at_from ∙ first_from adjoin) ends ∙ sym adjoin ∙ each

nine_packed : (bytes : List ℕ) (line : Span) (xs : List Span) (from a b c d e f g h i : ℕ) → line.to < most_batch_bytes → LineSpans bytes line 9 → take 9 xs ≡ spans_at bytes line
    → IsShort (nth xs 0).from from → IsShort (nth xs 0).to a → IsShort (nth xs 1).to b → IsShort (nth xs 2).to c → IsShort (nth xs 3).to d → IsShort (nth xs 4).to e → IsShort (nth xs 5).to f → IsShort (nth xs 6).to g → IsShort (nth xs 7).to h → IsShort (nth xs 8).to i
    → spans_from from (a ∷ b ∷ c ∷ d ∷ e ∷ f ∷ g ∷ h ∷ i ∷ []) ≡ spans_at bytes line
nine_packed bytes line xs from a b c d e f g h i short spans are is_from is_a is_b is_c is_d is_e is_f is_g is_h is_i =
    let each = first_spans bytes line 9 xs spans are in
    let below = subst (AreBelow line.to) (sym each) spans.below in
    let adjoin = subst (λ ss. ss ≡ spans_from line.from (map (λ s. s.to) ss)) (sym each) spans.adjoin in
    let at_from = is_from (omega (arith, below.0, short)) in
    let at_a = is_a (omega (arith, below.1, short)) in
    let at_b = is_b (omega (arith, below.2.1, short)) in
    let at_c = is_c (omega (arith, below.2.2.1, short)) in
    let at_d = is_d (omega (arith, below.2.2.2.1, short)) in
    let at_e = is_e (omega (arith, below.2.2.2.2.1, short)) in
    let at_f = is_f (omega (arith, below.2.2.2.2.2.1, short)) in
    let at_g = is_g (omega (arith, below.2.2.2.2.2.2.1, short)) in
    let at_h = is_h (omega (arith, below.2.2.2.2.2.2.2.1, short)) in
    let at_i = is_i (omega (arith, below.2.2.2.2.2.2.2.2.1, short)) in
    let ends : a ∷ b ∷ c ∷ d ∷ e ∷ f ∷ g ∷ h ∷ i ∷ [] ≡ (nth xs 0).to ∷ (nth xs 1).to ∷ (nth xs 2).to ∷ (nth xs 3).to ∷ (nth xs 4).to ∷ (nth xs 5).to ∷ (nth xs 6).to ∷ (nth xs 7).to ∷ (nth xs 8).to ∷ [] = cc in
    ap₂ spans_from (at_from ∙ first_from adjoin) ends ∙ sym adjoin ∙ each

ten_packed : (bytes : List ℕ) (line : Span) (xs : List Span) (from a b c d e f g h i j : ℕ) → line.to < most_batch_bytes → LineSpans bytes line 10 → take 10 xs ≡ spans_at bytes line
    → IsShort (nth xs 0).from from → IsShort (nth xs 0).to a → IsShort (nth xs 1).to b → IsShort (nth xs 2).to c → IsShort (nth xs 3).to d → IsShort (nth xs 4).to e → IsShort (nth xs 5).to f → IsShort (nth xs 6).to g → IsShort (nth xs 7).to h → IsShort (nth xs 8).to i → IsShort (nth xs 9).to j
    → spans_from from (a ∷ b ∷ c ∷ d ∷ e ∷ f ∷ g ∷ h ∷ i ∷ j ∷ []) ≡ spans_at bytes line
ten_packed bytes line xs from a b c d e f g h i j short spans are is_from is_a is_b is_c is_d is_e is_f is_g is_h is_i is_j =
    let each = first_spans bytes line 10 xs spans are in
    let below = subst (AreBelow line.to) (sym each) spans.below in
    let adjoin = subst (λ ss. ss ≡ spans_from line.from (map (λ s. s.to) ss)) (sym each) spans.adjoin in
    let at_from = is_from (omega (arith, below.0, short)) in
    let at_a = is_a (omega (arith, below.1, short)) in
    let at_b = is_b (omega (arith, below.2.1, short)) in
    let at_c = is_c (omega (arith, below.2.2.1, short)) in
    let at_d = is_d (omega (arith, below.2.2.2.1, short)) in
    let at_e = is_e (omega (arith, below.2.2.2.2.1, short)) in
    let at_f = is_f (omega (arith, below.2.2.2.2.2.1, short)) in
    let at_g = is_g (omega (arith, below.2.2.2.2.2.2.1, short)) in
    let at_h = is_h (omega (arith, below.2.2.2.2.2.2.2.1, short)) in
    let at_i = is_i (omega (arith, below.2.2.2.2.2.2.2.2.1, short)) in
    let at_j = is_j (omega (arith, below.2.2.2.2.2.2.2.2.2.1, short)) in
    let ends : a ∷ b ∷ c ∷ d ∷ e ∷ f ∷ g ∷ h ∷ i ∷ j ∷ [] ≡ (nth xs 0).to ∷ (nth xs 1).to ∷ (nth xs 2).to ∷ (nth xs 3).to ∷ (nth xs 4).to ∷ (nth xs 5).to ∷ (nth xs 6).to ∷ (nth xs 7).to ∷ (nth xs 8).to ∷ (nth xs 9).to ∷ [] = cc in
    ap₂ spans_from (at_from ∙ first_from adjoin) ends ∙ sym adjoin ∙ each

-- ---- entries

field_many : (version : Version) (bytes : List ℕ) (line : Span) (r : ModelReading) (e : Entry) (at : IsEntryAt version bytes line e) → at.what ≡ Reads r → length (fields_at bytes line) ≡ reading_fields version
field_many version bytes line r e at is =
    fields_read version bytes line (Reads r) read ∙ by_region version r.region (region_fits version bytes line r read)
  where
    read : record_in version (fields_in (slice_range bytes line.from line.to)) ≡ Ok (Reads r)
    read = at.read ∙ ap Ok is

    by_region : (v : Version) (region : Option (List ℕ)) → is_region_of v region ≡ true
        → suc (suc (suc (suc (suc (suc (suc (suc (suc (length (option_to_list region)))))))))) ≡ reading_fields v
    by_region B1 None fits = refl
    by_region B1 (Some x) fits = absurd (false≢true fits)
    by_region B2 None fits = absurd (false≢true fits)
    by_region B2 (Some x) fits = refl

-- What is kept of the spans of a reading's line.
reading_packed : (version : Version) (bytes : List ℕ) (line : Span) (xs : List Span) (from a b c d e f g h i j : ℕ) → line.to < most_batch_bytes
    → LineSpans bytes line (reading_fields version) → take (reading_fields version) xs ≡ spans_at bytes line
    → IsShort (nth xs 0).from from → IsShort (nth xs 0).to a → IsShort (nth xs 1).to b → IsShort (nth xs 2).to c → IsShort (nth xs 3).to d
    → IsShort (nth xs 4).to e → IsShort (nth xs 5).to f → IsShort (nth xs 6).to g → IsShort (nth xs 7).to h → IsShort (nth xs 8).to i → IsShort (nth xs 9).to j
    → take (reading_fields version) (spans_from from (ends_of a b c d e f g h ++ i ∷ j ∷ [])) ≡ spans_at bytes line
reading_packed B1 bytes line xs from a b c d e f g h i j short spans are at a' b' c' d' e' f' g' h' i' j' =
    nine_packed bytes line xs from a b c d e f g h i short spans are at a' b' c' d' e' f' g' h' i'
reading_packed B2 bytes line xs from a b c d e f g h i j short spans are at a' b' c' d' e' f' g' h' i' j' =
    ten_packed bytes line xs from a b c d e f g h i j short spans are at a' b' c' d' e' f' g' h' i' j'

pub packs_reading : (version : Version) (bytes : List ℕ) (line : Span) (en : Entry) (kind : Kind) (start end : ℤ) (from a b c d e f g h i j : ℕ)
    → line.to < most_batch_bytes → IsEntryAt version bytes line en → en.found ≡ Reading kind start end
    → IsShort (nth en.spans 0).from from → IsShort (nth en.spans 0).to a → IsShort (nth en.spans 1).to b → IsShort (nth en.spans 2).to c
    → IsShort (nth en.spans 3).to d → IsShort (nth en.spans 4).to e → IsShort (nth en.spans 5).to f → IsShort (nth en.spans 6).to g
    → IsShort (nth en.spans 7).to h → IsShort (nth en.spans 8).to i → IsShort (nth en.spans 9).to j
    → IsEntryAt version bytes line (unpacked (ends_of a b c d e f g h) en.value (declared.TheVariants.Reading kind from i j start end))
packs_reading version bytes line en kind start end from a b c d e f g h i j short at is s0 s1 s2 s3 s4 s5 s6 s7 s8 s9 s10 = of_what at.what refl
  where
    fits : FitsRecord (Reading kind start end) en.value at.what
    fits = subst (λ found. FitsRecord found en.value at.what) is at.fits

    of_what : (r : Record) → at.what ≡ r
        → IsEntryAt version bytes line (unpacked (ends_of a b c d e f g h) en.value (declared.TheVariants.Reading kind from i j start end))
    of_what (Amends seq index value) same = absurd (subst (FitsRecord (Reading kind start end) en.value) same fits)
    of_what (Reads r) same = record {
      what = at.what;
      ordered = at.ordered;
      within = at.within;
      read = at.read;
      fits = fits;
      spans = reading_packed version bytes line en.spans from a b c d e f g h i j short
          (line_spans bytes line (reading_fields version) at.ordered at.within (field_many version bytes line r en at same))
          (subst (λ found. take (field_total version found) en.spans ≡ spans_at bytes line) is at.spans) s0 s1 s2 s3 s4 s5 s6 s7 s8 s9 s10;
    }

pub packs_amendment : (version : Version) (bytes : List ℕ) (line : Span) (en : Entry) (seq index from a b c d e f g h : ℕ)
    → line.to < most_batch_bytes → IsEntryAt version bytes line en → en.found ≡ Amend seq index
    → IsShort (nth en.spans 0).from from → IsShort (nth en.spans 0).to a → IsShort (nth en.spans 1).to b → IsShort (nth en.spans 2).to c
    → IsShort (nth en.spans 3).to d
    → IsEntryAt version bytes line (unpacked (ends_of a b c d e f g h) en.value (declared.TheVariants.Amend from index seq))
packs_amendment version bytes line en seq index from a b c d e f g h short at is s0 s1 s2 s3 s4 = of_what at.what refl
  where
    fits : FitsRecord (Amend seq index) en.value at.what
    fits = subst (λ found. FitsRecord found en.value at.what) is at.fits

    of_what : (r : Record) → at.what ≡ r
        → IsEntryAt version bytes line (unpacked (ends_of a b c d e f g h) en.value (declared.TheVariants.Amend from index seq))
    of_what (Reads r) same = absurd (subst (FitsRecord (Amend seq index) en.value) same fits)
    of_what (Amends s i value) same = record {
      what = at.what;
      ordered = at.ordered;
      within = at.within;
      read = at.read;
      fits = fits;
      spans = four_packed bytes line en.spans from a b c d short
          (line_spans bytes line 4 at.ordered at.within (four_fields_of version bytes line s i value (at.read ∙ ap Ok same)))
          (subst (λ found. take (field_total version found) en.spans ≡ spans_at bytes line) is at.spans) s0 s1 s2 s3 s4;
    }
