-- A reading's line of plain bytes and bars: what its fields are, and what it leaves behind its letter and before its region.
use Rattle.std.proofs.Common.{◌≡◌, ℕ, true, false, List, [], ◌∷◌, ◌++◌, length, Option, Some, None, Ok, IfNone, refl, sym, ap, subst, ◌∙◌, codes}
use Rattle.std.specs.List.{list_all}
use Rattle.std.proofs.lemmas.Bool.{and_parts, false≢true}
use Rattle.std.proofs.lemmas.List.{map-append}
use Rattle.std.proofs.lemmas.List.Folds.{list_all-append}
use Rattle.metering_model.specs.Batch as model
use Rattle.metering_model.specs.Batch.{Reads, Amends, kind_text, is_text}
use Rattle.metering_model.specs.declared.Kind.{Kind}
use Rattle.metering_model.specs.declared.Kind.TheVariants.{Usage, Purchase, Credit, Tax, Adjustment}
use Rattle.metering_model.specs.declared.Version.{Version}
use Rattle.metering_model.specs.declared.Version.TheVariants.{B1, B2}
use Rattle.metering_model.specs.BatchReading.{is_same, record_in, fields_in}
use Rattle.metering_model.proofs.Splitting.{parts_lack}
use Rattle.metering_model.proofs.StepLaws.{some_iff, test_iff, step_ok, test_step, ok_same}
use Rattle.metering_model.proofs.RecordLaws as model_laws
use Rattle.metering_model.proofs.RegionLaws as region_laws
use Rattle.record_view.specs.declared.fields.Field.{Field}
use Rattle.record_view.specs.Parts.{LentText, lent, parts_at}
use Rattle.record_view.specs.Plain.{is_plain, is_plain_line, IsPlainReading}
use Rattle.record_view.specs.Inner.Placed.{texts_of}
use Rattle.record_view.specs.Inner.LineFields.{IsBeforeRegion, IsPlainRest, IsPlainBehind}
use Rattle.record_view.proofs.PlainLaws.{plain_text}
use Rattle.record_view.proofs.TagLaws.{texts_of_parts}
use Rattle.record_view.proofs.RecordLaws.{nine_fields, stamp_met}
use Rattle.record_view.proofs.PlainParts.{fields_plain, line_plain, cut_line, behind_part}
use Rattle.record_view.proofs.ReadingSteps.{answered_all, tags_known}

-- ---- the fields behind the letter

-- fields that are read as a reading of format B1
eight : (letter line : List ℕ) (fs : List (List ℕ)) (r : model.Reading) → is_plain_line line ≡ true → fields_in line ≡ fs → record_in B1 (letter ∷ fs) ≡ Ok (Reads r) → IsPlainRest line
eight letter line (seq ∷ index ∷ value ∷ []) r plain are read =
    let a = simp (some_iff, test_iff) at read in
    let amends = a.1.2.2.2 in
    absurd (cc)
eight letter line (start ∷ end ∷ account ∷ resource ∷ key ∷ value ∷ commitment ∷ tags ∷ []) r plain are read =
    let a = answered_all letter start end account resource key value commitment tags (Reads r)
    (sym (nine_fields letter start end account resource key value commitment tags) ∙ read) in
    record {
      plain = plain;
      start = start;
      end = end;
      account = account;
      resource = resource;
      key = key;
      value = value;
      commitment = commitment;
      tags = tags;
      fields = are;
      is_start = stamp_met start _ a.start;
      is_end = stamp_met end _ a.end;
      has_tags = tags_known tags _ a.tags;
    }
eight letter line fs r plain are read = absurd (cc)

pub plain_rest : (letter line : List ℕ) → IsPlainBehind B1 letter line → IsPlainRest line
plain_rest letter line h = eight letter line (fields_in line) h.reading h.plain refl h.read

-- ---- what stands before the region

-- what is cut off at the last bar
last_field : (rest front : LentText) (region : Field) → parts_at 124 rest ≡ parts_at 124 front ++ lent region ∷ [] → fields_in rest.text ≡ fields_in front.text ++ region.text.now ∷ []
last_field rest front region e =
    sym (texts_of_parts 124 rest)
    ∙ (ap (λ ps. texts_of ps) e
    ∙ (map-append (λ t. t.text) (parts_at 124 front) (lent region ∷ [])
    ∙ ap (λ ts. ts ++ region.text.now ∷ []) (texts_of_parts 124 front)))

-- both parts of a plain line are plain
pub cut_plain : (rest front : LentText) (region : Field) → parts_at 124 rest ≡ parts_at 124 front ++ lent region ∷ [] → is_plain_line rest.text ≡ true
    → (is_plain_line front.text ≡ true) × (is_text region.text.now ≡ true)
cut_plain rest front region e h =
    let all = sym (ap (list_all is_plain) (last_field rest front region e)) ∙ fields_plain rest.text h in
    let both = and_parts (list_all is_plain (fields_in front.text)) (list_all is_plain (region.text.now ∷ []))
    (sym (list_all-append is_plain (fields_in front.text) (region.text.now ∷ [])) ∙ all) in
    (line_plain front.text both.0, plain_text region.text.now (and_parts (is_plain region.text.now) true both.1).0)

-- no bar behind the letter's
pub no_bar_behind : (version : Version) (letter : List ℕ) (rest : LentText) → (version ≡ B2) × (parts_at 124 rest ≡ rest ∷ []) → IsPlainBehind version letter rest.text → ⊥
no_bar_behind B1 letter rest one h = absurd (cc)
no_bar_behind B2 letter rest one h =
    let are = sym (texts_of_parts 124 rest) ∙ ap (λ ps. texts_of ps) one.1 in
    let read = ap (λ ts. record_in B2 (letter ∷ ts)) (sym are) ∙ h.read in
    absurd (cc)

-- a record that is a reading with a region is one without
reading_before : (region : List ℕ) (x : model.Record) (r : model.Reading) → region_laws.in_region region x ≡ Reads r → (s : model.Reading) × (x ≡ Reads s)
reading_before region (Reads s) r e = (s, refl)
reading_before region (Amends seq index value) r e = absurd (cc)

pub plain_front : (version : Version) (letter : List ℕ) (rest front : LentText) (region : Option Field) → is_same letter (codes "X") ≡ false
    → IsBeforeRegion version rest front region → (is_plain_line rest.text ≡ true → is_plain_line front.text ≡ true)
    → IsPlainBehind version letter rest.text → IsPlainBehind B1 letter front.text
plain_front B1 letter rest front region other before plain h = subst (λ t. IsPlainBehind B1 letter t.text) (sym before.0) h
plain_front B2 letter rest front None other before plain h = absurd before
plain_front B2 letter rest front (Some f) other before plain h =
    let read = sym (ap (λ ts. record_in B2 (letter ∷ ts)) (last_field rest front f before.parts) ∙ region_laws.read_in_region letter (fields_in front.text) f.text.now other) ∙ h.read in
    let front_read = step_ok (record_in B1 (letter ∷ fields_in front.text)) (region_laws.region_behind f.text.now) (Reads h.reading) read in
    let region_read = test_step (is_text f.text.now) _ _ (Reads h.reading) front_read.2 in
    let reads = reading_before f.text.now front_read.0 h.reading (ok_same _ _ region_read.1) in
    record { plain = plain h.plain; reading = reads.0; read = front_read.1 ∙ ap Ok reads.1 }

-- ---- the whole line

-- the letter of a kind stands first, and more behind it
pub record Begins (line : List ℕ) : Type 0 where
  pub kind : Kind
  pub second : List ℕ
  pub others : List (List ℕ)
  pub fields : fields_in line ≡ kind_text kind ∷ second ∷ others

pub reading_begins : (version : Version) (line : List ℕ) → IsPlainReading version line → Begins line
reading_begins version line h =
    let read = model_laws.record_read version (fields_in line) (Reads h.reading) h.read (parts_lack 124 line) in
    record { kind = h.reading.kind; second = _; others = _; fields = read.0 }

pub kind_long : (k : Kind) → length (kind_text k) ≡ 1
kind_long Usage = refl
kind_long Purchase = refl
kind_long Credit = refl
kind_long Tax = refl
kind_long Adjustment = refl

kind_reads : (k : Kind) → is_same (kind_text k) (codes "X") ≡ false
kind_reads Usage = refl
kind_reads Purchase = refl
kind_reads Credit = refl
kind_reads Tax = refl
kind_reads Adjustment = refl

-- the letter is none of an amendment
pub no_amendment_letter : (version : Version) (whole letter rest : LentText) (line : List ℕ) → whole.text ≡ line → parts_at 124 whole ≡ letter ∷ parts_at 124 rest
    → is_same letter.text (codes "X") ≡ true → IsPlainReading version line → ⊥
no_amendment_letter version whole letter rest line text e same h =
    let begins = reading_begins version line h in
    let fields = begins.fields in
    let cut = sym (cut_line whole letter rest e) ∙ ap fields_in text in
    let letter_is : letter.text ≡ kind_text begins.kind = cc in
    false≢true (sym (kind_reads begins.kind) ∙ (ap (λ t. is_same t (codes "X")) (sym letter_is) ∙ same))

pub plain_behind_letter : (version : Version) (whole letter rest : LentText) (line : List ℕ) → whole.text ≡ line → parts_at 124 whole ≡ letter ∷ parts_at 124 rest
    → IsPlainReading version line → IsPlainBehind version letter.text rest.text
plain_behind_letter version whole letter rest line text e h =
    let cut = cut_line whole letter rest e in
    let left = behind_part whole letter rest letter.text (fields_in rest.text) (record { plain = ap is_plain_line text ∙ h.plain; are = cut }) e in
    record { plain = left.plain; reading = h.reading; read = ap (record_in version) (sym cut ∙ ap fields_in text) ∙ h.read }

-- what is there wherever the one is, is there wherever the other is
pub none_weaker : {A : Type 0} (o : Option A) {P Q : Type 0} → (Q → P) → IfNone o (P → ⊥) → IfNone o (Q → ⊥)
none_weaker (Some x) f h = tt
none_weaker None f h = λ q. h (f q)
