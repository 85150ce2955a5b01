-- An input that is to be rated is read exactly where it is joined of its sections and its batch.
use Rattle.std.proofs.Common.{◌≡◌, ℕ, Bool, true, false, cond, List, [], ◌∷◌, ◌++◌, length, Option, Some, None, Result, Ok, decimal, codes, refl, sym, ap, ◌∙◌, subst, arith, append_assoc, leb-true, le-leb}
use Rattle.std.specs.Prelude.{nat_le}
use Rattle.std.specs.Str.{is_utf8}
use Rattle.std.proofs.lemmas.Str.{IsUtf8-from_is_utf8}
use Rattle.metering_model.specs.Schedule.{TextLines, AreLines, lines_text, section_text}
use Rattle.metering_model.specs.Sheet as model
use Rattle.metering_model.specs.Transcript.{line}
use Rattle.metering_model.proofs.StepLaws.{step_ok, test_step, ok_same, ok_step_from, test_step_from}
use Rattle.price_sheet.specs.SheetReading.{sheet_of_text}
use Rattle.sheet_text.specs.Samples.{sample_issuer}
use Rattle.sheet_text.specs.IssuerReading.{issuer_of_text}
use Rattle.input_sections.specs.declared.faults.ScheduleCode.TheVariants.{Sheet, Issuer, TooLong}
use Rattle.input_sections.specs.declared.faults.ScheduleFault.{ScheduleFault}
use Rattle.input_sections.specs.declared.faults.ScheduleFault.TheVariants.{Refused}
use Rattle.input_sections.specs.RateInput.{RateInput, default_sheet, if_begun, rate_input_in}
use Rattle.input_sections.specs.Sections.{Unread, begins_with, left, whole_of, read_as, section_in, sheet_section, issuer_section}
use Rattle.input_sections.proofs.ReadLaws.{read_well}
use Rattle.schedule_reader.proofs.LineForms.{reader_took, section_read}
use Rattle.schedule_reader.proofs.WrittenLines.{begins_written, section_written}
use Rattle.input_check.specs.RateForms.{IsPart, IsRateForm, RateForm, text_behind_sheet, text_if_there}

-- ---- from reading

-- The section that was read stands in front, with its lines.
record IsSectionAt {A E : Type 0} (most : ℕ) (word : List ℕ) (read : List ℕ → Result A E) (u : Unread) (r : A × Unread) (ls : TextLines) : Type 0 where
  pub are : AreLines most ls
  pub front : left u ≡ section_text word ls ++ left r.1
  pub utf8 : is_utf8 (lines_text ls) ≡ true
  pub taken : read (lines_text ls) ≡ Ok r.0

sheet_read : (u : Unread) (r : model.Sheet × Unread) → sheet_section u ≡ Ok r → (ls : TextLines) × IsSectionAt 200_000 (codes "sheet ") sheet_of_text u r ls
unfolding sheet_section
sheet_read u r h =
    let s = step_ok (section_in Sheet (codes "sheet ") 200_000 u) _ r h in
    let sheet = step_ok (read_as sheet_of_text (Refused Sheet u.line) s.0.text) _ r s.2 in
    let section = section_read Sheet (codes "sheet ") 200_000 u s.0 (omega arith) s.1 in
    let took = reader_took sheet_of_text (Refused Sheet u.line) s.0.text sheet.0 sheet.1 in
    let is : IsSectionAt 200_000 (codes "sheet ") sheet_of_text u (sheet.0, s.0.rest) section.0 = record {
      are = section.1;
      front = section.2;
      utf8 = ap is_utf8 (sym section.3) ∙ took.0;
      taken = ap sheet_of_text (sym section.3) ∙ took.1;
    } in
    (section.0, subst (λ p. IsSectionAt 200_000 (codes "sheet ") sheet_of_text u p section.0) (ok_same _ _ sheet.2) is)

issuer_read : (u : Unread) (r : model.Issuer × Unread) → issuer_section u ≡ Ok r → (ls : TextLines) × IsSectionAt 100 (codes "issuer ") issuer_of_text u r ls
unfolding issuer_section
issuer_read u r h =
    let s = step_ok (section_in Issuer (codes "issuer ") 100 u) _ r h in
    let issuer = step_ok (read_as issuer_of_text (Refused Issuer u.line) s.0.text) _ r s.2 in
    let section = section_read Issuer (codes "issuer ") 100 u s.0 (omega arith) s.1 in
    let took = reader_took issuer_of_text (Refused Issuer u.line) s.0.text issuer.0 issuer.1 in
    let is : IsSectionAt 100 (codes "issuer ") issuer_of_text u (issuer.0, s.0.rest) section.0 = record {
      are = section.1;
      front = section.2;
      utf8 = ap is_utf8 (sym section.3) ∙ took.0;
      taken = ap issuer_of_text (sym section.3) ∙ took.1;
    } in
    (section.0, subst (λ p. IsSectionAt 100 (codes "issuer ") issuer_of_text u p section.0) (ok_same _ _ issuer.2) is)

-- The part that was read stands in front.
record IsPartAt {A E : Type 0} (most : ℕ) (word : List ℕ) (read : List ℕ → Result A E) (missing : A) (u : Unread) (r : A × Unread) (o : Option TextLines) : Type 0 where
  pub front : left u ≡ text_if_there word o ++ left r.1
  pub part : IsPart most word read missing o (left r.1) r.0

part_read : {A E : Type 0} (most : ℕ) (word : List ℕ) (read : List ℕ → Result A E) (missing : A) (section : Unread → Result (A × Unread) ScheduleFault) (u : Unread) (r : A × Unread)
    → (section u ≡ Ok r → (ls : TextLines) × IsSectionAt most word read u r ls) → if_begun word section missing u ≡ Ok r
    → (o : Option TextLines) × IsPartAt most word read missing u r o
part_read {A} {E} most word read missing section u r each h = by_test (begins_with word (left u)) refl h
  where
    by_test : (b : Bool) → begins_with word (left u) ≡ b → cond b (section u) (Ok (missing, u)) ≡ Ok r → (o : Option TextLines) × IsPartAt most word read missing u r o
    by_test true e k =
        let found = each k in
        (Some found.0, record { front = found.1.front; part = (found.1.are, found.1.utf8, found.1.taken) })
    by_test false e k =
        let none : IsPartAt most word read missing u (missing, u) None = record { front = refl; part = (e, refl) } in
        (None, subst (λ p. IsPartAt most word read missing u p None) (ok_same _ _ k) none)

pub rating_read : (text : List ℕ) (given : RateInput) → rate_input_in text ≡ Ok given → (f : RateForm) × IsRateForm text given f
unfolding rate_input_in
rating_read text given h =
    let whole = step_ok (whole_of text) _ given h in
    let sheet = step_ok (if_begun (codes "sheet ") sheet_section default_sheet whole.0) _ given whole.2 in
    let issuer = step_ok (if_begun (codes "issuer ") issuer_section sample_issuer sheet.0.1) _ given sheet.2 in
    let test = test_step (nat_le (length text) 16_777_216) (Refused TooLong 1) _ whole.0 whole.1 in
    let all : text ≡ left whole.0 = ap left (ok_same _ _ test.1) in
    let one = part_read 200_000 (codes "sheet ") sheet_of_text default_sheet sheet_section whole.0 sheet.0 (sheet_read whole.0 sheet.0) sheet.1 in
    let two = part_read 100 (codes "issuer ") issuer_of_text sample_issuer issuer_section sheet.0.1 issuer.0 (issuer_read sheet.0.1 issuer.0) issuer.1 in
    let f : RateForm = record { sheet = one.0; issuer = two.0; batch = left issuer.0.1 } in
    let is : IsRateForm text (record { sheet = sheet.0.0; issuer = issuer.0.0; batch = left issuer.0.1 }) f = record {
      joined = all ∙ one.1.front ∙ ap (λ t. text_if_there (codes "sheet ") one.0 ++ t) two.1.front;
      short = leb-true _ _ test.0;
      sheet = subst (λ t. IsPart 200_000 (codes "sheet ") sheet_of_text default_sheet one.0 t sheet.0.0) two.1.front one.1.part;
      issuer = two.1.part;
      batch = refl;
    } in
    (f, subst (λ g. IsRateForm text g f) (ok_same _ _ issuer.2) is)

-- ---- to reading

sheet_written : (u : Unread) (ls : TextLines) (sheet : model.Sheet) (rest : List ℕ) → AreLines 200_000 ls → is_utf8 (lines_text ls) ≡ true
    → sheet_of_text (lines_text ls) ≡ Ok sheet → left u ≡ section_text (codes "sheet ") ls ++ rest
    → (v : Unread) × (sheet_section u ≡ Ok (sheet, v)) × (left v ≡ rest)
unfolding sheet_section
sheet_written u ls sheet rest are utf8 is stands =
    let s = section_written Sheet (codes "sheet ") 200_000 u ls rest (omega arith) refl are stands in
    let read : read_as sheet_of_text (Refused Sheet u.line) s.0.text ≡ Ok sheet =
    ap (read_as sheet_of_text (Refused Sheet u.line)) s.2 ∙ read_well sheet_of_text (Refused Sheet u.line) (lines_text ls) sheet (IsUtf8-from_is_utf8 (lines_text ls) utf8) is in
    (s.0.rest, ok_step_from (section_in Sheet (codes "sheet ") 200_000 u) _ s.0 _ s.1 (ok_step_from _ _ sheet _ read refl), s.3)

issuer_written : (u : Unread) (ls : TextLines) (issuer : model.Issuer) (rest : List ℕ) → AreLines 100 ls → is_utf8 (lines_text ls) ≡ true
    → issuer_of_text (lines_text ls) ≡ Ok issuer → left u ≡ section_text (codes "issuer ") ls ++ rest
    → (v : Unread) × (issuer_section u ≡ Ok (issuer, v)) × (left v ≡ rest)
unfolding issuer_section
issuer_written u ls issuer rest are utf8 is stands =
    let s = section_written Issuer (codes "issuer ") 100 u ls rest (omega arith) refl are stands in
    let read : read_as issuer_of_text (Refused Issuer u.line) s.0.text ≡ Ok issuer =
    ap (read_as issuer_of_text (Refused Issuer u.line)) s.2 ∙ read_well issuer_of_text (Refused Issuer u.line) (lines_text ls) issuer (IsUtf8-from_is_utf8 (lines_text ls) utf8) is in
    (s.0.rest, ok_step_from (section_in Issuer (codes "issuer ") 100 u) _ s.0 _ s.1 (ok_step_from _ _ issuer _ read refl), s.3)

-- a section begins with its word
begins_so : (word : List ℕ) (ls : TextLines) (rest : List ℕ) → begins_with word (section_text word ls ++ rest) ≡ true
begins_so word ls rest =
    let n = decimal (length ls) in
    ap (begins_with word) (append_assoc (line (word ++ n)) (lines_text ls) rest ∙ append_assoc (word ++ n) (10 ∷ []) (lines_text ls ++ rest) ∙ append_assoc word n (10 ∷ (lines_text ls ++ rest)))
    ∙ begins_written word (n ++ 10 ∷ (lines_text ls ++ rest))

part_written : {A E : Type 0} (most : ℕ) (word : List ℕ) (read : List ℕ → Result A E) (missing : A) (section : Unread → Result (A × Unread) ScheduleFault) (u : Unread) (o : Option TextLines) (rest : List ℕ) (x : A)
    → ((ls : TextLines) → AreLines most ls → is_utf8 (lines_text ls) ≡ true → read (lines_text ls) ≡ Ok x → left u ≡ section_text word ls ++ rest → (v : Unread) × (section u ≡ Ok (x, v)) × (left v ≡ rest))
    → IsPart most word read missing o rest x → left u ≡ text_if_there word o ++ rest
    → (v : Unread) × (if_begun word section missing u ≡ Ok (x, v)) × (left v ≡ rest)
part_written most word read missing section u (Some ls) rest x each part stands =
    let found = each ls part.0 part.1 part.2 stands in
    let begun = ap (begins_with word) stands ∙ begins_so word ls rest in
    (found.0, ap (λ b. cond b (section u) (Ok (missing, u))) begun ∙ found.1, found.2)
part_written most word read missing section u None rest x each part stands =
    let other = ap (begins_with word) stands ∙ part.0 in
    (u, ap (λ b. cond b (section u) (Ok (missing, u))) other ∙ ap (λ y. Ok (y, u)) (sym part.1), stands)

rating_joined : (text : List ℕ) (given : RateInput) (f : RateForm) → IsRateForm text given f → rate_input_in text ≡ Ok (record { sheet = given.sheet; issuer = given.issuer; batch = f.batch })
unfolding rate_input_in
rating_joined text given f is =
    let u : Unread = record { text = text; from = 0; line = 1 } in
    let whole : whole_of text ≡ Ok u = test_step_from (nat_le (length text) 16_777_216) (Refused TooLong 1) _ _ (le-leb (length text) 16_777_216 is.short) refl in
    let sheet = part_written 200_000 (codes "sheet ") sheet_of_text default_sheet sheet_section u f.sheet (text_behind_sheet f) given.sheet
    (λ ls are utf8 so stands. sheet_written u ls given.sheet (text_behind_sheet f) are utf8 so stands) is.sheet is.joined in
    let issuer = part_written 100 (codes "issuer ") issuer_of_text sample_issuer issuer_section sheet.0 f.issuer f.batch given.issuer
    (λ ls are utf8 so stands. issuer_written sheet.0 ls given.issuer f.batch are utf8 so stands) is.issuer sheet.2 in
    ok_step_from (whole_of text) _ u _ whole
    (ok_step_from (if_begun (codes "sheet ") sheet_section default_sheet u) _ (given.sheet, sheet.0) _ sheet.1
    (ok_step_from (if_begun (codes "issuer ") issuer_section sample_issuer sheet.0) _ (given.issuer, issuer.0) _ issuer.1
    (ap (λ t. Ok (record { sheet = given.sheet; issuer = given.issuer; batch = t })) issuer.2)))

pub rating_written : (text : List ℕ) (given : RateInput) (f : RateForm) → IsRateForm text given f → rate_input_in text ≡ Ok given
rating_written text given f is = rating_joined text given f is ∙ ap (λ t. Ok (record { sheet = given.sheet; issuer = given.issuer; batch = t })) is.batch
