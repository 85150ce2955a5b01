-- How many lines a preamble has that was read, and what is left behind them.
use Rattle.std.proofs.Common.{◌≡◌, ℕ, ◌+◌, ◌<◌, ◌≤◌, Bool, true, false, cond, List, [], ◌∷◌, ◌++◌, length, take, drop, Option, Some, None, Ok, codes, refl, sym, ap, ◌∙◌, subst, arith, leb-true, le-leb}
use Rattle.std.specs.Prelude.{nat_le}
use Rattle.std.specs.Option.{option_map}
use Rattle.std.proofs.Math.Seq.{drop-append_seam}
use Rattle.std.proofs.lemmas.Bool.{cond-true, lt-leb}
use Rattle.std.proofs.lemmas.List.{drop-drop, length-append, length-take-le}
use Rattle.std.proofs.lemmas.Option.{none-some}
use Rattle.metering_model.specs.BatchReading.{is_same, lines_in}
use Rattle.metering_model.specs.Schedule.{TextLines, lines_text}
use Rattle.metering_model.specs.Sheet as sheets
use Rattle.metering_model.specs.Transcript.{line}
use Rattle.metering_model.proofs.StepLaws.{ok_same, some_step, step_ok, test_step}
use Rattle.input_sections.specs.SheetReading.{sheet_of_text}
use Rattle.input_sections.specs.IssuerReading.{issuer_of_text}
use Rattle.input_sections.specs.declared.faults.ScheduleCode.{ScheduleCode}
use Rattle.input_sections.specs.declared.faults.ScheduleCode.TheVariants as code
use Rattle.input_sections.specs.declared.faults.ScheduleFault.TheVariants.{Refused}
use Rattle.input_sections.specs.Sections.{Section, Unread, first_line, first_of, issuer_section, left, lines_left, number_behind, read_as, section_in, section_of, sheet_section, told, whole_of}
use Rattle.byte_text.proofs.PastLines.{front_length, other_lines, other_rest}
use Rattle.log_text.specs.LogText.{ReadLog, log_in}
use Rattle.process_player.specs.declared.heads.ProcessKind.{ProcessKind}
use Rattle.process_player.specs.Starts.{Preamble, head_of, is_kind_of, kind_word, own_of, preamble_in}
use Rattle.process_player.specs.Refusals.{preamble_lines, section_below, section_lines, with_issuer}

-- ---- the lines of a section

pub section_read : (word : List ℕ) (most : ℕ) (l : List ℕ) (ls : TextLines) (n : ℕ) → number_behind word most l ≡ Some n → n ≤ length ls → section_lines word most (l ∷ ls) ≡ Some (1 + n)
section_read word most l ls n said enough = ap (section_below ls) said ∙ cond-true (nat_le n (length ls)) (Some (1 + n)) None (le-leb n (length ls) enough)

pub section_short : (word : List ℕ) (most : ℕ) (l : List ℕ) (ls : TextLines) (n : ℕ) → number_behind word most l ≡ Some n → length ls < n → section_lines word most (l ∷ ls) ≡ None
section_short word most l ls n said few = ap (section_below ls) said ∙ ap (λ b. cond b (Some (1 + n)) None) (lt-leb n (length ls) few)

-- whatever stands behind them
pub section_on : (word : List ℕ) (most : ℕ) (ls rs : TextLines) (n : ℕ) → section_lines word most ls ≡ Some n → section_lines word most (ls ++ rs) ≡ Some n
section_on word most [] rs n h = absurd (none-some n h)
section_on word most (l ∷ ls) rs n h = by (number_behind word most l) refl h
  where
    enough : (k : ℕ) → number_behind word most l ≡ Some k → (b : Bool) → nat_le k (length ls) ≡ b → cond b (Some (1 + k)) None ≡ Some n → section_lines word most (l ∷ (ls ++ rs)) ≡ Some n
    enough k is true e h = section_read word most l (ls ++ rs) k is (let low = leb-true k (length ls) e in omega (arith, low, length-append ls rs)) ∙ h
    enough k is false e h = absurd (none-some n h)

    by : (o : Option ℕ) → number_behind word most l ≡ o → section_below ls o ≡ Some n → section_lines word most (l ∷ (ls ++ rs)) ≡ Some n
    by None is h = absurd (none-some n h)
    by (Some k) is h = enough k is (nat_le k (length ls)) refl h

-- ---- reading on by so many lines

behind_place : (text : List ℕ) (from k : ℕ) → drop (from + k) text ≡ drop k (drop from text)
behind_place text from k = sym (drop-drop k from text)

-- what is left is what was, without its first lines
abbrev pub GoesBy : ℕ → Unread → Unread → Type 0
GoesBy n u v = (lines_left v ≡ drop n (lines_left u)) × ((lines_in (left v)).rest ≡ (lines_in (left u)).rest)

goes_on : (m n : ℕ) (u v w : Unread) → GoesBy m u v → GoesBy n v w → GoesBy (m + n) u w
goes_on m n u v w first next = (next.0 ∙ ap (drop n) first.0 ∙ drop-drop n m (lines_left u), next.1 ∙ first.1)

lines_dropped : (n : ℕ) (text : List ℕ) → n ≤ length (lines_in text).lines → (lines_in (drop (front_length n text) text)).lines ≡ drop n (lines_in text).lines
lines_dropped n text enough =
    let ls = (lines_in text).lines in
    let others = (lines_in (drop (front_length n text) text)).lines in
    sym (ap (drop n) (other_lines n text) ∙ ap (λ k. drop k (take n ls ++ others)) (sym (length-take-le n ls enough)) ∙ drop-append_seam (take n ls) others)

goes_by : (n : ℕ) (u v : Unread) → n ≤ length (lines_left u) → left v ≡ drop (front_length n (left u)) (left u) → GoesBy n u v
goes_by n u v enough is = (ap (λ t. (lines_in t).lines) is ∙ lines_dropped n (left u) enough, ap (λ t. (lines_in t).rest) is ∙ other_rest n (left u))

of_first : (code : ScheduleCode) (u : Unread) (ls : TextLines) (l : List ℕ) (v : Unread) → lines_left u ≡ ls → first_of code u ls ≡ Ok (l, v) → (rest : TextLines) × (lines_left u ≡ l ∷ rest) × GoesBy 1 u v
of_first code u [] l v e h = absurd (cc)
of_first code u (x ∷ xs) l v e h =
    let one = length-append (line x) [] in
    let long : front_length 1 (left u) ≡ length x + 1 = ap (λ ls. length (lines_text (take 1 ls))) e ∙ omega (arith, one, length-append x (10 ∷ [])) in
    let there : Unread = record u { from = u.from + length x + 1; line = u.line + 1 } in
    let behind : left there ≡ drop (front_length 1 (left u)) (left u) =
    ap (λ n. drop n u.text) (omega arith) ∙ behind_place u.text u.from (length x + 1) ∙ ap (λ k. drop k (left u)) (sym long) in
    let same = ok_same _ _ h in
    (xs, e ∙ ap (λ y. y ∷ xs) (ap (λ (p : List ℕ × Unread). p.0) same), subst (λ (p : List ℕ × Unread). GoesBy 1 u p.1) same (goes_by 1 u there (omega (arith, ap length e)) behind))

pub first_by : (code : ScheduleCode) (u : Unread) (l : List ℕ) (v : Unread) → first_line code u ≡ Ok (l, v) → (rest : TextLines) × (lines_left u ≡ l ∷ rest) × GoesBy 1 u v
first_by code u l v h = of_first code u (lines_left u) l v refl h

-- a section is left behind
abbrev GoesBySection : List ℕ → ℕ → Unread → Unread → Type 0
GoesBySection word most u v = (n : ℕ) × (section_lines word most (lines_left u) ≡ Some n) × GoesBy n u v

section_by : (code : ScheduleCode) (word : List ℕ) (most : ℕ) (u : Unread) (s : Section) → section_in code word most u ≡ Ok s → GoesBySection word most u s.rest
unfolding section_in
section_by code word most u s h =
    let opening = step_ok (first_line code u) _ s h in
    let number = some_step (number_behind word most opening.0.0) _ _ s opening.2 in
    let below = opening.0.1 in
    let enough = test_step (nat_le number.0 (length (lines_left below))) _ _ s number.2 in
    let first = first_by code u opening.0.0 below opening.1 in
    let low = leb-true number.0 (length (lines_left below)) enough.0 in
    let next = goes_by number.0 below (section_of number.0 below).rest low (behind_place below.text below.from (front_length number.0 (left below))) in
    let others : lines_left below ≡ first.0 = first.2.0 ∙ ap (drop 1) first.1 in (
      1 + number.0,
      ap (section_lines word most) first.1 ∙ section_read word most opening.0.0 first.0 number.0 number.1 (let same = ap length others in omega (arith, low, same)),
      subst (λ (x : Section). GoesBy (1 + number.0) u x.rest) (ok_same _ _ enough.1) (goes_on 1 number.0 u below (section_of number.0 below).rest first.2 next),
    )

sheet_by : (u : Unread) (r : sheets.Sheet × Unread) → sheet_section u ≡ Ok r → GoesBySection (codes "sheet ") 200_000 u r.1
unfolding sheet_section
sheet_by u r h =
    let s = step_ok (section_in code.Sheet (codes "sheet ") 200_000 u) _ r h in
    let sheet = step_ok (read_as sheet_of_text (Refused code.Sheet u.line) s.0.text) _ r s.2 in
    subst (λ (p : sheets.Sheet × Unread). GoesBySection (codes "sheet ") 200_000 u p.1) (ok_same _ _ sheet.2) (section_by code.Sheet (codes "sheet ") 200_000 u s.0 s.1)

issuer_by : (u : Unread) (r : sheets.Issuer × Unread) → issuer_section u ≡ Ok r → GoesBySection (codes "issuer ") 100 u r.1
unfolding issuer_section
issuer_by u r h =
    let s = step_ok (section_in code.Issuer (codes "issuer ") 100 u) _ r h in
    let issuer = step_ok (read_as issuer_of_text (Refused code.Issuer u.line) s.0.text) _ r s.2 in
    subst (λ (p : sheets.Issuer × Unread). GoesBySection (codes "issuer ") 100 u p.1) (ok_same _ _ issuer.2) (section_by code.Issuer (codes "issuer ") 100 u s.0 s.1)

own_by : (k : ProcessKind) (u : Unread) (r : ReadLog × Unread) → own_of k u ≡ Ok r → GoesBy 1 u r.1
own_by k u r h =
    let l = step_ok (first_line code.Nodes u) _ r h in
    let own = step_ok (told (Refused code.Nodes 2) (log_in (line l.0.0))) _ r l.2 in
    let kind = test_step (is_kind_of k own.0.head.who) _ _ r own.2 in
    subst (λ (p : ReadLog × Unread). GoesBy 1 u p.1) (ok_same _ _ kind.1) (first_by code.Nodes u l.0.0 l.0.1 l.1).2

head_by : (k : ProcessKind) (u : Unread) (r : ReadLog × Unread) → head_of k u ≡ Ok r → GoesBy 2 u r.1
head_by k u r h =
    let l = step_ok (first_line code.Head u) _ r h in
    let test = test_step (is_same l.0.0 (kind_word k)) _ _ r l.2 in
    goes_on 1 1 u l.0.1 r.1 (first_by code.Head u l.0.0 l.0.1 l.1).2 (own_by k l.0.1 r test.1)

whole_left : (text : List ℕ) (u : Unread) → whole_of text ≡ Ok u → left u ≡ text
whole_left text u h =
    let test = test_step (nat_le (length text) 16_777_216) (Refused code.TooLong 1) _ u h in
    ap left (sym (ok_same _ _ test.1))

-- The text has so many lines of a preamble, and what is left is what stands behind them.
pub record IsFront (text : List ℕ) (rest : Unread) : Type 0 where
  pub count : ℕ
  pub said : preamble_lines (lines_in text).lines ≡ Some count
  pub lines : lines_left rest ≡ drop count (lines_in text).lines
  pub piece : (lines_in (left rest)).rest ≡ (lines_in text).rest

pub preamble_front : (k : ProcessKind) (text : List ℕ) (p : Preamble) → preamble_in k text ≡ Ok p → IsFront text p.rest
unfolding preamble_in
preamble_front k text p h =
    let whole = step_ok (whole_of text) _ p h in
    let head = step_ok (head_of k whole.0) _ p whole.2 in
    let sheet = step_ok (sheet_section head.0.1) _ p head.2 in
    let issuer = step_ok (issuer_section sheet.0.1) _ p sheet.2 in
    let u = whole.0 in
    let first = head_by k u head.0 head.1 in
    let second = sheet_by head.0.1 sheet.0 sheet.1 in
    let third = issuer_by sheet.0.1 issuer.0 issuer.1 in
    let both = goes_on 2 second.0 u head.0.1 sheet.0.1 first second.2 in
    let all = goes_on (2 + second.0) third.0 u sheet.0.1 issuer.0.1 both third.2 in
    let ls = lines_left u in
    let same = whole_left text u whole.1 in
    let of_sheet : section_lines (codes "sheet ") 200_000 (drop 2 ls) ≡ Some second.0 = ap (section_lines (codes "sheet ") 200_000) (sym first.0) ∙ second.1 in
    let of_issuer : section_lines (codes "issuer ") 100 (drop (2 + second.0) ls) ≡ Some third.0 = ap (section_lines (codes "issuer ") 100) (sym both.0) ∙ third.1 in
    let said : preamble_lines ls ≡ Some (2 + second.0 + third.0) = ap (with_issuer ls) of_sheet ∙ ap (option_map (λ m. 2 + second.0 + m)) of_issuer in
    let front : IsFront (left u) issuer.0.1 = record { count = 2 + second.0 + third.0; said = said; lines = all.0; piece = all.1 } in
    subst (λ (q : Preamble). IsFront text q.rest) (ok_same _ _ issuer.2) (subst (λ t. IsFront t issuer.0.1) same front)
