-- The line that comes next is counted in the text, and stays so behind a line, behind so many lines and behind a section.
use Rattle.std.proofs.Common.{◌≡◌, ℕ, zero, suc, ◌+◌, ◌≤◌, ◌==◌, true, not, cond, List, [], ◌∷◌, ◌++◌, length, take, drop, Some, Ok, codes, refl, sym, ap, ap₂, ◌∙◌, subst, arith, leb-true}
use Rattle.std.specs.Prelude.{nat_le}
use Rattle.std.specs.List.{list_all, position}
use Rattle.std.proofs.Math.Seq.{take-add}
use Rattle.std.proofs.lemmas.Bool.{and_parts, and_from, not-true}
use Rattle.std.proofs.lemmas.List.{length-append, length-take-le}
use Rattle.std.proofs.lemmas.List.Sums.{sum_by-append, sum_by-cons}
use Rattle.metering_model.specs.Batch.{lacks}
use Rattle.metering_model.specs.BatchReading.{lines_in}
use Rattle.metering_model.specs.Schedule.{TextLines, lines_text}
use Rattle.metering_model.specs.Sheet as sheets
use Rattle.metering_model.specs.Transcript.{line, line_count}
use Rattle.price_sheet.specs.SheetReading.{sheet_of_text}
use Rattle.sheet_text.specs.IssuerReading.{issuer_of_text}
use Rattle.metering_model.proofs.StepLaws.{step_ok, some_step, test_step, ok_same}
use Rattle.input_sections.specs.declared.faults.ScheduleCode.{ScheduleCode}
use Rattle.input_sections.specs.declared.faults.ScheduleCode.TheVariants.{Sheet, Issuer, TooLong}
use Rattle.input_sections.specs.declared.faults.ScheduleFault.TheVariants.{Refused}
use Rattle.input_sections.specs.Sections.{IsCounted, Section, Unread, left, lines_left, whole_of, first_of, first_line, number_behind, section_of, section_in, read_as, sheet_section, issuer_section}
use Rattle.byte_text.specs.Lines.{IsPast}
use Rattle.byte_text.proofs.LineLemmas.{lines_at_feed}
use Rattle.byte_text.proofs.PastLines.{lines_lack, text_of_front}

-- ---- line feeds

pub both_count : (s t : List ℕ) → line_count (s ++ t) ≡ line_count s + line_count t
both_count s t = sum_by-append (λ x. cond (x == 10) 1 0) s t

pub no_feed_counts : (t : List ℕ) → lacks 10 t ≡ true → line_count t ≡ 0
no_feed_counts [] h = refl
no_feed_counts (c ∷ cs) h =
    let both = and_parts (not (c == 10)) (lacks 10 cs) h in
    sum_by-cons (λ x. cond (x == 10) 1 0) c cs ∙ ap₂ ◌+◌ (ap (λ b. cond b 1 0) (not-true _ both.0)) (no_feed_counts cs both.1)

pub line_counts : (l : List ℕ) → lacks 10 l ≡ true → line_count (line l) ≡ 1
line_counts l h = both_count l (10 ∷ []) ∙ ap (λ n. n + 1) (no_feed_counts l h)

pub lines_count : (ls : TextLines) → list_all (lacks 10) ls ≡ true → line_count (lines_text ls) ≡ length ls
lines_count [] h = refl
lines_count (l ∷ ls) h =
    let both = and_parts (lacks 10 l) (list_all (lacks 10) ls) h in
    omega (arith, both_count (line l) (lines_text ls), line_counts l both.0, lines_count ls both.1)

some_lack : (n : ℕ) (ls : TextLines) → list_all (lacks 10) ls ≡ true → list_all (lacks 10) (take n ls) ≡ true
some_lack zero ls h = refl
some_lack (suc n) [] h = refl
some_lack (suc n) (l ∷ ls) h =
    let both = and_parts (lacks 10 l) (list_all (lacks 10) ls) h in
    and_from _ _ both.0 (some_lack n ls both.1)

-- so many lines at the front of a text have so many line feeds
pub front_counts : (n : ℕ) (t : List ℕ) → n ≤ length (lines_in t).lines → line_count (take (length (lines_text (take n (lines_in t).lines))) t) ≡ n
front_counts n t enough =
    let ls = (lines_in t).lines in
    ap line_count (text_of_front n t) ∙ lines_count (take n ls) (some_lack n ls (lines_lack t)) ∙ length-take-le n ls enough

-- the first line, up to the first line feed, has one
pub first_counts : (t : List ℕ) (i : ℕ) → position (λ c. c == 10) t ≡ Some i → line_count (take (i + 1) t) ≡ 1
first_counts t i found =
    let feed = lines_at_feed t i found in
    let lines : (lines_in t).lines ≡ take i t ∷ (lines_in (drop (i + 1) t)).lines = ap (λ ls. ls.lines) feed.1 in
    let one = length-append (line (take i t)) [] in
    let long : length (lines_text (take 1 (lines_in t).lines)) ≡ i + 1 =
    ap (λ ls. length (lines_text (take 1 ls))) lines ∙ omega (arith, one, length-append (take i t) (10 ∷ []), length-take-le i t (omega (arith, feed.0))) in
    ap (λ n. line_count (take n t)) (sym long) ∙ front_counts 1 t (omega (arith, ap length lines))

-- what was counted up to a place goes on being so behind it
pub counted_on : (text : List ℕ) (at k before more : ℕ) → before ≡ 1 + line_count (take at text) → line_count (take k (drop at text)) ≡ more
    → before + more ≡ 1 + line_count (take (at + k) text)
counted_on text at k before more is next =
    omega (arith, is, next, ap line_count (take-add at k text), both_count (take at text) (take k (drop at text)))

-- behind the first lines of what is left, and behind the next line feed
pub past_counted : (text : List ℕ) (from line count at : ℕ) → line ≡ 1 + line_count (take from text) → IsPast (drop from text) count at
    → line + count ≡ 1 + line_count (take (from + at) text)
past_counted text from line count at is past =
    counted_on text from at line count is (ap (λ n. line_count (take n (drop from text))) past.place ∙ front_counts count (drop from text) past.enough)

pub feed_counted : (text : List ℕ) (from line i : ℕ) → line ≡ 1 + line_count (take from text) → position (λ c. c == 10) (drop from text) ≡ Some i
    → line + 1 ≡ 1 + line_count (take (from + i + 1) text)
feed_counted text from line i is found =
    let place : from + (i + 1) ≡ from + i + 1 = omega arith in
    counted_on text from (i + 1) line 1 is (first_counts (drop from text) i found) ∙ ap (λ n. 1 + line_count (take n text)) place

-- ---- behind what was read

-- What is left of the same text, with its line counted.
pub record GoesOn (u v : Unread) : Type 0 where
  pub text : v.text ≡ u.text
  pub counted : IsCounted v

-- What is left of a text, with its line counted.
pub record IsLeftOf (text : List ℕ) (u : Unread) : Type 0 where
  pub text_is : u.text ≡ text
  pub counted : IsCounted u

pub left_behind : (text : List ℕ) (u v : Unread) → IsLeftOf text u → GoesOn u v → IsLeftOf text v
left_behind text u v is next = record { text_is = next.text ∙ is.text_is; counted = next.counted }

-- all of it
pub whole_counted : (text : List ℕ) (u : Unread) → whole_of text ≡ Ok u → IsLeftOf text u
whole_counted text u h =
    let test = test_step (nat_le (length text) 16_777_216) (Refused TooLong 1) _ u h in
    subst (IsLeftOf text) (ok_same _ _ test.1) (record { text_is = refl; counted = refl })

-- behind so many lines that are there
pub lines_counted : (n : ℕ) (u : Unread) → IsCounted u → n ≤ length (lines_left u) → GoesOn u (section_of n u).rest
lines_counted n u is enough = record {
  text = refl;
  counted = counted_on u.text u.from (length (lines_text (take n (lines_left u)))) u.line n is (front_counts n (left u) enough);
}

of_first : (code : ScheduleCode) (u : Unread) (ls : TextLines) (l : List ℕ) (v : Unread) → IsCounted u → lines_left u ≡ ls → first_of code u ls ≡ Ok (l, v) → GoesOn u v
of_first code u [] l v is e h = absurd (cc)
of_first code u (x ∷ xs) l v is e h =
    let one = length-append (line x) [] in
    let long : length (lines_text (take 1 (lines_left u))) ≡ length x + 1 =
    ap (λ ls. length (lines_text (take 1 ls))) e ∙ omega (arith, one, length-append x (10 ∷ [])) in
    let counts = ap (λ n. line_count (take n (left u))) (sym long) ∙ front_counts 1 (left u) (omega (arith, ap length e)) in
    let place : u.from + (length x + 1) ≡ u.from + length x + 1 = omega arith in
    let at = counted_on u.text u.from (length x + 1) u.line 1 is counts ∙ ap (λ n. 1 + line_count (take n u.text)) place in
    subst (λ p. GoesOn u p.1) (ok_same _ _ h) (record { text = refl; counted = at })

-- behind the next line
pub first_counted : (code : ScheduleCode) (u : Unread) (l : List ℕ) (v : Unread) → IsCounted u → first_line code u ≡ Ok (l, v) → GoesOn u v
first_counted code u l v is h = of_first code u (lines_left u) l v is refl h

-- behind a section
pub section_counted : (code : ScheduleCode) (word : List ℕ) (most : ℕ) (u : Unread) (s : Section) → IsCounted u → section_in code word most u ≡ Ok s → GoesOn u s.rest
unfolding section_in
section_counted code word most u s is h =
    let opening = step_ok (first_line code u) _ s h in
    let number = some_step (number_behind word most opening.0.0) _ _ s opening.2 in
    let below = opening.0.1 in
    let enough = test_step (nat_le number.0 (length (lines_left below))) _ _ s number.2 in
    let first = first_counted code u opening.0.0 below is opening.1 in
    let behind = lines_counted number.0 below first.counted (leb-true _ _ enough.0) in
    subst (λ x. GoesOn u x.rest) (ok_same _ _ enough.1) (record { text = behind.text ∙ first.text; counted = behind.counted })

-- behind the section of a sheet, and behind that of an issuer
pub sheet_counted : (u : Unread) (r : sheets.Sheet × Unread) → IsCounted u → sheet_section u ≡ Ok r → GoesOn u r.1
unfolding sheet_section
sheet_counted u r is h =
    let s = step_ok (section_in Sheet (codes "sheet ") 200_000 u) _ r h in
    let sheet = step_ok (read_as sheet_of_text (Refused Sheet u.line) s.0.text) _ r s.2 in
    subst (λ p. GoesOn u p.1) (ok_same _ _ sheet.2) (section_counted Sheet (codes "sheet ") 200_000 u s.0 is s.1)

pub issuer_counted : (u : Unread) (r : sheets.Issuer × Unread) → IsCounted u → issuer_section u ≡ Ok r → GoesOn u r.1
unfolding issuer_section
issuer_counted u r is h =
    let s = step_ok (section_in Issuer (codes "issuer ") 100 u) _ r h in
    let issuer = step_ok (read_as issuer_of_text (Refused Issuer u.line) s.0.text) _ r s.2 in
    subst (λ p. GoesOn u p.1) (ok_same _ _ issuer.2) (section_counted Issuer (codes "issuer ") 100 u s.0 is s.1)
