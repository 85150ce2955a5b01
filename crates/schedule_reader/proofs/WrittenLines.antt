-- A line, a number and a section are read where they stand at the front of what is left.
use Rattle.std.proofs.Common.{◌≡◌, ℕ, ◌+◌, ◌<◌, ◌≤◌, ◌^◌, ◌==◌, true, not, cond, List, [], ◌∷◌, ◌++◌, length, take, drop, Some, None, Ok, decimal, refl, ap, ◌∙◌, arith, append_assoc, eq-eqb}
use Rattle.std.specs.List.{list_all, slice_split}
use Rattle.std.proofs.lemmas.Bool.{and_from, and_parts, cond-true}
use Rattle.std.proofs.lemmas.List.{length-append}
use Rattle.std.proofs.lemmas.List.Splits.{length-slice_split}
use Rattle.std.proofs.Math.Seq.{take-append_seam, drop-append_seam}
use Rattle.metering_model.specs.Batch.{lacks}
use Rattle.metering_model.specs.BatchReading.{is_same, lines_in, lines_of_parts, with_line, whole_in}
use Rattle.metering_model.specs.Schedule.{TextLines, AreLines, lines_text, section_text}
use Rattle.metering_model.specs.Transcript.{line, with_number}
use Rattle.metering_model.proofs.FieldBytes.{decimal_is_inner, inner_lacks_feed}
use Rattle.metering_model.proofs.FieldLaws.{whole_written}
use Rattle.metering_model.proofs.Splitting.{cut_first, list_all_both}
use Rattle.input_sections.specs.declared.faults.ScheduleCode.{ScheduleCode}
use Rattle.input_sections.specs.Sections.{Unread, Section, left, lines_left, first_of, first_line, begins_with, section_of, section_in}
use Rattle.input_sections.proofs.SectionLaws.{section_read}
use Rattle.schedule_reader.proofs.LineForms.{left_behind}

-- ---- lines at the front of a text

first_of_parts : (part : List ℕ) (parts : List (List ℕ)) → 0 < length parts → lines_of_parts (part ∷ parts) ≡ with_line part (lines_of_parts parts)
first_of_parts part [] some = absurd (omega arith)
first_of_parts part (next ∷ parts) some = refl

line_in_front : (l t : List ℕ) → lacks 10 l ≡ true → (lines_in (line l ++ t)).lines ≡ l ∷ (lines_in t).lines
line_in_front l t h =
    let some : 0 < length (slice_split (λ (c : ℕ). c == 10) t) = omega (arith, length-slice_split (λ (c : ℕ). c == 10) t) in
    ap (λ x. (lines_in x).lines) (append_assoc l (10 ∷ []) t)
    ∙ ap (λ ps. (lines_of_parts ps).lines) (cut_first 10 l t h)
    ∙ ap (λ x. x.lines) (first_of_parts l (slice_split (λ (c : ℕ). c == 10) t) some)

lines_in_front : (ls : TextLines) (t : List ℕ) → list_all (lacks 10) ls ≡ true → (lines_in (lines_text ls ++ t)).lines ≡ ls ++ (lines_in t).lines
lines_in_front [] t h = refl
lines_in_front (l ∷ ls) t h =
    let both = and_parts (lacks 10 l) (list_all (lacks 10) ls) h in
    ap (λ x. (lines_in x).lines) (append_assoc (line l) (lines_text ls) t)
    ∙ line_in_front l (lines_text ls ++ t) both.0
    ∙ ap (λ xs. l ∷ xs) (lines_in_front ls t both.1)

-- ---- the next line

-- what is left behind a front
behind_front : (u : Unread) (front rest : List ℕ) (n : ℕ) → left u ≡ front ++ rest → n ≡ u.from + length front → drop n u.text ≡ rest
behind_front u front rest n stands long =
    ap (λ k. drop k u.text) long ∙ left_behind u.text u.from (length front) ∙ ap (drop (length front)) stands ∙ drop-append_seam front rest

-- a line at the front is the next one, and what stands behind it is left
pub line_written : (code : ScheduleCode) (u : Unread) (l rest : List ℕ) → lacks 10 l ≡ true → left u ≡ line l ++ rest
    → (v : Unread) × (first_line code u ≡ Ok (l, v)) × (left v ≡ rest)
line_written code u l rest h stands =
    let long : u.from + length l + 1 ≡ u.from + length (line l) = omega (arith, length-append l (10 ∷ [])) in (
      record u { from = u.from + length l + 1; line = u.line + 1 },
      ap (first_of code u) (ap (λ t. (lines_in t).lines) stands ∙ line_in_front l rest h),
      behind_front u (line l) rest (u.from + length l + 1) stands long,
    )

-- ---- a number behind a word

same_itself : (t : List ℕ) → is_same t t ≡ true
same_itself [] = refl
same_itself (c ∷ cs) = and_from _ _ (eq-eqb c c refl) (same_itself cs)

pub begins_written : (word t : List ℕ) → begins_with word (word ++ t) ≡ true
begins_written word t = ap (λ x. is_same x word) (take-append_seam word t) ∙ same_itself word

pub number_written : (word : List ℕ) (low most n : ℕ) → most < 10 ^ 64 → low ≤ n → n ≤ most
    → cond (begins_with word (with_number word n)) (whole_in low most (drop (length word) (with_number word n))) None ≡ Some n
number_written word low most n small above below =
    cond-true (begins_with word (with_number word n)) _ None (begins_written word (decimal n))
    ∙ ap (whole_in low most) (drop-append_seam word (decimal n))
    ∙ whole_written low most n small above below

pub number_lacks_feed : (word : List ℕ) (n : ℕ) → lacks 10 word ≡ true → n < 10 ^ 64 → lacks 10 (with_number word n) ≡ true
number_lacks_feed word n h small =
    list_all_both (λ c. not (c == 10)) word (decimal n) h (inner_lacks_feed (decimal n) (decimal_is_inner n small))

-- ---- a section

-- lines at the front are the section of so many lines, and what stands behind them is left
pub lines_written : (u : Unread) (ls : TextLines) (rest : List ℕ) → list_all (lacks 10) ls ≡ true → left u ≡ lines_text ls ++ rest
    → (length ls ≤ length (lines_left u)) × ((section_of (length ls) u).text ≡ lines_text ls) × (left (section_of (length ls) u).rest ≡ rest)
lines_written u ls rest h stands =
    let are : lines_left u ≡ ls ++ (lines_in rest).lines = ap (λ t. (lines_in t).lines) stands ∙ lines_in_front ls rest h in
    let taken : take (length ls) (lines_left u) ≡ ls = ap (take (length ls)) are ∙ take-append_seam ls (lines_in rest).lines in
    let text = ap lines_text taken in (
      omega (arith, ap length are, length-append ls (lines_in rest).lines),
      text,
      behind_front u (lines_text ls) rest _ stands (ap (λ t. u.from + length t) text),
    )

-- a section at the front is read, and what stands behind it is left
pub section_written : (code : ScheduleCode) (word : List ℕ) (most : ℕ) (u : Unread) (ls : TextLines) (rest : List ℕ) → most < 10 ^ 64 → lacks 10 word ≡ true
    → AreLines most ls → left u ≡ section_text word ls ++ rest
    → (s : Section) × (section_in code word most u ≡ Ok s) × (s.text ≡ lines_text ls) × (left s.rest ≡ rest)
section_written code word most u ls rest small h are stands =
    let n = length ls in
    let apart = stands ∙ append_assoc (line (with_number word n)) (lines_text ls) rest in
    let opening = line_written code u (with_number word n) (lines_text ls ++ rest) (number_lacks_feed word n h (omega (arith, are.at_most))) apart in
    let lines = lines_written opening.0 ls rest are.whole opening.2 in (
      section_of n opening.0,
      section_read code word most u (with_number word n) opening.0 n opening.1 (number_written word 1 most n small are.some are.at_most) lines.0,
      lines.1,
      lines.2,
    )
