-- Lines of a text, taken one by one from a place on.
use Rattle.std.proofs.Common.{◌≡◌, ℕ, ◌+◌, ◌<◌, ◌≤◌, ◌==◌, Bool, true, false, List, length, take, Some, None, Ok, Err, refl, ap, ◌∙◌, arith, length-take}
use Rattle.std.specs.List.{position}
use Rattle.std.proofs.lemmas.List.{length-take-le}
use Rattle.metering_model.proofs.FieldLaws.{same_read}
use Rattle.byte_text.proofs.LineLemmas.{lines_at_feed, lines_without_feed}
use Rattle.input_sections.specs.declared.faults.ScheduleCode.{ScheduleCode}
use Rattle.input_sections.specs.declared.faults.ScheduleFault.TheVariants.{Refused}
use Rattle.input_sections.specs.Sections.{Unread, begins_with, left, first_of, first_line, code_of_end}

-- ---- the next line

pub first_none : (code : ScheduleCode) (u : Unread) → position (λ c. c == 10) (left u) ≡ None
    → first_line code u ≡ Err (Refused (code_of_end code (left u)) u.line)
first_none code u none = ap (λ ls. first_of code u ls.lines) (lines_without_feed (left u) none)

pub first_some : (code : ScheduleCode) (u : Unread) (i : ℕ) → position (λ c. c == 10) (left u) ≡ Some i
    → first_line code u ≡ Ok (take i (left u), record u { from = u.from + i + 1; line = u.line + 1 })
first_some code u i found =
    let feed = lines_at_feed (left u) i found in
    let long : length (take i (left u)) ≡ i = length-take-le i (left u) (omega (arith, feed.0)) in
    ap (λ ls. first_of code u ls.lines) feed.1
    ∙ ap (λ n. Ok (take i (left u), record u { from = u.from + n + 1; line = u.line + 1 })) long

-- ---- words at the front

pub begins_long : (word text : List ℕ) → begins_with word text ≡ true → length word ≤ length text
begins_long word text begins =
    let same = ap length (same_read (take (length word) text) word begins) in
    omega (arith, same, length-take (length word) text)

pub begins_short : (word text : List ℕ) → length text < length word → begins_with word text ≡ false
begins_short word text short = cases (begins_with word text) refl
  where
    cases : (b : Bool) → begins_with word text ≡ b → begins_with word text ≡ false
    cases true e = absurd (omega (arith, begins_long word text e, short))
    cases false e = e
