-- A section is read where its opening line, its number and its lines are.
use Rattle.std.proofs.Common.{◌≡◌, ℕ, ◌-◌, ◌≤◌, ◌<◌, List, length, take, Some, Result, Ok, Err, MatchResult, refl, sym, ap, ap₂, ◌∙◌, arith, leb, le-leb}
use Rattle.metering_model.specs.Schedule.{lines_text}
use Rattle.metering_model.proofs.StepLaws.{ok_step_from, some_step_from, test_step_from}
use Rattle.std.proofs.lemmas.Bool.{lt-leb}
use Rattle.metering_model.specs.FirstFailure.{◌>>=◌, holds_or}
use Rattle.input_sections.specs.declared.faults.ScheduleCode.{ScheduleCode}
use Rattle.input_sections.specs.declared.faults.ScheduleCode.TheVariants.{Lines}
use Rattle.input_sections.specs.declared.faults.ScheduleFault.{ScheduleFault}
use Rattle.input_sections.specs.declared.faults.ScheduleFault.TheVariants.{Refused}
use Rattle.input_sections.specs.Sections.{Section, Unread, left, lines_left, first_line, number_behind, section_of, section_in}
use Rattle.byte_text.proofs.PastLines.{text_of_front}

pub section_read : (code : ScheduleCode) (word : List ℕ) (most : ℕ) (u : Unread) (opening : List ℕ) (below : Unread) (n : ℕ)
    → first_line code u ≡ Ok (opening, below) → number_behind word most opening ≡ Some n → n ≤ length (lines_left below)
    → section_in code word most u ≡ Ok (section_of n below)
unfolding section_in
section_read code word most u opening below n first number enough =
    ok_step_from (first_line code u) _ (opening, below) _ first
    (some_step_from (number_behind word most opening) _ _ n _ number
    (test_step_from _ _ _ _ (le-leb n (length (lines_left below)) enough) refl))

-- its text stands before what is left behind it
pub section_is : (n : ℕ) (below rest : Unread) (to from : ℕ) → rest ≡ (section_of n below).rest → to ≡ rest.from → from ≡ below.from
    → ◌≡◌ (section_of n below) (record { text = take (to - from) (left below); rest = rest })
section_is n below rest to from behind to_is from_is =
    let text = lines_text (take n (lines_left below)) in
    let long : length text ≡ to - from = omega (arith, ap (λ u. u.from) behind, to_is, from_is) in
    ap₂ (λ t r. record { text = t; rest = r }) (sym (text_of_front n (left below)) ∙ ap (λ k. take k (left below)) long) (sym behind)

-- ---- where its lines are too few

pub test_fails_from : {B E : Type 0} (n m : ℕ) (e : E) (f : Unit {0} → Result B E) → m < n → (holds_or (leb n m) e >>= f) ≡ Err e
test_fails_from n m e f less = ap (λ b. holds_or b e >>= f) (lt-leb n m less)

section_missing : (code : ScheduleCode) (word : List ℕ) (most : ℕ) (u : Unread) (opening : List ℕ) (below : Unread) (n : ℕ)
    → first_line code u ≡ Ok (opening, below) → number_behind word most opening ≡ Some n → length (lines_left below) < n
    → section_in code word most u ≡ Err (Refused Lines u.line)
unfolding section_in
section_missing code word most u opening below n first number less =
    ok_step_from (first_line code u) _ (opening, below) _ first
    (some_step_from (number_behind word most opening) _ _ n _ number
    (test_fails_from n (length (lines_left below)) _ _ less))

-- what comes of the lines below an opening line is what comes of the section
pub section_opened : {A : Type 0} (of : A → Section) (code : ScheduleCode) (word : List ℕ) (most : ℕ) (u : Unread) (opening : List ℕ) (below : Unread) (n line : ℕ) (r : Result A ScheduleFault)
    → line ≡ u.line → first_line code u ≡ Ok (opening, below) → number_behind word most opening ≡ Some n
    → MatchResult r (λ s. (n ≤ length (lines_left below)) × (section_of n below ≡ of s)) (λ fault. (length (lines_left below) < n) × (fault ≡ Refused Lines line))
    → MatchResult r (λ s. section_in code word most u ≡ Ok (of s)) (λ fault. section_in code word most u ≡ Err fault)
section_opened of code word most u opening below n line (Ok s) same first number is = section_read code word most u opening below n first number is.0 ∙ ap Ok is.1
section_opened of code word most u opening below n line (Err fault) same first number is =
    section_missing code word most u opening below n first number is.0 ∙ ap Err (ap (Refused Lines) (sym same) ∙ sym is.1)
