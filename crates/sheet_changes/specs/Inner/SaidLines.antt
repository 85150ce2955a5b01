-- What is said of two sheets has a line or is nothing, and of an input that is too long one line alone is said.
use Rattle.std.specs.Prelude.{◌≡◌, ℕ, ◌<◌, ◌==◌, List, [], ◌++◌, length, Result, Ok, Err, codes}
use Rattle.std.specs.Fmt.{digits}
use Rattle.std.proofs.Common.{refl, sym, ap, ◌∙◌, cond}
use Rattle.std.proofs.Math.Nat.{suc-ne-zero}
use Rattle.std.proofs.Math.Numerals.{add-one}
use Rattle.std.proofs.lemmas.List.Sums.{sum_by_push}
use Rattle.metering_model.specs.FirstFailure.{◌>>=◌, holds_or}
use Rattle.metering_model.specs.Limits.{most_input_bytes}
use Rattle.metering_model.specs.Sheet.{Sheet}
use Rattle.metering_model.specs.Transcript.{line_count, with_number}
use Rattle.fault_lines.specs.Checked.{SaysLines, SaysTooLong}
use Rattle.fault_lines.specs.Told.{said_of_fault, told_at}
use Rattle.input_sections.specs.declared.faults.ScheduleCode.TheVariants as code
use Rattle.input_sections.specs.declared.faults.ScheduleFault.{ScheduleFault}
use Rattle.input_sections.specs.declared.faults.ScheduleFault.TheVariants.{OutOfMemory, Refused}
use Rattle.input_sections.specs.Sections.{Unread, sheet_section, whole_of}
use Rattle.program_input.proofs.FaultLaws.{first_fails, is_longer}
use Rattle.sheet_changes.specs.Changes.{two_sheets_in}
use Rattle.sheet_changes.specs.Checks.{beginnings_in, said_of, said_of_two_sheets, warned_of, warned_of_two_sheets}

-- ---- one of them is refused

module _ (text : List ℕ) (fault : ScheduleFault) (is : two_sheets_in text ≡ Err fault) where
  pub fault_said : said_of_two_sheets text ≡ said_of_fault text fault
  unfolding said_of_two_sheets
  fault_said = ap (said_of text) is

  pub none_warned : warned_of_two_sheets text ≡ []
  unfolding warned_of_two_sheets beginnings_in
  none_warned = by_whole (whole_of text)
    where
      by_first : (u : Unread) (r : Result (Sheet × Unread) ScheduleFault) → warned_of (r >>= λ old. two_sheets_in text >>= λ both. Ok (u, old.1)) ≡ []
      by_first u (Ok old) = ap (λ (r : Result (Sheet × Sheet) ScheduleFault). warned_of (r >>= λ both. Ok (u, old.1))) is
      by_first u (Err other) = refl

      by_whole : (r : Result Unread ScheduleFault) → warned_of (r >>= λ u. sheet_section u >>= λ old. two_sheets_in text >>= λ both. Ok (u, old.1)) ≡ []
      by_whole (Ok u) = by_first u (sheet_section u)
      by_whole (Err other) = refl

-- ---- what is said has a line

some_line : (n : ℕ) (words : List ℕ) → line_count (told_at n words) ≡ 0 → told_at n words ≡ []
some_line n words none =
    let told = with_number (codes "line ") n ++ codes ": " ++ words in
    absurd (suc-ne-zero (line_count told) (sym (add-one (line_count told)) ∙ (sym (sum_by_push (λ c. cond (c == 10) 1 0) told 10) ∙ none)))

pub none_said : SaysLines said_of_two_sheets
unfolding said_of_two_sheets
none_said text none = by_both (two_sheets_in text) none
  where
    by_both : (r : Result (Sheet × Sheet) ScheduleFault) → line_count (said_of text r) ≡ 0 → said_of text r ≡ []
    by_both (Ok both) is = refl
    by_both (Err (Refused why n)) is = some_line n _ is
    by_both (Err OutOfMemory) is = refl

-- ---- an input that is too long

pub too_long : (text : List ℕ) (fault : ScheduleFault) → most_input_bytes < length text → fault ≡ Refused code.TooLong 1 → two_sheets_in text ≡ Err fault
unfolding two_sheets_in
too_long text fault longer is =
    first_fails (whole_of text) _ fault (ap (λ b. holds_or b (Refused code.TooLong 1) >>= λ (_ : Unit {0}). Ok (record { text = text; from = 0; line = 1 })) (is_longer (length text) most_input_bytes longer) ∙ ap Err (sym is))

pub long_said : SaysTooLong said_of_two_sheets warned_of_two_sheets
unfolding digits
long_said text long =
    let is = too_long text (Refused code.TooLong 1) long refl in
    (fault_said text (Refused code.TooLong 1) is, none_warned text (Refused code.TooLong 1) is)
