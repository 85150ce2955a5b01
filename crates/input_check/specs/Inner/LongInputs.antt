-- Of an input that is too long that alone is said, and of nothing it is warned. The proofs stand here and not among the others,
-- since an `impl` of this crate hands them on.
use Rattle.std.proofs.Common.{◌≡◌, ℕ, ◌<◌, false, List, [], ◌∷◌, ◌++◌, length, take, ◌-◌, Option, Result, Ok, Err, codes, ap, arith}
use Rattle.std.specs.Prelude.{nat_le}
use Rattle.std.specs.Fmt.{digits}
use Rattle.std.proofs.lemmas.Bool.Decides.{nat_tests}
use Rattle.metering_model.specs.FirstFailure.{◌>>=◌, holds_or}
use Rattle.metering_model.specs.Limits.{most_input_bytes}
use Rattle.metering_model.specs.Transcript.{line_count}
use Rattle.input_sections.specs.RateInput.{rate_input_in}
use Rattle.input_sections.specs.Sections.{Unread, whole_of}
use Rattle.input_sections.specs.declared.faults.ScheduleCode.TheVariants as codes_of
use Rattle.input_sections.specs.declared.faults.ScheduleFault.TheVariants as section
use Rattle.schedule_reader.specs.Schedules.{group_in, preamble_in, schedule_in}
use Rattle.fault_lines.specs.Ahead.{ahead_of_all}
use Rattle.fault_lines.specs.Checked.{SaysTooLong}
use Rattle.fault_lines.specs.Told.{said_of_fault}
use Rattle.fault_lines.specs.UnknownKeys.{unknown_on}
use Rattle.input_check.specs.Checks.{said_below, said_of_batch, said_of_input_as, said_of_rating, said_of_schedule}
use Rattle.input_check.specs.Inner.Kinds.{kind_by, said_by, warned_by}
use Rattle.input_check.specs.Warnings.{journaled_in_rating, journaled_in_schedule, warned_of_input_as, warned_of_rating, warned_of_schedule}
use Rattle.input_check.specs.declared.kinds.InputKind.{InputKind}
use Rattle.input_check.specs.declared.kinds.InputKind.TheVariants as kind

step_err : {A B E : Type 0} (r : Result A E) (f : A → Result B E) (e : E) → r ≡ Err e → (r >>= f) ≡ Err e
step_err r f e is = ap (λ s. s >>= f) is

too_few : (m n : ℕ) → n < m → nat_le m n ≡ false
too_few m n below = grind (arith, nat_tests)

module _ (text : List ℕ) (long : most_input_bytes < length text) where
  too_long : whole_of text ≡ Err (section.Refused codes_of.TooLong 1)
  too_long =
      ap (λ b. holds_or b (section.Refused codes_of.TooLong 1) >>= λ _. let u : Unread = record { text = text; from = 0; line = 1 } in Ok u)
      (too_few (length text) most_input_bytes long)

  long_preamble : preamble_in text ≡ Err (section.Refused codes_of.TooLong 1)
  unfolding preamble_in group_in
  long_preamble = step_err _ _ _ (step_err (whole_of text) _ _ too_long)

  long_schedule : schedule_in text ≡ Err (section.Refused codes_of.TooLong 1)
  unfolding schedule_in group_in
  long_schedule = step_err _ _ _ (step_err (whole_of text) _ _ too_long)

  long_rating : rate_input_in text ≡ Err (section.Refused codes_of.TooLong 1)
  unfolding rate_input_in
  long_rating = step_err (whole_of text) _ _ too_long

  said_of_long : (k : InputKind) → said_of_input_as k text ≡ codes "line 1: L8" ++ 10 ∷ []
  unfolding said_of_schedule said_of_rating digits
  said_of_long kind.Play = ap (said_below text) long_preamble
  said_of_long kind.Rate =
      ap (λ r. elim r [
        | Ok given ↦ said_of_batch given.sheet given.issuer (line_count (take (length text - length given.batch) text)) given.batch
        | Err fault ↦ said_of_fault text fault
      ]) long_rating

  warned_of_long : (k : InputKind) → warned_of_input_as k text ≡ []
  unfolding warned_of_schedule warned_of_rating
  warned_of_long kind.Play =
      ap (λ r. elim r [ Ok s ↦ unknown_on 4 text ++ ahead_of_all [] (journaled_in_schedule text s) | Err fault ↦ [] ]) long_schedule
  warned_of_long kind.Rate =
      ap (λ r. elim r [ Ok given ↦ unknown_on 1 text ++ ahead_of_all [] (journaled_in_rating text given) | Err fault ↦ [] ]) long_rating

long_said_as : (k : InputKind) → SaysTooLong (said_of_input_as k) (warned_of_input_as k)
long_said_as k text long = (said_of_long text long k, warned_of_long text long k)

pub long_said_by : (given : Option InputKind) → SaysTooLong (said_by given) (warned_by given)
long_said_by given text long = long_said_as (kind_by given text) text long
