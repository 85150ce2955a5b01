-- What an input comes to: first its sections, and then its batch.
use Rattle.std.proofs.Common.{◌≡◌, ◌≢◌, ℕ, ◌<◌, List, length, Option, Some, None, Result, Ok, Err, OnOk, IfSome, refl, sym, ap, ◌∙◌}
use Rattle.metering_model.specs.FirstFailure.{◌>>=◌, holds_or}
use Rattle.metering_model.specs.SheetRules.{IsSheet, IsIssuer}
use Rattle.input_sections.specs.declared.faults.ScheduleCode.TheVariants.{TooLong}
use Rattle.input_sections.specs.declared.faults.ScheduleFault.{ScheduleFault}
use Rattle.input_sections.specs.declared.faults.ScheduleFault.TheVariants as faults
use Rattle.input_sections.specs.Sections.{Unread, whole_of}
use Rattle.input_sections.specs.RateInput.{RateInput, rate_input_in}
use Rattle.program_input.specs.declared.faults.PlayFault.{PlayFault}
use Rattle.program_input.specs.declared.faults.PlayFault.TheVariants.{Schedule}
use Rattle.metering_model.specs.RatedAlone.{file_by}
use Rattle.batch_player.specs.RateInput.{or_schedule, or_refused, rated_file}
use Rattle.program_input.specs.Faults.{of_sections}
use Rattle.program_input.proofs.FaultLaws.{first_fails, is_longer, same_section}
use Rattle.batch_player.specs.Charges.{IsFileOf}
use Rattle.batch_player.proofs.ChargesLaws.{bills_batch}

pub rated_badly : (period : ℕ) (input : List ℕ) (fault : ScheduleFault) → rate_input_in input ≡ Err fault → rated_file period input ≡ Err (Schedule fault)
unfolding rated_file
rated_badly period input fault is = first_fails (or_schedule (rate_input_in input)) _ (Schedule fault) (ap or_schedule is)

pub rated_well : (period : ℕ) (input : List ℕ) (given : RateInput) → rate_input_in input ≡ Ok given
    → rated_file period input ≡ or_refused (file_by given.sheet given.issuer period given.batch)
unfolding rated_file
rated_well period input given is = ap (λ r. or_schedule r >>= λ (g : RateInput). or_refused (file_by g.sheet g.issuer period g.batch)) is

pub too_long : (period : ℕ) (input : List ℕ) → 16_777_216 < length input → rated_file period input ≡ Err (Schedule (faults.Refused TooLong 1))
unfolding rate_input_in
too_long period input longer =
    let fault = faults.Refused TooLong 1 in
    let u : Unread = record { text = input; from = 0; line = 1 } in
    let whole : whole_of input ≡ Err fault = ap (λ t. holds_or t fault >>= λ (x : Unit {0}). Ok u) (is_longer (length input) 16_777_216 longer) in
    rated_badly period input fault (first_fails (whole_of input) _ fault whole)

-- ---- answers

-- more bytes than an input may have, if they are known
pub longer_known : (known : Option (List ℕ)) (fault : ScheduleFault) → IfSome known (λ bytes. 16_777_216 < length bytes) → faults.Refused TooLong 1 ≡ fault
    → IfSome known (λ input. (period : ℕ) → rated_file period input ≡ Err (Schedule fault))
longer_known None fault longer is = tt
longer_known (Some bytes) fault longer is = λ period. too_long period bytes longer ∙ ap (λ f. Err (Schedule f)) is

-- what holds in each period holds in this one
pub at_period : (known : Option (List ℕ)) (period : ℕ) (fault : PlayFault) → IfSome known (λ input. (p : ℕ) → rated_file p input ≡ Err fault)
    → IfSome known (λ input. rated_file period input ≡ Err fault)
at_period None period fault told = tt
at_period (Some input) period fault told = told period

-- a fault of the sections that is told is theirs, and no want of memory
pub told_plain : (fault told : ScheduleFault) → of_sections fault ≡ Schedule told → (told ≡ fault) × (fault ≢ faults.OutOfMemory)
told_plain (faults.Refused code line) told is = (sym (same_section {T = Unit {0}} (faults.Refused code line) told (ap Err is)), λ memory. absurd (cc))
told_plain faults.OutOfMemory told is = absurd (cc)

module _ (period : ℕ) (input : List ℕ) (given : RateInput) (is : rate_input_in input ≡ Ok given) (limits : IsSheet given.sheet) (names : IsIssuer given.issuer) where
  -- the file of the batch is that of the input
  file_of_input : (text : List ℕ) → file_by given.sheet given.issuer period given.batch ≡ Ok text → IsFileOf (Some input) period input text
  file_of_input text filed = record {
    is_input = refl;
    rated = rated_well period input given is ∙ ap or_refused filed;
    given = given;
    is_given = is;
    bills = bills_batch given.sheet given.issuer period limits names given.batch text filed;
  }

  pub filed_input : {T E : Type 0} (r : Result T E) (Written : List ℕ → Type 0)
      → OnOk r ((text : List ℕ) × (file_by given.sheet given.issuer period given.batch ≡ Ok text) × Written text)
      → OnOk r ((text : List ℕ) × IsFileOf (Some input) period input text × Written text)
  filed_input (Ok x) Written filed = (filed.0, file_of_input filed.0 filed.1, filed.2)
  filed_input (Err e) Written filed = tt

  pub prefix_of_input : (Written : List ℕ → Type 0)
      → (text : List ℕ) × (file_by given.sheet given.issuer period given.batch ≡ Ok text) × Written text
      → (text : List ℕ) × IsFileOf (Some input) period input text × Written text
  prefix_of_input Written filed = (filed.0, file_of_input filed.0 filed.1, filed.2)
