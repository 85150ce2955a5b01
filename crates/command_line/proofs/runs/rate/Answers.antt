use Rattle.std.proofs.Common.{◌≡◌, ℕ, List, Option, Err, IfSome, ap, inl, refl}
use Rattle.metering_model.specs.declared.Refusal.{Refusal}
use Rattle.program_input.specs.declared.ScheduleFault.{ScheduleFault}
use Rattle.program_input.specs.declared.faults.PlayFault.{PlayFault}
use Rattle.program_input.specs.declared.faults.PlayFault.TheVariants as play
use Rattle.input_check.specs.RateInput.{rated_file}
use Rattle.command_line.specs.declared.commands.Command.TheVariants.{Rate}
use Rattle.command_line.specs.declared.statuses.Fault.TheVariants.{Play}
use Rattle.command_line.specs.Endings.{status_of}
use Rattle.command_line.proofs.PlayRuns.{comes_to}
use Rattle.command_line.proofs.runs.rate.Goals as goal

abbrev Told : Option (List ℕ) → ℕ → PlayFault → Type 0
Told known period fault = IfSome known (λ input. rated_file period input ≡ Err fault)

-- a fault that ends with 1 is one of the sections or one of the batch
refuses : (period : ℕ) (known : Option (List ℕ)) (fault : PlayFault) → status_of (Play fault) ≡ 1
    → ((refusal : Refusal) → fault ≡ play.Refused refusal → Told known period (play.Refused refusal))
    → ((bad : ScheduleFault) → fault ≡ play.Schedule bad → Told known period (play.Schedule bad))
    → Told known period fault
refuses period known play.Read one batch sections = absurd (cc)
refuses period known play.Write one batch sections = absurd (cc)
refuses period known play.OutOfMemory one batch sections = absurd (cc)
refuses period known (play.Refused refusal) one batch sections = batch refusal refl
refuses period known (play.Schedule bad) one batch sections = sections bad refl

pub returns-in-Err-clause-outcome : goal.returns-in-Err-clause-outcome
returns-in-Err-clause-outcome g c =
    let known = g.R.Source.remaining c.args.reader.now in
    let fault = c.in-Err.fault in
    let told = c.in-Err.ensures in
    comes_to g.W.Sink (Rate c.args.period) fault known _ _ _ _ told.streams.reads told.streams.writes
    (λ no_write no_memory. told.kept no_write)
    (λ one. (fault, refl, refuses _ known fault one (λ refusal is. told.refused refusal (ap Err is)) (λ bad is. (told.section bad (ap Err is)).1)))
    (λ one same. same)
    (λ is. (told.section _ (ap Err is)).0 refl)
    (λ is. inl (told.kept (λ write. absurd (cc))))
    (λ is. told.prefix (ap Err is))
