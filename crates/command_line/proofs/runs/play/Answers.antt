use Rattle.std.proofs.Common.{◌≡◌, ◌≢◌, ℕ, List, Option, Err, IfSome, ap, inr, refl}
use Rattle.metering_model.specs.declared.Refusal.{Refusal}
use Rattle.program_input.specs.declared.ScheduleFault.{ScheduleFault}
use Rattle.input_check.specs.Schedules.{schedule_in}
use Rattle.program_input.specs.declared.faults.PlayFault.{PlayFault}
use Rattle.program_input.specs.declared.faults.PlayFault.TheVariants as play
use Rattle.command_line.specs.declared.commands.Command.TheVariants.{Play as PlaySchedule}
use Rattle.command_line.specs.declared.statuses.Fault.TheVariants.{Play}
use Rattle.command_line.specs.Endings.{status_of}
use Rattle.command_line.specs.Runs.{Refuses}
use Rattle.command_line.proofs.PlayRuns.{comes_to}
use Rattle.command_line.proofs.runs.play.Goals as goal

refuses : (known : Option (List ℕ)) (fault : PlayFault) → status_of (Play fault) ≡ 1
    → ((refusal : Refusal) → fault ≢ play.Refused refusal)
    → ((bad : ScheduleFault) → fault ≡ play.Schedule bad → IfSome known (λ input. schedule_in input ≡ Err bad))
    → Refuses PlaySchedule known (Play fault)
refuses known play.Read one batch sections = absurd (cc)
refuses known play.Write one batch sections = absurd (cc)
refuses known play.OutOfMemory one batch sections = absurd (cc)
refuses known (play.Refused refusal) one batch sections = absurd (batch refusal refl)
refuses known (play.Schedule bad) one batch sections = (bad, refl, sections bad refl)

pub returns-in-Err-clause-outcome : goal.returns-in-Err-clause-outcome
returns-in-Err-clause-outcome g c =
    let known = g.R.Source.remaining c.args.reader.now in
    let fault = c.in-Err.fault in
    let told = c.in-Err.ensures in
    comes_to g.W.Sink PlaySchedule fault known _ _ _ _ told.streams.reads told.streams.writes told.kept
    (λ one. refuses known fault one (λ refusal is. told.faults.unrefused refusal (ap Err is)) (λ bad is. told.faults.section bad (ap Err is)))
    (λ one same. same)
    (λ is. told.faults.plain_memory (ap Err is))
    (λ is. inr (refl, told.memory (ap Err is)))
    (λ is. told.prefix (ap Err is))
