-- What `sheets` comes to at a fault, and where the two are unlike.
use Rattle.std.proofs.Common.{◌≡◌, ◌≢◌, ◌∙◌, sym, ap, ℕ, List, Option, Result, Err, IfSome, inl, inr, refl, arith}
use Rattle.std.specs.Io.KnownBytes.{Appends}
use Rattle.counted_io.specs.Counts.{count_after}
use Rattle.counted_io.specs.declared.writing.Sink.{Ghosts as SinkOf}
use Rattle.program_input.specs.declared.faults.PlayFault.{PlayFault}
use Rattle.program_input.specs.declared.faults.PlayFault.TheVariants as play
use Rattle.program_input.specs.declared.ScheduleFault.TheVariants as section
use Rattle.program_input.specs.Faults.{tells_of_reader, tells_of_writer}
use Rattle.metering_model.specs.declared.Refusal.{Refusal}
use Rattle.program_input.specs.declared.ScheduleFault.{ScheduleFault}
use Rattle.metering_model.specs.Sheet.{Sheet}
use Rattle.sheet_changes.specs.Changes.{IsSaidOf as AreSheetsOf, StaysBefore, two_sheets_in}
use Rattle.sheet_changes.specs.Faults.{of_input}
use Rattle.sheet_changes.specs.declared.changes.Asked.{Asked}
use Rattle.sheet_changes.specs.declared.faults.SheetsFault.{SheetsFault}
use Rattle.sheet_changes.specs.declared.faults.SheetsFault.TheVariants as compared
use Rattle.command_line.specs.Inner.Faults.{fault_of_sheets}
use Rattle.command_line.specs.declared.commands.Command.TheVariants.{Sheets as CompareSheets}
use Rattle.command_line.specs.declared.statuses.Fault.TheVariants.{Play, Unlike}
use Rattle.command_line.specs.Endings.{status_of}
use Rattle.command_line.specs.Runs.{IsDoneInPart, Refuses, Says}
use Rattle.command_line.specs.Inner.Outcomes.{ComesTo}
use Rattle.command_line.proofs.PlayRuns.{comes_to}

-- not all stays, and what is said of the sheets was written
unlike_comes_to : {W : Type 0} (sink : SinkOf W) (asked : Asked) (known : Option (List ℕ)) (reads reads' : ℕ) (writer writer' : W)
    → reads' ≡ reads → sink.failed_calls writer' ≡ sink.failed_calls writer
    → Says (CompareSheets asked) Unlike known (sink.contents writer) (sink.contents writer')
    → ComesTo sink (CompareSheets asked) Unlike known reads reads' writer writer'
unlike_comes_to sink asked known reads reads' writer writer' read wrote said = record {
  understood = λ two. absurd (omega (arith, two));
  refused = λ one. inr said;
  device = λ three. absurd (omega (arith, three));
  calm = λ other. (read, wrote);
  unwritten = λ not_3 not_4. inr said;
  part = λ four. absurd (omega (arith, four));
}

abbrev pub not_compared : SheetsFault → Result (Unit {0}) SheetsFault
not_compared fault = Err fault

-- the sections are refused, and no batch is
sheets_refused : (asked : Asked) (known : Option (List ℕ)) (fault : PlayFault) → status_of (Play fault) ≡ 1 → ((refusal : Refusal) → fault ≢ play.Refused refusal)
    → ((bad : ScheduleFault) → fault ≡ play.Schedule bad → IfSome known (λ input. two_sheets_in input ≡ Err bad)) → Refuses (CompareSheets asked) known (Play fault)
sheets_refused asked known play.Read one batch bad = absurd (cc)
sheets_refused asked known play.Write one batch bad = absurd (cc)
sheets_refused asked known play.OutOfMemory one batch bad = absurd (cc)
sheets_refused asked known (play.Refused refusal) one batch bad = absurd (batch refusal refl)
sheets_refused asked known (play.Schedule fault) one batch bad = (fault, refl, bad fault refl)

pub sheets_come_to : {W : Type 0} (sink : SinkOf W) (asked : Asked) (fault : SheetsFault) (known : Option (List ℕ)) (reads reads' : ℕ) (writer writer' : W)
    → reads' ≡ count_after (tells_of_reader (of_input tt (not_compared fault))) reads
    → sink.failed_calls writer' ≡ count_after (tells_of_writer (of_input tt (not_compared fault))) (sink.failed_calls writer)
    → (fault ≢ compared.Unlike → fault ≢ compared.Input play.Write → writer' ≡ writer)
    → (fault ≡ compared.Unlike → (old new : Sheet) × (text : List ℕ) × AreSheetsOf known asked.all old new text × (¬ StaysBefore asked.before old new) × Appends (sink.contents writer) (sink.contents writer') text)
    → ((bad : ScheduleFault) → fault ≡ compared.Input (play.Schedule bad) → IfSome known (λ input. two_sheets_in input ≡ Err bad))
    → ((refusal : Refusal) → fault ≢ compared.Input (play.Refused refusal))
    → fault ≢ compared.Input (play.Schedule section.OutOfMemory)
    → (fault ≡ compared.Input play.Write → IsDoneInPart (CompareSheets asked) known (sink.contents writer) (sink.contents writer'))
    → ComesTo sink (CompareSheets asked) (fault_of_sheets fault) known reads reads' writer writer'
sheets_come_to sink asked compared.Unlike known reads reads' writer writer' read wrote same unlike bad batch plain cut =
    let said = unlike refl in
    unlike_comes_to sink asked known reads reads' writer writer' read wrote (said.0, said.1, said.2, said.3, said.4, refl, said.5)
sheets_come_to sink asked (compared.Input fault) known reads reads' writer writer' read wrote same unlike bad batch plain cut =
    comes_to sink (CompareSheets asked) fault known reads reads' writer writer' read wrote
    (λ no_write no_memory. same (λ is. absurd (cc)) (λ is. no_write (same_input fault play.Write is)))
    (λ one. sheets_refused asked known fault one (λ refusal is. batch refusal (ap compared.Input is)) (λ it is. bad it (ap compared.Input is)))
    (λ one kept. kept) (λ is. plain (ap compared.Input is)) (λ is. inl (same (λ unlike. absurd (cc)) (λ input. absurd (other_input fault is input))))
    (λ is. cut (ap compared.Input is))
  where
    same_input : (one other : PlayFault) → compared.Input one ≡ compared.Input other → one ≡ other
    same_input one other is = cc

    other_input : (one : PlayFault) → one ≡ play.OutOfMemory → compared.Input one ≡ compared.Input play.Write → ⊥
    other_input one is input = let bad : play.OutOfMemory ≡ play.Write = sym is ∙ same_input one play.Write input in absurd (cc)
