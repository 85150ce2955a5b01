use Rattle.std.proofs.Common.{◌≡◌, ℕ, List, Option, Err, IfSome, ap, refl}
use Rattle.period_file.specs.declared.faults.FileFault.{FileFault}
use Rattle.period_file.specs.declared.faults.FileFault.TheVariants as file
use Rattle.period_file.specs.Files.{IsRefusal, file_in}
use Rattle.command_line.specs.declared.commands.Command.TheVariants.{File as CutFile}
use Rattle.command_line.specs.declared.statuses.Fault.TheVariants.{File}
use Rattle.command_line.specs.Endings.{status_of}
use Rattle.command_line.specs.Runs.{Refuses}
use Rattle.command_line.proofs.FileRuns.{file_comes_to}
use Rattle.command_line.proofs.runs.file.Goals as goal

-- a fault that ends with 1 is one of the input
refuses : (period : ℕ) (known : Option (List ℕ)) (fault : FileFault) → status_of (File fault) ≡ 1
    → (IsRefusal fault → IfSome known (λ input. file_in period input ≡ Err fault)) → Refuses (CutFile period) known (File fault)
refuses period known file.NoFile one told = (file.NoFile, refl, told tt)
refuses period known file.Torn one told = (file.Torn, refl, told tt)
refuses period known file.TooLong one told = (file.TooLong, refl, told tt)
refuses period known file.Read one told = absurd (cc)
refuses period known file.Write one told = absurd (cc)
refuses period known file.OutOfMemory one told = absurd (cc)

pub returns-in-Err-clause-outcome : goal.returns-in-Err-clause-outcome
returns-in-Err-clause-outcome g c =
    let known = g.R.Source.remaining c.args.reader.now in
    let fault = c.in-Err.fault in
    let told = c.in-Err.ensures in
    file_comes_to g.W.Sink c.args.period fault known _ _ _ _ told.streams.reads told.streams.writes
    (λ is. told.none (ap Err is)) (λ is. told.stopped.torn (ap Err is)) told.stopped.prefix (λ is. told.stopped.less (ap Err is))
    (λ one. refuses c.args.period known fault one told.refused)
