-- What a fault tells of the call that failed.
use Rattle.std.proofs.Common.{◌≡◌, ◌⊎◌, ℕ, List}
use Rattle.counted_io.specs.Counts.{next_count}
use Rattle.program_input.specs.declared.faults.PlayFault.TheVariants as play
use Rattle.command_line.specs.declared.statuses.Fault.TheVariants.{Play}
use Rattle.command_line.specs.Endings.{ending_line}

-- one call failed, of the reader or of the writer, and the line tells of which
abbrev pub IsDevice : (Same Part : Type 0) → (line : List ℕ) → (reads reads' writes writes' : ℕ) → Type 0
IsDevice Same Part line reads reads' writes writes' =
    ((line ≡ ending_line (Play play.Read)) × (reads' ≡ next_count reads) × (writes' ≡ writes) × Same)
    ⊎ ((line ≡ ending_line (Play play.Write)) × (writes' ≡ next_count writes) × (reads' ≡ reads) × Part)
