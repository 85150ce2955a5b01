-- Which calls fail while a batch that was handed in is rated.
use Rattle.std.specs.Prelude.{◌≡◌, ◌≢◌, ℕ, Result, Err}
use Rattle.counted_io.specs.Counts.{count_after}
use Rattle.input_sections.specs.declared.faults.ScheduleFault.{ScheduleFault}
use Rattle.program_input.specs.declared.faults.PlayFault.{PlayFault}
use Rattle.program_input.specs.declared.faults.PlayFault.TheVariants.{Read, Schedule}
use Rattle.program_input.specs.Faults.{tells_of_writer}

-- Of all calls just a write failed, where the answer tells of one. It tells of no reader and of no section, since nothing is
-- read.
pub record WritesAlone {A : Type 0} (answer : Result A PlayFault) (failed failed' : ℕ) : Type 0 where
  pub writes : failed' ≡ count_after (tells_of_writer answer) failed
  pub no_read : answer ≢ Err Read
  pub no_section : (fault : ScheduleFault) → answer ≢ Err (Schedule fault)
