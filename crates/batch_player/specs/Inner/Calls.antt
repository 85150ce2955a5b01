-- Which calls of reader and writer failed.
use Rattle.std.specs.Prelude.{◌≡◌, ◌≢◌, ℕ, Result, Err}
use Rattle.counted_io.specs.Counts.{count_after}
use Rattle.program_input.specs.declared.faults.PlayFault.{PlayFault}
use Rattle.program_input.specs.declared.faults.PlayFault.TheVariants.{Read}
use Rattle.program_input.specs.Faults.{tells_of_writer}

-- Of all calls just a write failed, if the answer tells of one, and else none.
pub record FailsAtWrites (answer : Result (Unit {0}) PlayFault) (before after : ℕ) : Type 0 where
  pub writes : after ≡ count_after (tells_of_writer answer) before
  pub no_read : answer ≢ Err Read
