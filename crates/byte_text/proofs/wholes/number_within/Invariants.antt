-- The number so far is that of the digits so far, and within the limit.
use Rattle.std.proofs.Common.{◌≡◌, ◌≤◌, take}
use Rattle.metering_model.specs.NumberText.{number_of}
use Rattle.byte_text.proofs.wholes.number_within.Given as goal

abbrev pub invariant-loop-digit : goal.invariant-loop-digit
invariant-loop-digit l = record {
  so_far : l.number ≡ number_of (take l.digit-index l.digits);
  within : l.number ≤ l.limit;
}
