-- The digits so far are digits, and the number is theirs.
use Rattle.std.proofs.Common.{◌≡◌, ◌^◌, ◌<◌, true, take}
use Rattle.std.specs.List.{list_all}
use Rattle.metering_model.specs.NumberText.{is_digit, number_of}
use Rattle.utc_calendar.proofs.digits.number.Given as goal

abbrev pub invariant-loop-digit : goal.invariant-loop-digit
invariant-loop-digit l = record {
  are_digits : list_all is_digit (take l.digit-index l.digits) ≡ true;
  number_is : l.number ≡ number_of (take l.digit-index l.digits);
  below : l.number < 10 ^ l.digit-index;
}
