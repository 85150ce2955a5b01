use Rattle.std.proofs.Common.{◌≡◌, ◌+◌, length}
use Rattle.metering_model.specs.BatchReading.{fields_in}
use Rattle.packet_text.proofs.numbers.count_fields.Given as goal

-- The first fields are counted, and the others are left.
abbrev pub invariant-loop-count : goal.invariant-loop-count
invariant-loop-count l = length (fields_in l.fields) ≡ l.count + length (fields_in l.rest)
