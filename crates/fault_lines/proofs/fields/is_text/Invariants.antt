use Rattle.std.proofs.Common.{◌≡◌, drop}
use Rattle.metering_model.specs.Batch.{is_text}
use Rattle.fault_lines.proofs.fields.is_text.Given as goal

abbrev pub invariant-loop-byte : goal.invariant-loop-byte
invariant-loop-byte l = is_text (drop l.byte-index l.text) ≡ is_text l.text
