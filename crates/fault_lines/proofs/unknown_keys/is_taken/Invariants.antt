use Rattle.std.proofs.Common.{◌≡◌, drop}
use Rattle.std.specs.List.{list_any}
use Rattle.metering_model.specs.BatchReading.{is_same}
use Rattle.sheet_text.specs.Names.{key_name}
use Rattle.fault_lines.proofs.unknown_keys.is_taken.Given as goal

abbrev pub invariant-loop-key : goal.invariant-loop-key
invariant-loop-key l = list_any (λ k. is_same l.name (key_name k)) (drop l.key-index l.taken) ≡ list_any (λ k. is_same l.name (key_name k)) l.taken
