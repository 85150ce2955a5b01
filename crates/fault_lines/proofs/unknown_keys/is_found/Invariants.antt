use Rattle.std.proofs.Common.{◌≡◌, drop}
use Rattle.std.specs.List.{list_any}
use Rattle.fault_lines.specs.UnknownKeys.{is_key}
use Rattle.fault_lines.proofs.unknown_keys.is_found.Given as goal

abbrev pub invariant-loop-key : goal.invariant-loop-key
invariant-loop-key l = list_any (is_key l.table l.name) (drop l.key-index l.found) ≡ list_any (is_key l.table l.name) l.found
