use Rattle.std.proofs.Common.{◌≡◌, ◌++◌, drop}
use Rattle.std.specs.List.{flat_map}
use Rattle.fault_lines.specs.UnknownKeys.{told_unknown}
use Rattle.fault_lines.proofs.key_lines.put_each.Given as goal

abbrev pub invariant-loop-key : goal.invariant-loop-key
invariant-loop-key l =
    l.told.items ++ flat_map (told_unknown l.line) (drop l.key-index l.keys) ≡ l.fn.told.items ++ flat_map (told_unknown l.line) l.keys
