use Rattle.std.proofs.Common.{◌≡◌, ◌++◌, codes, drop, map}
use Rattle.fault_lines.specs.UnknownKeys.{shown}
use Rattle.fault_lines.proofs.key_lines.put_name.Given as goal

abbrev pub invariant-loop-byte : goal.invariant-loop-byte
invariant-loop-byte l = l.told.items ++ map shown (drop l.byte-index l.name) ≡ l.fn.told.items ++ (codes "unknown " ++ map shown l.name)
