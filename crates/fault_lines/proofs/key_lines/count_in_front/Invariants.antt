use Rattle.std.proofs.Common.{◌≡◌, ◌+◌, not, drop}
use Rattle.std.specs.List.{position_or_len}
use Rattle.fault_lines.specs.Inner.KeyKinds.{is_of_kind}
use Rattle.fault_lines.proofs.key_lines.count_in_front.Given as goal

abbrev pub invariant-loop-index : goal.invariant-loop-index
invariant-loop-index l =
    position_or_len (λ c. not (is_of_kind l.kind c)) l.line ≡ l.index + position_or_len (λ c. not (is_of_kind l.kind c)) (drop l.index l.line)
