use Rattle.std.proofs.Common.{◌≡◌, ◌++◌, ◌∷◌, codes, decimal, map, take}
use Rattle.std.specs.List.{join_with_byte}
use Rattle.node_kept.proofs.writing.put_head.Given as goal

-- The first numbers are put.
abbrev pub invariant-loop-number : goal.invariant-loop-number
invariant-loop-number l = l.text.items ≡ l.fn.text.items ++ join_with_byte 124 (codes "K1" ∷ map decimal (take l.number-index l.numbers))
