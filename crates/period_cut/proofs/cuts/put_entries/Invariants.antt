use Rattle.std.proofs.Common.{◌≡◌, ◌+◌, ◌++◌, decimal, map, take}
use Rattle.std.specs.List.{join_with_byte}
use Rattle.period_cut.proofs.cuts.put_entries.Given as goal

-- The first sequences are put.
abbrev pub invariant-loop-seq : goal.invariant-loop-seq
invariant-loop-seq l = l.text.items ≡ l.fn.text.items ++ join_with_byte 124 (map decimal (take (l.seq-index + 1) l.entries))
