use Rattle.std.proofs.Common.{◌≡◌, ◌++◌}
use Rattle.batch_store.specs.Inner.Shelves.{contents, filed_up_to}
use Rattle.batch_store.proofs.shelf.share_filed.Given as goal

-- what is shared so far, and what is left
abbrev pub invariant-loop-seq : goal.invariant-loop-seq
invariant-loop-seq l = contents l.part.entries ++ contents l.seq-iterator ≡ contents (filed_up_to l.last l.filed.entries)
