use Rattle.std.proofs.Common.{ℕ, ◌<◌, get_or}
use Rattle.batch_view.specs.declared.owned.Amendment.{Amendment}
use Rattle.batch_store.specs.Inner.Amenders.{IsListed, KeepsListed}
use Rattle.batch_store.proofs.amenders.list_each.Given as goal

-- what was listed is so still, and so are those that were passed; the last sequence is listed, where it is an earlier one
abbrev pub invariant-loop-amendment : goal.invariant-loop-amendment
invariant-loop-amendment l =
    KeepsListed l.fn.pairs.keys l.pairs.keys
    × (l.last < l.by → IsListed l.last l.by l.pairs.keys)
    × ((k : ℕ) (d : Amendment) → k < l.amendment-index → (get_or l.amendments k d).seq < l.by → IsListed (get_or l.amendments k d).seq l.by l.pairs.keys)
