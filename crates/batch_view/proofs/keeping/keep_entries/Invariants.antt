use Rattle.batch_view.specs.Inner.Kept.{KeepsEntries}
use Rattle.batch_view.proofs.keeping.keep_entries.Given as goal

-- The records so far are kept, and `at` stands behind them.
abbrev pub invariant-loop-index : goal.invariant-loop-index
invariant-loop-index l = KeepsEntries l.version l.text l.index l.at l.entries.items
