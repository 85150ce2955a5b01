use Rattle.std.proofs.Common.{◌≡◌, ℕ, ◌<◌, map, Some, slice_get, true}
use Rattle.metering_model.specs.History.{Entry}
use Rattle.node_book.specs.Kept.{entry_of}
use Rattle.node_book.specs.Whole.{has_room}
use Rattle.node_book.proofs.agreeing.is_never_full.Given as goal

abbrev pub invariant-loop-entry : goal.invariant-loop-entry
invariant-loop-entry l = (index : ℕ) (e : Entry) → index < l.entry-index → slice_get (map entry_of l.history) index ≡ Some e → has_room e.reply ≡ true
