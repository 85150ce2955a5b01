use Rattle.std.proofs.Common.{◌≡◌, ℕ, ◌<◌, map, Some, slice_get, true}
use Rattle.metering_model.specs.History.{Entry}
use Rattle.node_book.specs.Kept.{entry_of}
use Rattle.node_book.specs.Logs.{plan_of}
use Rattle.node_book.specs.Agreement.{may_do}
use Rattle.node_book.proofs.agreeing.are_allowed.Given as goal

abbrev pub invariant-loop-entry : goal.invariant-loop-entry
invariant-loop-entry l = (index : ℕ) (e : Entry) → index < l.entry-index → slice_get (map entry_of l.history) index ≡ Some e → may_do (plan_of l.plan) e.who e.event ≡ true
