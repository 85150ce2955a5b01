use Rattle.std.proofs.Common.{◌≡◌, ℕ, ◌<◌, map, Some, slice_get}
use Rattle.node_book.specs.Books.{Log}
use Rattle.node_book.specs.Kept.{entry_of}
use Rattle.node_book.specs.Logs.{log_of, plan_of}
use Rattle.node_book.specs.Agreement.{IsLogAt}
use Rattle.node_book.proofs.agreeing.are_right.Given as goal

abbrev pub invariant-loop-place : goal.invariant-loop-place
invariant-loop-place l = (place : ℕ) (log : Log) → place < l.place → slice_get (map log_of l.logs) place ≡ Some log → IsLogAt (plan_of l.plan) (map entry_of l.history) place log
