use Rattle.std.proofs.Common.{◌≡◌, ℕ, ◌≤◌, take, count_by}
use Rattle.node_book.specs.Agreement.{is_export_of}
use Rattle.node_book.proofs.logs.are_within.Given as goal

abbrev pub invariant-loop-one : goal.invariant-loop-one
invariant-loop-one l = (period : ℕ) → l.periods ≤ period → count_by (λ t. is_export_of period t.reply) (take l.one-index l.done) ≡ 0
