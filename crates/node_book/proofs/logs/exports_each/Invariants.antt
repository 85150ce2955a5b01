use Rattle.std.proofs.Common.{◌≡◌, ℕ, ◌<◌}
use Rattle.node_book.proofs.Exports.{count_of}
use Rattle.node_book.proofs.logs.exports_each.Given as goal

abbrev pub invariant-loop-period : goal.invariant-loop-period
invariant-loop-period l = (period : ℕ) → period < l.period → count_of l.done period ≡ 1
