-- No file of the period was met: the first one is among the receipts still to come, or behind them.
use Rattle.std.proofs.Common.{◌≡◌, ◌++◌, List, drop}
use Rattle.node_threads.specs.Words.{Told}
use Rattle.threads_player.specs.Reports.{lines_of}
use Rattle.threads_player.proofs.reports.first_lines.Given as goal

abbrev pub invariant-loop-one : goal.invariant-loop-one
invariant-loop-one l = (rest : List Told) → lines_of l.period (l.done ++ rest) ≡ lines_of l.period (drop l.one-index l.done ++ rest)
