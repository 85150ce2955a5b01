-- What is told of the periods so far stands behind what was there.
use Rattle.std.proofs.Common.{◌≡◌, ◌++◌, map, flat_map}
use Rattle.std.specs.List.{range_with_len}
use Rattle.node_threads.specs.Words.{log_of}
use Rattle.threads_player.specs.Reports.{period_text, told_in}
use Rattle.threads_player.proofs.reports.put_periods.Given as goal

abbrev pub invariant-loop-period : goal.invariant-loop-period
invariant-loop-period l = l.text.items ≡ l.initial.text.items ++ flat_map (period_text (told_in (map log_of l.logs))) (range_with_len 0 l.period)
