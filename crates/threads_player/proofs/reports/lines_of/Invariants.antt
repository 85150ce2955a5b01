-- No file of the period was met: the first one is among the logs still to come.
use Rattle.std.proofs.Common.{◌≡◌, map, drop}
use Rattle.node_threads.specs.Words.{log_of}
use Rattle.threads_player.specs.Reports.{lines_of, told_in}
use Rattle.threads_player.proofs.reports.lines_of.Given as goal

abbrev pub invariant-loop-log : goal.invariant-loop-log
invariant-loop-log l = lines_of l.period (told_in (map log_of l.logs)) ≡ lines_of l.period (told_in (map log_of (drop l.log-index l.logs)))
