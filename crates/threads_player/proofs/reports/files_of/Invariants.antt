-- The files of the logs so far; a log has fewer than 2^64.
use Rattle.std.proofs.Common.{◌≡◌, ◌*◌, ◌≤◌, map, take}
use Rattle.node_threads.specs.Words.{log_of}
use Rattle.threads_player.specs.Reports.{files_of, told_in}
use Rattle.threads_player.proofs.reports.files_of.Given as goal

abbrev pub invariant-loop-log : goal.invariant-loop-log
invariant-loop-log l = record {
  files : l.files ≡ files_of l.period (told_in (map log_of (take l.log-index l.logs)));
  few : l.files ≤ 18446744073709551615 * l.log-index;
}
