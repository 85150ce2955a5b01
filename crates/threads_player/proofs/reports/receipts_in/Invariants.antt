-- The receipts of the logs so far; a log has fewer than 2^64.
use Rattle.std.proofs.Common.{◌≡◌, ◌*◌, ◌≤◌, length, map, take}
use Rattle.node_threads.specs.Words.{log_of}
use Rattle.threads_player.specs.Reports.{told_in}
use Rattle.threads_player.proofs.reports.receipts_in.Given as goal

abbrev pub invariant-loop-log : goal.invariant-loop-log
invariant-loop-log l = record {
  receipts : l.receipts ≡ length (told_in (map log_of (take l.log-index l.logs)));
  few : l.receipts ≤ 18446744073709551615 * l.log-index;
}
