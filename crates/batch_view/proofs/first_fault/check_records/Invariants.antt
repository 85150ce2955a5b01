use Rattle.std.proofs.Common.{◌+◌, drop, IsOk}
use Rattle.metering_model.specs.BatchReading.{lines_in, records_in}
use Rattle.batch_view.specs.Inner.Lines.{IsBehindLines}
use Rattle.batch_view.proofs.first_fault.check_records.Given as goal

-- The records so far are well, and `at` stands behind them.
abbrev pub invariant-loop-index : goal.invariant-loop-index
invariant-loop-index l = record {
  so_far : IsOk (records_in l.version 2 l.index (drop 1 (lines_in l.text).lines));
  behind : IsBehindLines l.text (l.index + 1) l.at;
}
