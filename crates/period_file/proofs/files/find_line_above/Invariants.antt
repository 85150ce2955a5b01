-- Lines were taken, and none stands above a file of the period.
use Rattle.std.proofs.Common.{◌-◌, ◌+◌, ◌≡◌, ◌≤◌, length}
use Rattle.period_file.specs.Inner.Reading.{Passes}
use Rattle.period_file.proofs.files.find_line_above.Given as goal

abbrev pub invariant-loop-told : goal.invariant-loop-told
invariant-loop-told g l = record {
  passed : Passes l.fn.period l.fn.unread.bytes l.unread.bytes l.fn.unread.read l.unread.read (g.S.Source.remaining l.fn.source) (g.S.Source.remaining l.source);
  short : l.unread.read ≤ 4_294_967_296;
  quiet : g.S.Source.failed_calls l.source ≡ g.S.Source.failed_calls l.fn.source;
}

abbrev pub decreases-loop-told : goal.decreases-loop-told
decreases-loop-told g l = 4_294_967_297 - l.unread.read + length l.unread.bytes
