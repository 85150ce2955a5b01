-- A part of the line was taken, and more was read only while the line did not end.
use Rattle.std.proofs.Common.{◌-◌, ◌≡◌, ◌≤◌}
use Rattle.line_source.proofs.Taking.{PassesPart}
use Rattle.line_source.proofs.lines.pass_line.Given as goal

abbrev pub invariant-loop-unread : goal.invariant-loop-unread
invariant-loop-unread g l = record {
  passed : PassesPart l.fn.unread.bytes l.unread.bytes l.fn.unread.read l.unread.read (g.S.Source.remaining l.fn.source) (g.S.Source.remaining l.source);
  short : l.unread.read ≤ 4_294_967_296;
  quiet : g.S.Source.failed_calls l.source ≡ g.S.Source.failed_calls l.fn.source;
}

abbrev pub decreases-loop-unread : goal.decreases-loop-unread
decreases-loop-unread g l = 4_294_967_297 - l.unread.read
