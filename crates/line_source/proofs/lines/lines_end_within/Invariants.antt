-- So many lines end there, and nothing was taken.
use Rattle.std.proofs.Common.{◌-◌, ◌≡◌, ◌≤◌, []}
use Rattle.line_source.specs.Lines.{AreBetween, AreShort}
use Rattle.line_source.specs.Reading.{ReadsUpTo, ReadsWhile, Takes}
use Rattle.line_source.proofs.lines.lines_end_within.Given as goal

abbrev pub invariant-loop-passed : goal.invariant-loop-passed
invariant-loop-passed g l = record {
  between : AreBetween l.from l.end l.unread.bytes l.passed;
  few : l.passed ≤ l.count;
  takes : Takes l.fn.unread.bytes l.unread.bytes l.fn.unread.read l.unread.read (g.S.Source.remaining l.fn.source) (g.S.Source.remaining l.source) [];
  block : ReadsUpTo l.most l.fn.unread.bytes l.unread.bytes;
  last : ReadsWhile (AreShort l.from l.count l.most) l.fn.unread.bytes l.unread.bytes;
  short : l.unread.read ≤ 4_294_967_296;
  quiet : g.S.Source.failed_calls l.source ≡ g.S.Source.failed_calls l.fn.source;
}

abbrev pub decreases-loop-passed : goal.decreases-loop-passed
decreases-loop-passed g l = l.count - l.passed
