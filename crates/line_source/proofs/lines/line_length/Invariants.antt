-- No line feed stands in what was searched, and nothing was taken.
use Rattle.std.proofs.Common.{◌-◌, ◌≡◌, ◌≤◌, [], length, take, drop, true}
use Rattle.metering_model.specs.Batch.{lacks}
use Rattle.line_source.specs.Inner.Wants.{IsLineShort}
use Rattle.line_source.specs.Reading.{ReadsUpTo, ReadsWhile, Takes}
use Rattle.line_source.proofs.lines.line_length.Given as goal

abbrev pub invariant-loop-length : goal.invariant-loop-length
invariant-loop-length g l = record {
  from : l.from ≤ length l.unread.bytes;
  within : l.scanned ≤ length (drop l.from l.unread.bytes);
  scanned : lacks 10 (take l.scanned (drop l.from l.unread.bytes)) ≡ true;
  takes : Takes l.fn.unread.bytes l.unread.bytes l.fn.unread.read l.unread.read (g.S.Source.remaining l.fn.source) (g.S.Source.remaining l.source) [];
  block : ReadsUpTo l.most l.fn.unread.bytes l.unread.bytes;
  last : ReadsWhile (IsLineShort l.from l.most) l.fn.unread.bytes l.unread.bytes;
  short : l.unread.read ≤ 4_294_967_296;
  quiet : g.S.Source.failed_calls l.source ≡ g.S.Source.failed_calls l.fn.source;
}

abbrev pub decreases-loop-length : goal.decreases-loop-length
decreases-loop-length g l = 4_294_967_297 - l.unread.read
