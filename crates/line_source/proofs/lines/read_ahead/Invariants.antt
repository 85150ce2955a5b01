-- More was read, and nothing taken.
use Rattle.std.proofs.Common.{◌-◌, ◌≡◌, ◌<◌, ◌≤◌, [], length}
use Rattle.line_source.specs.Reading.{ReadsWhile, Takes}
use Rattle.line_source.proofs.lines.read_ahead.Given as goal

abbrev pub invariant-loop-unread : goal.invariant-loop-unread
invariant-loop-unread g l = record {
  takes : Takes l.fn.unread.bytes l.unread.bytes l.fn.unread.read l.unread.read (g.S.Source.remaining l.fn.source) (g.S.Source.remaining l.source) [];
  last : ReadsWhile (λ held. length held < l.wanted) l.fn.unread.bytes l.unread.bytes;
  short : l.unread.read ≤ 4_294_967_296;
  quiet : g.S.Source.failed_calls l.source ≡ g.S.Source.failed_calls l.fn.source;
}

abbrev pub decreases-loop-unread : goal.decreases-loop-unread
decreases-loop-unread g l = 4_294_967_297 - l.unread.read
