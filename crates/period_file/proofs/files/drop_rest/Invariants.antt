-- Bytes were read, and some of them taken.
use Rattle.std.proofs.Common.{◌-◌, ◌≡◌, ◌≤◌, List, ℕ}
use Rattle.line_source.specs.Reading.{Takes}
use Rattle.period_file.proofs.files.drop_rest.Given as goal

abbrev pub invariant-loop-is_more : goal.invariant-loop-is_more
invariant-loop-is_more g l = record {
  taken : (taken : List ℕ) × Takes l.fn.unread.bytes l.unread.bytes l.fn.unread.read l.unread.read (g.S.Source.remaining l.fn.source) (g.S.Source.remaining l.source) taken;
  short : l.unread.read ≤ 4_294_967_296;
  quiet : g.S.Source.failed_calls l.source ≡ g.S.Source.failed_calls l.fn.source;
}

abbrev pub decreases-loop-is_more : goal.decreases-loop-is_more
decreases-loop-is_more g l = 4_294_967_297 - l.unread.read
