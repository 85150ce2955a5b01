-- Lines were taken and written, fewer by those that lack.
use Rattle.std.proofs.Common.{◌≡◌, ◌≤◌}
use Rattle.period_file.specs.Inner.Reading.{Copies}
use Rattle.period_file.proofs.files.copy_lines.Given as goal

abbrev pub invariant-loop-lacking : goal.invariant-loop-lacking
invariant-loop-lacking g l = record {
  copied : Copies l.count l.lacking l.fn.unread.bytes l.unread.bytes l.fn.unread.read l.unread.read
      (g.S.Source.remaining l.fn.source) (g.S.Source.remaining l.source) (g.W.Sink.contents l.fn.writer) (g.W.Sink.contents l.writer);
  short : l.unread.read ≤ 4_294_967_296;
  quiet : (g.S.Source.failed_calls l.source ≡ g.S.Source.failed_calls l.fn.source) × (g.W.Sink.failed_calls l.writer ≡ g.W.Sink.failed_calls l.fn.writer);
}

abbrev pub decreases-loop-lacking : goal.decreases-loop-lacking
decreases-loop-lacking g l = l.lacking
