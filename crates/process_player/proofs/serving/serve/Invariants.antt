-- All that was asked was answered, and no call failed.
use Rattle.std.proofs.Common.{◌≡◌, ◌<◌, ◌≤◌, length}
use Rattle.process_player.specs.Inner.Calls.{AreTaken}
use Rattle.process_player.specs.Inner.Reading.{Continues}
use Rattle.process_player.proofs.serving.serve.Given as goal

abbrev pub invariant-loop : goal.invariant-loop
invariant-loop g l = record {
  serves : Continues l.fn.process l.process l.fn.unread.bytes l.unread.bytes (g.S.Source.remaining l.fn.source) (g.S.Source.remaining l.source)
      (g.W.Sink.contents l.fn.writer) (g.W.Sink.contents l.writer);
  taken : AreTaken l.counter l.fn.unread.bytes l.unread.bytes (g.S.Source.remaining l.fn.source) (g.S.Source.remaining l.source);
  short : l.unread.read ≤ 4_294_967_296;
  at_hand : length l.unread.bytes < 65_536;
  reads : g.S.Source.failed_calls l.source ≡ g.S.Source.failed_calls l.fn.source;
  writes : g.W.Sink.failed_calls l.writer ≡ g.W.Sink.failed_calls l.fn.writer;
}
