use Rattle.std.proofs.Common.{◌-◌, ◌≡◌, ◌≤◌, length, take}
use Rattle.std.specs.Io.KnownBytes.{Appends}
use Rattle.counted_io.proofs.writing.write_all.Given as goal

-- the bytes that were sent, and no failed call
abbrev pub invariant-loop-sent : goal.invariant-loop-sent
invariant-loop-sent g l = record {
  within : l.sent ≤ length l.bytes;
  written : Appends (g.S.Sink.contents l.fn.sink) (g.S.Sink.contents l.sink) (take l.sent l.bytes);
  quiet : g.S.Sink.failed_calls l.sink ≡ g.S.Sink.failed_calls l.fn.sink;
}

abbrev pub decreases-loop-sent : goal.decreases-loop-sent
decreases-loop-sent g l = length l.bytes - l.sent
