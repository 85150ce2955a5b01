use Rattle.std.proofs.Common.{◌-◌, ◌≡◌, ◌≤◌, take, vec_len}
use Rattle.std.specs.Io.KnownBytes.{Consumes}
use Rattle.counted_io.proofs.reading.read_to_limit.Given as goal

-- the bytes that came, and no failed call
abbrev pub invariant-loop-filled : goal.invariant-loop-filled
invariant-loop-filled g l = record {
  within : l.filled ≤ vec_len l.bytes;
  bounded : vec_len l.bytes ≤ l.most;
  consumed : Consumes (g.S.Source.remaining l.fn.source) (g.S.Source.remaining l.source) (take l.filled l.bytes.items);
  quiet : g.S.Source.failed_calls l.source ≡ g.S.Source.failed_calls l.fn.source;
}

abbrev pub decreases-loop-filled : goal.decreases-loop-filled
decreases-loop-filled g l = l.most - l.filled
