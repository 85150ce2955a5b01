-- The header line and the rooms so far were written, and no call failed.
use Rattle.std.proofs.Common.{◌≡◌, ◌++◌, ◌∷◌, [], take}
use Rattle.std.specs.Io.KnownBytes.{Appends}
use Rattle.metering_model.specs.File.{header_line}
use Rattle.export_file.specs.Inner.Parts.{texts_in}
use Rattle.export_file.proofs.split.write_rooms.Given as goal

abbrev pub invariant-loop-i : goal.invariant-loop-i
invariant-loop-i g l = record {
  written : Appends (g.W.Sink.contents l.fn.sink) (g.W.Sink.contents l.sink) ((header_line ++ 10 ∷ []) ++ texts_in (take l.i l.rooms));
  count : g.W.Sink.failed_calls l.sink ≡ g.W.Sink.failed_calls l.fn.sink;
}
