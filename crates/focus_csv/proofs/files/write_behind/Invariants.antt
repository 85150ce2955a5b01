use Rattle.std.proofs.Common.{◌≡◌, ◌++◌, List, ℕ, drop}
use Rattle.std.specs.Io.KnownBytes.{Appends}
use Rattle.metering_model.specs.File.{file}
use Rattle.focus_csv.specs.Rows.{batch_lines}
use Rattle.focus_row.specs.Rows.{joined}
use Rattle.focus_csv.proofs.files.write_behind.Given as goal

-- Some of the file was written, the text comes next, and the lines of the batches still to come are the rest; no call failed.
abbrev pub invariant-loop-k : goal.invariant-loop-k
invariant-loop-k g l =
    (written : List ℕ)
    × (written ++ (l.text.items ++ batch_lines (drop l.k l.batches)) ≡ file (joined l.batches))
    × Appends (g.W.Sink.contents l.fn.sink) (g.W.Sink.contents l.sink) written
    × (g.W.Sink.failed_calls l.sink ≡ g.W.Sink.failed_calls l.fn.sink)
