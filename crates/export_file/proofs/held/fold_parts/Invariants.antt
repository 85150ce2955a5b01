-- The lines of the batches so far stand behind the header line, and were counted.
use Rattle.std.proofs.Common.{◌≡◌, ◌≤◌, ◌-◌, ◌++◌, ◌∷◌, [], length, take}
use Rattle.metering_model.specs.File.{header_line}
use Rattle.metering_model.specs.Transcript.{line_count}
use Rattle.focus_csv.specs.Rows.{batch_lines}
use Rattle.export_file.proofs.held.fold_parts.Given as goal

abbrev pub invariant-loop-from : goal.invariant-loop-from
invariant-loop-from l = record {
  within : l.from ≤ length l.batches;
  put : l.folded ++ l.part.items ≡ (header_line ++ 10 ∷ []) ++ batch_lines (take l.from l.batches);
  lines : l.lines ≡ line_count l.folded;
}

abbrev pub decreases-loop-from : goal.decreases-loop-from
decreases-loop-from l = length l.batches - l.from
