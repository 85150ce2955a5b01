use Rattle.std.proofs.Common.{◌≡◌, ◌+◌, [], ◌++◌, ◌≤◌, length}
use Rattle.metering_model.specs.BatchReading.{lines_in}
use Rattle.metering_model.specs.Transcript.{line_count}
use Rattle.fault_lines.specs.UnknownKeys.{keys_left, told_along}
use Rattle.fault_lines.proofs.key_lines.put_along.Given as goal

-- The lines that are left tell what is still to be told of the keys that are left.
abbrev pub invariant-loop-index : goal.invariant-loop-index
invariant-loop-index l =
    (l.fn.told.items ++ told_along (l.opening + 1) [] l.fn.keys.items (lines_in l.text).lines
    ≡ l.told.items ++ told_along (l.opening + 1 + l.index) l.table l.keys.items (lines_in l.rest).lines)
    × (keys_left [] l.fn.keys.items (lines_in l.text).lines ≡ keys_left l.table l.keys.items (lines_in l.rest).lines)
    × (length (lines_in l.rest).lines + l.index ≤ line_count l.text)
