use Rattle.std.proofs.Common.{◌≡◌, ◌++◌}
use Rattle.std.specs.List.{flat_map}
use Rattle.metering_model.specs.File.{row_text}
use Rattle.focus_csv.specs.Inner.Beginnings.{BeginsWith}
use Rattle.focus_csv.proofs.files.put_walk.Given as goal

-- The text and the lines of the rows that are left are what they were at the start, and the text begins with the one there.
abbrev pub invariant-loop-walk : goal.invariant-loop-walk
invariant-loop-walk l = record {
  put : l.text.items ++ flat_map row_text l.walk.rows ≡ l.initial.text.items ++ flat_map row_text l.initial.walk.rows;
  begins : BeginsWith l.text.items l.initial.text.items;
}

abbrev pub decreases-loop-walk : goal.decreases-loop-walk
decreases-loop-walk l = l.walk.records
